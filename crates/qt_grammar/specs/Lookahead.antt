-- Which words a form begins with: FIRST, in the field's words. Aho, Lam, Sethi and Ullman, "Compilers", section 4.4.
use Rattle.std.specs.Prelude.{ℕ, Bool, true, false, ◌&&◌, if◌then◌else◌, List, [], ◌∷◌, ◌++◌}
use Rattle.qt_terminals.specs.declared.terminal.Terminal.TheVariants as w
use Rattle.qt_terminals.specs.Alphabet.{code}
use Rattle.qt_grammar.specs.Sorts.{Sort, Name, any, unary, block, single, an_index, a_range, a_set, an_entry, in_sizeof, in_array, parameters, gate_block}
use Rattle.qt_grammar.specs.Form.{Form, one, operator, counted, here, empty, as_tree, then_, either, maybe, nearest, chain, named}

-- the words that an expression, and a statement, begin with
abbrev pub begins_expr : List ℕ
begins_expr = code w.Minus ∷ code w.Bang ∷ code w.Tilde ∷ code w.Integer ∷ code w.BitText ∷ code w.Pi ∷ code w.Tau ∷ code w.True ∷ code w.False
    ∷ code w.LeftParen ∷ code w.Name ∷ code w.Bool ∷ code w.Bit ∷ code w.Int ∷ code w.Uint ∷ code w.Angle ∷ code w.SizeOf ∷ []

abbrev pub begins_scalar : List ℕ
begins_scalar = code w.Bool ∷ code w.Bit ∷ code w.Int ∷ code w.Uint ∷ code w.Angle ∷ []

abbrev pub begins_statement : List ℕ
begins_statement = code w.Bool ∷ code w.Bit ∷ code w.Int ∷ code w.Uint ∷ code w.Angle ∷ code w.Creg ∷ code w.Const ∷ code w.Let ∷ code w.Name
    ∷ code w.Inv ∷ code w.Pow ∷ code w.Ctrl ∷ code w.NegCtrl ∷ code w.GPhase ∷ code w.Measure ∷ code w.Reset ∷ code w.Barrier ∷ code w.If
    ∷ code w.While ∷ code w.For ∷ code w.Break ∷ code w.Continue ∷ code w.Return ∷ code w.EndWord ∷ []

-- FIRST of the forms that have a name; that it is theirs is tested
abbrev pub first_of : Name → List ℕ
first_of any = begins_expr
first_of unary = begins_expr
first_of block = begins_statement
first_of single = begins_statement
first_of an_index = code w.LeftBrace ∷ code w.Colon ∷ begins_expr
first_of a_range = code w.Colon ∷ begins_expr
first_of a_set = begins_expr
first_of an_entry = code w.LeftBrace ∷ begins_expr
first_of in_sizeof = code w.Name ∷ []
first_of in_array = begins_scalar
first_of parameters = code w.Qubit ∷ begins_scalar
first_of gate_block = code w.Inv ∷ code w.Pow ∷ code w.Ctrl ∷ code w.NegCtrl ∷ code w.GPhase ∷ code w.Name ∷ code w.Barrier ∷ []

-- does a form read no token at all?
abbrev pub nullable : {s : Sort} → Form s → Bool
nullable (one ws) = false
nullable (operator ws) = false
nullable (counted f) = nullable f
nullable here = true
nullable (empty x) = true
nullable (as_tree k f) = nullable f
nullable (then_ k f g) = nullable f && nullable g
nullable (either f g) = false
nullable (maybe f) = true
nullable (nearest ws f) = true
nullable (chain a b f g) = false
nullable (named n) = false

abbrev pub joined : List ℕ → Bool → List ℕ → List ℕ
joined xs b ys = if b then xs ++ ys else xs

-- FIRST: the words that a form begins with
abbrev pub first : {s : Sort} → Form s → List ℕ
first (one ws) = ws
first (operator ws) = ws
first (counted f) = first f
first here = []
first (empty x) = []
first (as_tree k f) = first f
first (then_ k f g) = joined (first f) (nullable f) (first g)
first (either f g) = first f ++ first g
first (maybe f) = first f
first (nearest ws f) = first f
first (chain a b f g) = first f
first (named n) = first_of n
