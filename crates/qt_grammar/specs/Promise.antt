-- What reading promises: which outcome is right, by what spells a form and what opens it. A list of tokens 'opens' a form where it
-- is a viable prefix of it, in the field's words: Aho, Lam, Sethi and Ullman, "Compilers", section 4.1, on the errors of parsers.
use Rattle.std.specs.Prelude.{◌≡◌, ℕ, ◌+◌, ◌≤◌, List, Option, None, Result, Ok, Err}
use Rattle.qt_grammar.specs.declared.refusal.Refusal.{Refusal}
use Rattle.qt_grammar.specs.declared.refusal.Refusal.TheVariants.{Syntax, Nest, OutOfMemory}
use Rattle.qt_terminals.specs.declared.terminal.Terminal.TheVariants as w
use Rattle.qt_terminals.specs.Terminals.{PlacedTerminal, stream, with_terminal}
use Rattle.qt_grammar.specs.Sorts.{Sort, Value, program}
use Rattle.qt_grammar.specs.Form.{Form}
use Rattle.qt_grammar.specs.Outcome.{Outcome}
use Rattle.qt_grammar.specs.Language.{whole}
use Rattle.qt_grammar.specs.Spelling.{Limits, Spells, Opens, SpellsAtAll, OpensAtAll, SpellsProgram}

-- a form, read from a place on; `outer` is the number of operators before the outermost expression round that place
module _ (ts : ℕ → PlacedTerminal) (s : Sort) (f : Form s) (outer : Option ℕ) (i : ℕ) where
  -- the longest list of tokens that opens the form ends before place j; the limits play no part
  pub record LongestPrefix (j : ℕ) : Type 0 where
    pub opens : OpensAtAll ts s f outer i j
    pub longest : (k : ℕ) → OpensAtAll ts s f outer i k → k ≤ j

  -- that list is the form, with this tree and no other, and within the limits: none of its tokens is too deep
  pub record Tree (l : Limits) (v : Value s) (j : ℕ) : Type 0 where
    pub spells : Spells ts s f outer i l v j
    pub longest : LongestPrefix j
    pub only : (w : Value s) → SpellsAtAll ts s f outer i w j → w ≡ v

  -- that list isn't the form: the token behind it is the stopper
  pub record Stopper (n : ℕ) : Type 0 where
    pub longest : LongestPrefix n
    pub none : (v : Value s) → SpellsAtAll ts s f outer i v n → ⊥

  -- the first token that is too deep, or an operator too many: the tokens before it open the form within the limits, but with
  -- this one only within larger limits
  pub record FirstTooDeep (l : Limits) (n : ℕ) : Type 0 where
    pub before : Opens ts s f outer i l n
    pub limit : (k : ℕ) → Opens ts s f outer i l k → k ≤ n
    pub larger : OpensAtAll ts s f outer i (n + 1)

  -- the outcome is right: a tree; or the stopper, where no token before it is too deep; or the first token too deep, which
  -- stands before the stopper, if there is one, since with it the tokens still open the form
  abbrev pub Answers : Limits → Outcome (Value s) → Type 0
  Answers l (Ok z) = Tree l z.0 z.1
  Answers l (Err (Syntax n)) = Opens ts s f outer i l n × Stopper n
  Answers l (Err (Nest n)) = FirstTooDeep l n
  Answers l (Err OutOfMemory) = Unit {0}

-- ---- a program, which ends with the end of the text

module _ (ts : ℕ → PlacedTerminal) where
  -- the tokens spell this program within the limits, and no other whatever the limits
  pub record OnlyProgram (l : Limits) (p : Value program) : Type 0 where
    pub spells : SpellsProgram ts l p
    pub only : (m : Limits) (q : Value program) → SpellsProgram ts m q → q ≡ p

  -- the tokens spell no program whatever the limits, and this is the stopper; no token before it is too deep
  pub record NoProgram (l : Limits) (n : ℕ) : Type 0 where
    pub none : (m : Limits) (p : Value program) → SpellsProgram ts m p → ⊥
    pub longest : LongestPrefix ts program whole None 0 n
    pub before : Opens ts program whole None 0 l n

  abbrev pub Parses : Limits → Result (Value program) Refusal → Type 0
  Parses l (Ok p) = OnlyProgram l p
  Parses l (Err (Syntax n)) = NoProgram l n
  Parses l (Err (Nest n)) = FirstTooDeep ts program whole None 0 l n
  Parses l (Err OutOfMemory) = Unit {0}

-- A statement, or a gate call in a gate's body, could begin at the token at place n of a program: the terminal `barrier` in its
-- place opens. It begins both, and nothing else.
abbrev pub CouldBegin : List PlacedTerminal → ℕ → Type 0
CouldBegin all n = OpensAtAll (stream (with_terminal all n w.Barrier)) program whole None 0 (n + 1)
