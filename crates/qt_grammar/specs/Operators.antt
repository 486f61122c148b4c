-- The operators of an expression without their strengths: strength decides how tokens group, and not whether they spell an expression.
use Rattle.std.specs.Prelude.{ℕ, List, [], ◌∷◌}
use Rattle.qt_terminals.specs.declared.terminal.Terminal.TheVariants as w
use Rattle.qt_terminals.specs.Alphabet.{code}
use Rattle.qt_grammar.specs.Sorts.{expr, token, optional, several}
use Rattle.qt_grammar.specs.Form.{Form, operator, counted, then_, maybe, chain}
use Rattle.qt_grammar.specs.Language.{some, primary, factor, joined}

-- all binary operators but `**`, which belongs to the factor that it stands in
abbrev pub binary_operators : List ℕ
binary_operators = code w.OrOr ∷ code w.AndAnd ∷ code w.Or ∷ code w.Caret ∷ code w.And ∷ code w.EqualEqual ∷ code w.NotEqual ∷ code w.Less ∷ code w.LessEqual
    ∷ code w.Greater ∷ code w.GreaterEqual ∷ code w.ShiftLeft ∷ code w.ShiftRight ∷ code w.Plus ∷ code w.Minus ∷ code w.Star ∷ code w.Slash ∷ code w.Percent ∷ []

-- Factors with any binary operators between. A factor is a unary operator and its operand, or a primary with its exponent if there
-- is one. The tree, which groups all to the left, is of no account.
abbrev pub flat_expression : Form expr
flat_expression = counted (chain {s = expr} {t = token} {u = expr} (λ x. x) joined factor (operator binary_operators))

-- ---- unary operators, primaries and binary operators in turn

abbrev pub unary_operators : List ℕ
unary_operators = code w.Minus ∷ code w.Bang ∷ code w.Tilde ∷ []

-- { unary } primary
abbrev pub signed_primary : Form expr
signed_primary = then_ {s = optional (several token)} {t = expr} {u = expr} (λ signs x. x) (maybe {s = several token} (some {s = token} (operator unary_operators))) primary

-- signed primaries with any binary operators between, `**` among them
abbrev pub parts_in_turn : Form expr
parts_in_turn = counted (chain {s = expr} {t = token} {u = expr} (λ x. x) joined signed_primary (operator (code w.StarStar ∷ binary_operators)))
