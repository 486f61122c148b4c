-- The limits at their edges: 64 and 65 open parentheses, 256 and 257 operators.
use Rattle.std.proofs.Common.{◌≡◌, ℕ, zero, suc, ◌+◌, List, [], ◌∷◌, ◌++◌, None, Ok, Err, refl}
use Rattle.qt_terminals.specs.declared.terminal.Terminal.{Terminal}
use Rattle.qt_terminals.specs.declared.terminal.Terminal.TheVariants as w
use Rattle.qt_terminals.specs.Terminals.{PlacedTerminal}
use Rattle.qt_grammar.specs.declared.refusal.Refusal.{Refusal}
use Rattle.qt_grammar.specs.declared.refusal.Refusal.TheVariants.{Nest, OutOfMemory}
use Rattle.qt_grammar.specs.Sorts.{Value, expr}
use Rattle.qt_grammar.specs.Outcome.{Outcome}
use Rattle.qt_grammar.specs.Language.{expression}
use Rattle.qt_grammar.specs.Spelling.{limits_at}
use Rattle.qt_grammar.proofs.Lists.{reading}

abbrev token : Terminal → ℕ → PlacedTerminal
token k n = record { terminal = k; spelling = []; place = record { file = 0; line = 1; column = 1 }; operators = n }

abbrev times : ℕ → Terminal → List PlacedTerminal
times zero k = []
times (suc n) k = token k 0 ∷ times n k

-- a number in so many parentheses
abbrev nested : ℕ → List PlacedTerminal
nested n = times n w.LeftParen ++ token w.Integer 0 ∷ times n w.RightParen ++ token w.Semicolon 0 ∷ token w.End 0 ∷ []

-- behind so many operators, so many more, each with a number before it
abbrev sum_behind : ℕ → ℕ → List PlacedTerminal
sum_behind k zero = token w.Integer k ∷ token w.Semicolon k ∷ token w.End k ∷ []
sum_behind k (suc n) = token w.Integer k ∷ token w.Plus k ∷ sum_behind (k + 1) n

abbrev stop_of : Outcome (Value expr) → Refusal × ℕ
stop_of (Ok z) = (OutOfMemory, z.1)
stop_of (Err e) = (e, 0)

deep_64 : stop_of (reading (nested 64) (limits_at 0) expression None 0) ≡ (OutOfMemory, 129)
unfolding reading
deep_64 = refl

deep_65 : stop_of (reading (nested 65) (limits_at 0) expression None 0) ≡ (Nest 65, 0)
unfolding reading
deep_65 = refl

long_256 : stop_of (reading (sum_behind 0 256) (limits_at 0) expression None 0) ≡ (OutOfMemory, 513)
unfolding reading
long_256 = refl

long_257 : stop_of (reading (sum_behind 0 257) (limits_at 0) expression None 0) ≡ (Nest 513, 0)
unfolding reading
long_257 = refl
