-- What is made of what was read, as it was answered.
use Rattle.std.specs.Prelude.{◌≡◌, ◌≢◌, ℕ, List, Option, Some, Result, Ok, Err}
use Rattle.qt_tree.specs.declared.expression.Expr.{Expr}
use Rattle.qt_tree.specs.declared.expression.Expr.TheVariants as e
use Rattle.qt_tree.specs.declared.expression.InfixOperator.{InfixOperator}
use Rattle.qt_tree.specs.declared.expression.Scalar.{Scalar}
use Rattle.qt_tree.specs.declared.expression.Scalar.TheVariants as scalar_type
use Rattle.qt_terminals.specs.declared.terminal.Terminal.{Terminal}
use Rattle.qt_terminals.specs.declared.terminal.Terminal.TheVariants as w
use Rattle.qt_terminals.specs.Terminals.{PlacedTerminal}
use Rattle.qt_grammar.specs.declared.refusal.Refusal.{Refusal}
use Rattle.qt_grammar.specs.declared.refusal.Refusal.TheVariants.{OutOfMemory}
use Rattle.qt_grammar.specs.Outcome.{Outcome, and_then}
use Rattle.qt_grammar.specs.Language.{powered}
use Rattle.qt_lookahead.specs.OneToken.{read_exactly}

-- what was read before a token of the terminal with this number, and the place behind that, or why one of the two wasn't read
abbrev pub then_token : {A : Type 0} → List PlacedTerminal → ℕ → Outcome A → Outcome A
then_token tokens n out = and_then out (λ x m. and_then (read_exactly tokens n m) (λ k j. Ok (x, j)))

-- what was read where it may be left out
abbrev pub as_some : {A : Type 0} → Outcome A → Outcome (Option A)
as_some out = and_then out (λ x j. Ok (Some x, j))

-- the scalar type of this terminal with that size
abbrev pub sized_scalar : Terminal → Option Expr → Scalar
sized_scalar w.Bit = scalar_type.Bit
sized_scalar w.Int = scalar_type.Int
sized_scalar w.Uint = scalar_type.Uint
sized_scalar _ = scalar_type.Angle

-- the scalar type of this terminal with the size that was read
abbrev pub with_size : Terminal → Outcome (Option Expr) → Outcome Scalar
with_size k out = and_then out (λ x j. Ok (sized_scalar k x, j))

-- this base with the exponent that was read, if there was one
abbrev pub with_exponent : Expr → Outcome (Option Expr) → Outcome Expr
with_exponent base out = and_then out (λ x j. Ok (powered base x, j))

-- an operator between an operand and the one read behind it, and the place behind both
abbrev pub Joins : InfixOperator → Expr → Result (Expr × ℕ) Refusal → Result (Expr × ℕ) Refusal → Type 0
Joins operator left right (Ok made) = (x : Expr) × ((right ≡ Ok (x, made.1)) × (made.0 ≡ e.Binary operator left x))
Joins operator left right (Err why) = why ≢ OutOfMemory → right ≡ Err why
