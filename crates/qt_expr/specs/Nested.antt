-- A function value that reads expressions which stand within fewer levels.
use Rattle.std.specs.Prelude.{ℕ, ◌<◌, ◌≤◌, List, Result}
use Rattle.std.specs.declared.alloc.Global.{Global}
use denote.Ref.{Bor}
use Rattle.qt_tree.specs.declared.expression.Expr.{Expr}
use Rattle.qt_terminals.specs.Terminals.{PlacedTerminal}
use Rattle.qt_grammar.specs.declared.refusal.Refusal.{Refusal}
use Rattle.qt_lookahead.specs.declared.nesting.Nesting.{Nesting}
use Rattle.qt_grammar.specs.Outcome.{Says}
use Rattle.qt_expr.specs.Parser.{read_operation}

-- it may be called with fewer levels than these, at any strength of operators, and reads operands with operators
pub record Nests (levels : ℕ) (pre : Global → Bor (List PlacedTerminal) → Nesting → ℕ → ℕ → Type 0)
    (post : Global → Bor (List PlacedTerminal) → Nesting → ℕ → ℕ → Result (Expr × ℕ) Refusal → Type 0) : Type 0 where
  pub callable : (alloc : Global) (tokens : Bor (List PlacedTerminal)) (nesting : Nesting) (strength at : ℕ) → nesting.levels < levels → strength ≤ 10 → pre alloc tokens nesting strength at
  pub reads : (alloc : Global) (tokens : Bor (List PlacedTerminal)) (nesting : Nesting) (strength at : ℕ) (r : Result (Expr × ℕ) Refusal) → nesting.levels < levels → strength ≤ 10
      → post alloc tokens nesting strength at r → Says (read_operation tokens.now nesting.levels nesting.outer strength at) r
