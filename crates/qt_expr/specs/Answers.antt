-- What reading an expression promises.
use Rattle.std.specs.Prelude.{◌≡◌, ℕ, List, None, Result, Ok, Err}
use Rattle.qt_tree.specs.declared.expression.Expr.{Expr}
use Rattle.qt_terminals.specs.Terminals.{PlacedTerminal, stream}
use Rattle.qt_grammar.specs.declared.refusal.Refusal.{Refusal}
use Rattle.qt_grammar.specs.Sorts.{expr}
use Rattle.qt_grammar.specs.Language.{expression}
use Rattle.qt_grammar.specs.Spelling.{limits_at}
use Rattle.qt_grammar.specs.Promise.{Answers}
use Rattle.qt_lookahead.specs.declared.refusal.ParseRefusal.{ParseRefusal}
use Rattle.qt_lookahead.specs.Refusals.{located}

-- The longest list of tokens from place `at` that opens an expression is one, within the limits, and this is its tree; or else
-- the refusal tells the first token of it that is too deep, or the token behind it.
abbrev pub AnswersExpression : List PlacedTerminal → ℕ → ℕ → Result (Expr × ℕ) ParseRefusal → Type 0
AnswersExpression ts depth at (Ok found) = Answers (stream ts) expr expression None at (limits_at depth) (Ok found)
AnswersExpression ts depth at (Err e) = (why : Refusal) × Answers (stream ts) expr expression None at (limits_at depth) (Err why) × (e ≡ located ts why)
