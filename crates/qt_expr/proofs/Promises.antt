-- Reading an expression keeps its promise.
use Rattle.std.proofs.Common.{ℕ, ◌-◌, List, Result, None}
use Rattle.qt_terminals.specs.Terminals.{PlacedTerminal, stream}
use Rattle.qt_tree.specs.declared.expression.Expr.{Expr}
use Rattle.qt_grammar.specs.declared.refusal.Refusal.{Refusal}
use Rattle.qt_grammar.specs.Sorts.{expr}
use Rattle.qt_grammar.specs.Outcome.{Says}
use Rattle.qt_grammar.specs.Language.{expression}
use Rattle.qt_grammar.specs.Spelling.{limits_at}
use Rattle.qt_grammar.specs.Promise.{Answers}
use Rattle.qt_grammar.proofs.Parsers.{expression_answers}
use Rattle.qt_expr.specs.Parser.{read_expression}

pub kept : (ts : List PlacedTerminal) (depth at : ℕ) (r : Result (Expr × ℕ) Refusal) → Says (read_expression ts (64 - depth) None at) r → Answers (stream ts) expr expression None at (limits_at depth) r
unfolding read_expression
kept ts depth at r h = expression_answers ts depth at r h
