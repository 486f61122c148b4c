-- No statement and no item begins with `else`.
use Rattle.std.proofs.Common.{◌≡◌, ℕ, false, List, [], ◌∷◌, ◌++◌, map, Some, None, refl, sym, ◌∙◌, ap, subst}
use Rattle.qt_tree.specs.declared.expression.Expr.TheOpen as e
use Rattle.qt_tree.specs.declared.expression.Expr.TheOpen.{Scalar-F}
use Rattle.qt_tree.specs.declared.expression.Expr.TheFolds.{fold_out-Scalar}
use Rattle.qt_tree.specs.declared.expression.Scalar.{Scalar}
use Rattle.qt_tree.specs.declared.program.Item.{Item}
use Rattle.qt_tree.specs.declared.program.Item.TheVariants as i
use Rattle.qt_tree.specs.declared.statement.CalledGate.{CalledGate}
use Rattle.qt_tree.specs.declared.statement.CalledGate.TheVariants as g
use Rattle.qt_tree.specs.declared.statement.Modifier.{Modifier}
use Rattle.qt_tree.specs.declared.statement.Modifier.TheVariants as m
use Rattle.qt_tree.specs.declared.statement.Statement.{Statement}
use Rattle.qt_tree.specs.declared.statement.StatementForm.TheOpen as o
use Rattle.qt_tree.specs.declared.statement.StatementForm.TheOpen.{StatementForm-F}
use Rattle.qt_tree.specs.declared.statement.StatementForm.TheFolds.{fold_out-StatementForm}
use Rattle.qt_tree.specs.declared.statement.Statement.{out-Statement}
use Rattle.qt_terminals.specs.declared.terminal.Terminal.TheVariants as w
use Rattle.qt_terminals.specs.Alphabet.{code, terminal_of, reserved_words}
use Rattle.qt_grammar.specs.Form.{member}
use Rattle.qt_lexemes.specs.Lexemes.{Lexeme, joined}
use Rattle.qt_print.specs.Expressions.{expr_step, index_step, scalar_step, range_step, scalar_lexemes}
use Rattle.qt_print.specs.Statements.{Line, form_step, statement_step, modifying, gate_lexemes}
use Rattle.qt_print.specs.Programs.{item_lines}
use Rattle.qt_round_trip.proofs.lexemes.Spelling.{meaning}
use Rattle.qt_round_trip.proofs.lexemes.Written.{lexemes_of, Written}
use Rattle.qt_round_trip.proofs.reparsing.Streams.{Streams}
use Rattle.qt_round_trip.proofs.reparsing.Setting.{NoElse}
use Rattle.qt_round_trip.proofs.reparsing.Sentences.{statement_lexemes, statement_lexemes_is}

abbrev pub Starts : List Lexeme → Type 0
Starts [] = ⊥
Starts (first ∷ rest) = member (code (meaning first)) (code w.Else ∷ []) ≡ false

pub no_else : (z : Streams) (lexemes : List Lexeme) (i j : ℕ) → Starts lexemes → Written z.new lexemes i j → NoElse z i
no_else z [] i j h has = absurd h
no_else z (first ∷ rest) i j h has = ap (λ k. member (code k) (code w.Else ∷ [])) has.0 ∙ h

starts_append : (xs ys : List Lexeme) → Starts xs → Starts (xs ++ ys)
starts_append [] ys h = absurd h
starts_append (x ∷ xs) ys h = h

abbrev L : Type 0
L = List Lexeme

scalar_step_starts : (layer : Scalar-F L L L L) → Starts (scalar_step layer)
unfolding terminal_of reserved_words
scalar_step_starts e.Scalar::Bool = refl
scalar_step_starts _ = refl

scalar_starts : (scalar : Scalar) → Starts (scalar_lexemes scalar)
scalar_starts scalar = subst Starts (sym (fold_out-Scalar L L L L expr_step index_step scalar_step range_step scalar)) (scalar_step_starts _)

call_starts : (modifiers : List Modifier) (gate : CalledGate) (rest : List Lexeme) → Starts (joined (map modifying modifiers) ++ (gate_lexemes gate ++ rest))
unfolding terminal_of reserved_words
call_starts [] (g.Named text arguments) rest = refl
call_starts [] (g.GlobalPhase angle) rest = refl
call_starts (m.Inv ∷ more) gate rest = refl
call_starts (_ ∷ more) gate rest = refl

form_step_starts : (layer : StatementForm-F (List Line) (List Line)) → Starts (lexemes_of (form_step layer))
unfolding terminal_of reserved_words
form_step_starts (o.Declaration scalar text value) = starts_append _ _ (starts_append _ _ (starts_append _ _ (scalar_starts scalar)))
form_step_starts (o.Gate call) = starts_append _ _ (starts_append _ _ (call_starts call.modifiers call.gate _))
form_step_starts (o.If condition body None) = refl
form_step_starts (o.If condition body (Some other)) = refl
form_step_starts _ = refl

pub statement_starts : (statement : Statement) → Starts (statement_lexemes statement)
statement_starts statement = subst Starts (sym (statement_lexemes_is statement ∙ ap lexemes_of (fold_out-StatementForm (List Line) (List Line) form_step statement_step (out-Statement statement).form))) (form_step_starts _)

pub item_starts : (item : Item) → Starts (lexemes_of (item_lines item))
unfolding terminal_of reserved_words
item_starts (i.Statement statement) = statement_starts statement
item_starts _ = refl
