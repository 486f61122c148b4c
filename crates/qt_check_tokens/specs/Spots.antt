-- Where a statement stands, and how many tokens it has without those of its bodies.
use Rattle.std.specs.Prelude.{ℕ}
use Rattle.qt_tree.specs.declared.place.Place.{Place}
use Rattle.qt_tree.specs.declared.statement.StatementForm.{StatementForm, out-StatementForm}
use Rattle.qt_typed.specs.declared.statement.Spot.{Spot}
use Rattle.qt_typing.specs.Tokens.{statement_tokens}

abbrev pub form_tokens : StatementForm → ℕ
form_tokens form = statement_tokens (out-StatementForm form)

unfoldable pub spot : Place → StatementForm → Spot
spot place form = record { place = place; tokens = form_tokens form }
