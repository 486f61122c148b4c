-- A form and a statement without places, one layer at a time.
use Rattle.std.proofs.Common.{◌≡◌}
use Rattle.qt_tree.specs.declared.statement.Statement.{Statement}
use Rattle.qt_tree.specs.declared.statement.StatementForm.{StatementForm, roll-StatementForm}
use Rattle.qt_tree.specs.declared.statement.StatementForm.TheOpen.{StatementForm-F}
use Rattle.qt_tree.specs.declared.statement.StatementForm.TheFolds.{map-StatementForm, fold-roll-StatementForm, fold_out-Statement}
use Rattle.qt_round_trip.specs.Places.{origin, bare_step, bare_statement, bare_form}

abbrev pub bared : StatementForm-F StatementForm Statement → StatementForm-F StatementForm Statement
bared = map-StatementForm StatementForm Statement StatementForm Statement bare_form bare_statement

pub bare_rolls : (layer : StatementForm-F StatementForm Statement) → bare_form (roll-StatementForm layer) ≡ roll-StatementForm (bared layer)
bare_rolls = fold-roll-StatementForm StatementForm Statement roll-StatementForm bare_step

pub bare_statement_is : (statement : Statement) → bare_statement statement ≡ record { place = origin; form = bare_form statement.form }
bare_statement_is = fold_out-Statement StatementForm Statement roll-StatementForm bare_step
