-- A target by all indexes behind its name, whatever brackets they stand in.
use Rattle.std.proofs.Common.{◌≡◌, ap}
use Rattle.qt_names.specs.Scopes.{finding}
use Rattle.qt_tree.specs.declared.place.Place.{Place}
use Rattle.qt_tree.specs.declared.statement.Target.{Target}
use Rattle.qt_typing.specs.declared.names.Names.{Names}
use Rattle.qt_typing.specs.Checked.{and_then}
use Rattle.qt_typing.specs.Indexes.{all_indexes}
use Rattle.qt_typing.specs.Expressions.{index_part}
use Rattle.qt_typing.specs.Targets.{target_at, target_of_kind}
use Rattle.qt_check_operands.specs.Parts.{index_parts}
use Rattle.qt_check_operands.proofs.EveryIndex.{all_of_map}

pub target_is : (names : Names) (place : Place) (target : Target) → target_at place target names
    ≡ and_then (finding names.scopes target.name place) (λ it. target_of_kind names place target.name (index_parts names place
    (all_indexes target.brackets)) it.what it)
unfolding target_at
target_is names place target =
    ap (λ t. and_then (finding names.scopes target.name place) (λ it. target_of_kind names place target.name t it.what it))
    (all_of_map (index_part names place) target.brackets)
