-- A value of any type may be 0.
use Rattle.std.proofs.Common.{◌^◌, ◌<◌}
use Rattle.std.proofs.lemmas.Nat.{pow_pos}
use Rattle.qt_value.specs.Types.{width_of}
use Rattle.qt_value.specs.declared.types.ValueType.{ValueType}

pub zero_fits : (kind : ValueType) → 0 < 2 ^ width_of kind
zero_fits kind = pow_pos (width_of kind)
