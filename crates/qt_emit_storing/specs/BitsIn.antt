-- Which bits of a variable a target is, as the code that writes flat code has them (flat code is this profile's; OpenQASM 3.0 live
-- specification, "Types and Casting": index sets and slicing).
use Rattle.qt_flat_code.specs.Bits.{Bits, AllBits, EveryBit, OneBit}
use Rattle.qt_emit_storing.specs.declared.bits.TargetBits.{TargetBits}
use Rattle.qt_emit_storing.specs.declared.bits.TargetBits.TheVariants as target

abbrev pub bits_in : TargetBits → Bits
bits_in target.All = AllBits
bits_in (target.Every first step count) = EveryBit first step count
bits_in target.One = OneBit
