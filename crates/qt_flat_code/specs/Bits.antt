-- Which bits of a variable a target is (flat code is this profile's; OpenQASM 3.0 live specification, "Types and Casting": index sets and
-- slicing). All steps of a target but those by an index are known before the run, and behind an index there is one bit.
use Rattle.std.specs.Prelude.{ℕ, ◌+◌, ◌*◌, min, List, [], ◌∷◌}
use Rattle.qt_value.specs.Types.{width_of}
use Rattle.qt_typed.specs.declared.expression.TypedStep.{TypedStep}
use Rattle.qt_typed.specs.declared.expression.TypedStep.TheVariants as step
use Rattle.qt_typed.specs.declared.expression.TypedTarget.{TypedTarget}
use Rattle.qt_meaning.specs.Places.{kind_of}

-- the variable as a whole; so many bits of it, of which bit i has the place first + i · step; or one bit, whose place is found in the run
pub data Bits : Type 0 where
  AllBits : Bits
  EveryBit : ℕ → ℕ → ℕ → Bits
  OneBit : Bits

-- a slice of bits; that of one bit is that bit. A step of more than 64 places goes to one place alone, as one of 64 does
abbrev pub sliced : ℕ → ℕ → ℕ → Bits → Bits
sliced start by count (EveryBit first step n) = EveryBit (first + start * step) (min (by * step) 64) count
sliced start by count bits = bits

abbrev pub bits_after : List TypedStep → Bits → Bits
bits_after [] bits = bits
bits_after (step.At index ∷ steps) bits = bits_after steps OneBit
bits_after (step.Slice start by count ∷ steps) bits = bits_after steps (sliced start by count bits)

-- what the first step begins with
abbrev pub first_bits_of : List TypedStep → ℕ → Bits
first_bits_of [] width = AllBits
first_bits_of steps width = EveryBit 0 1 width

abbrev pub first_bits : TypedTarget → Bits
first_bits target = first_bits_of target.steps (width_of (kind_of target.variable))

abbrev pub bits_of : TypedTarget → Bits
bits_of target = bits_after target.steps (first_bits target)
