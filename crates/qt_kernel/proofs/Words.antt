-- Coefficients as the code keeps them, in words of 64 bits: within four times the largest of an amplitude nothing is lost.
use Rattle.std.proofs.Common.{◌≡◌, ◌+◌, ◌*◌, ◌≤◌, subst, sym, ap, ◌∙◌, arith, ℤ, ◌+ℤ◌}
use Rattle.std.specs.Int.RustNames.{unsigned_abs}
use mir.Val.{to_z, of_z}
use mir.Syntax.{w64}
use Rattle.std.proofs.lemmas.Int.{ints}
use Rattle.qt_ring.specs.declared.omega.Omega.{Omega}
use Rattle.qt_ring.specs.declared.TheConstants.{LARGEST}
use Rattle.qt_ring.specs.Ring.{plus, times, two_to}
use Rattle.qt_ring.specs.Division.{parity}
use Rattle.qt_ring.proofs.RingLaws.{within_plus, within_more}
use Rattle.qt_ring.proofs.Dividing.{times_two}
use Rattle.qt_vector.specs.States.{IsSmall}
use Rattle.qt_kernel.specs.Gates.{IsFourfold}

-- a whole number put into a word and read again
abbrev pub word : ℤ → ℤ
word z = to_z w64 (of_z w64 z)

pub word_is : (z : ℤ) → unsigned_abs z ≤ 4 * unsigned_abs LARGEST → word z ≡ z
word_is z h = omega (arith, ints)

pub parity-word : (z : ℤ) → unsigned_abs z ≤ 4 * unsigned_abs LARGEST → parity (word z) ≡ parity z
parity-word z h = ap parity (word_is z h)

pub total_is : (a b c d t : ℤ) → unsigned_abs a ≤ unsigned_abs LARGEST → unsigned_abs b ≤ unsigned_abs LARGEST → unsigned_abs c ≤ unsigned_abs LARGEST → unsigned_abs d ≤ unsigned_abs LARGEST → unsigned_abs t ≤ 4 * unsigned_abs LARGEST → t ≡ word a +ℤ word b +ℤ (word c +ℤ word d) → word t ≡ a +ℤ b +ℤ (c +ℤ d)
total_is a b c d t i j k l h e =
    word_is t h ∙ e
    ∙ ap (λ z. z +ℤ word b +ℤ (word c +ℤ word d)) (word_is a (omega arith))
    ∙ ap (λ z. a +ℤ z +ℤ (word c +ℤ word d)) (word_is b (omega arith))
    ∙ ap (λ z. a +ℤ b +ℤ (z +ℤ word d)) (word_is c (omega arith))
    ∙ ap (λ z. a +ℤ b +ℤ (c +ℤ z)) (word_is d (omega arith))

-- twice a small number
pub twice_is : (x r : Omega) → r ≡ plus x x → r ≡ times (two_to 1) x
twice_is x r e = e ∙ sym (times_two x)

pub twice_fourfold : (x r : Omega) → IsSmall x → r ≡ plus x x → IsFourfold r
twice_fourfold x r w e =
    subst IsFourfold (sym e) (within_more (unsigned_abs LARGEST + unsigned_abs LARGEST) (4 * unsigned_abs LARGEST) (plus x x) (omega arith) (within_plus (unsigned_abs LARGEST) (unsigned_abs LARGEST) x x w w))
