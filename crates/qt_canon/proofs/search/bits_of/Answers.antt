use Rattle.std.proofs.Common.{ap, ◌∙◌}
use Rattle.std.specs.Int.RustNames.{unsigned_abs}
use Rattle.qt_ring.proofs.Coefficients.{trip_is}
use Rattle.qt_canon.proofs.Bits.{four_bits}
use Rattle.qt_canon.proofs.search.bits_of.Goals as goal

pub returns : goal.returns
returns c = λ t. four_bits c.args.x _ _ _ _ t
    (c.unsigned_abs.ensures.value ∙ ap unsigned_abs (trip_is c.args.x.c0 c.requires.c0_in))
    (c.unsigned_abs-2.ensures.value ∙ ap unsigned_abs (trip_is c.args.x.c1 c.requires.c1_in))
    (c.unsigned_abs-3.ensures.value ∙ ap unsigned_abs (trip_is c.args.x.c2 c.requires.c2_in))
    (c.unsigned_abs-4.ensures.value ∙ ap unsigned_abs (trip_is c.args.x.c3 c.requires.c3_in))
