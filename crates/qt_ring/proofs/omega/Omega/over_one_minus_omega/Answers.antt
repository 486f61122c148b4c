use Rattle.std.proofs.Common.{◌≡◌, ◌∙◌, refl, sym, ap, arith, ◌+ℤ◌, ◌-ℤ◌}
use Rattle.std.proofs.lemmas.Int.{ints}
use Rattle.qt_ring.specs.Division.{parity}
use Rattle.qt_ring.proofs.Coefficients.{IsHalfOfFour, trip, trip_half, trip_half_less, trip_half_less_two, trip_half_less_three, fits_half_less_two, fits_half_less_three, size_of}
use Rattle.qt_ring.proofs.Dividing.{total, one_minus_omega_halves, one_minus_omega_multiple}
use Rattle.qt_ring.proofs.omega.Omega.over_one_minus_omega.Goals as goal

pub returns-then-is_odd-clause-value : goal.returns-then-is_odd-clause-value
returns-then-is_odd-clause-value c = λ d.
    let e = one_minus_omega_multiple c.args.self d in
    let o : parity (trip c.coefficient_sum-sum.result) ≡ 1 = c.if-is_odd.ensures.0 refl in
    absurd (omega (arith, ints))

pub overflow_sub-c1 : goal.overflow_sub-c1
overflow_sub-c1 c =
    let x = c.args.self in
    let v = c.requires in
    let h = c.half_of-c3.result in
    let s : total x ≡ h +ℤ h = omega (arith, ints) in
    fits_half_less_two h x.c0 x.c1 x.c2 x.c3 (record { value = s; a_in = v.c0_in; b_in = v.c1_in; c_in = v.c2_in; d_in = v.c3_in })

pub overflow_sub-c0 : goal.overflow_sub-c0
overflow_sub-c0 c =
    let x = c.args.self in
    let v = c.requires in
    let h = c.half_of-c3.result in
    let s : total x ≡ h +ℤ h = omega (arith, ints) in
    fits_half_less_three h x.c0 x.c1 x.c2 x.c3 (record { value = s; a_in = v.c0_in; b_in = v.c1_in; c_in = v.c2_in; d_in = v.c3_in })

pub returns-clause-value : goal.returns-clause-value
returns-clause-value c =
    let x = c.args.self in
    let v = c.requires in
    let h = c.half_of-c3.result in
    let s : total x ≡ h +ℤ h = omega (arith, ints) in
    let i : IsHalfOfFour h x.c0 x.c1 x.c2 x.c3 = record { value = s; a_in = v.c0_in; b_in = v.c1_in; c_in = v.c2_in; d_in = v.c3_in } in
    let e : trip h ≡ h = trip_half h x.c0 x.c1 x.c2 x.c3 i in
    one_minus_omega_halves x _ (s ∙ ap (λ t. t +ℤ t) (sym e))
    (trip_half_less h x.c0 x.c1 x.c2 x.c3 i ∙ ap (λ t. t -ℤ x.c3) (sym e))
    (trip_half_less_two h x.c0 x.c1 x.c2 x.c3 i ∙ ap (λ t. t -ℤ x.c3 -ℤ x.c2) (sym e))
    (trip_half_less_three h x.c0 x.c1 x.c2 x.c3 i ∙ ap (λ t. t -ℤ x.c3 -ℤ x.c2 -ℤ x.c1) (sym e))

pub returns-clause-size : goal.returns-clause-size
returns-clause-size c =
    let x = c.args.self in
    let v = c.requires in
    let h = c.half_of-c3.result in
    let s : total x ≡ h +ℤ h = omega (arith, ints) in
    let i : IsHalfOfFour h x.c0 x.c1 x.c2 x.c3 = record { value = s; a_in = v.c0_in; b_in = v.c1_in; c_in = v.c2_in; d_in = v.c3_in } in
    record {
      c0_in = size_of _ _ _ (trip_half_less_three h x.c0 x.c1 x.c2 x.c3 i) (omega (arith, ints));
      c1_in = size_of _ _ _ (trip_half_less_two h x.c0 x.c1 x.c2 x.c3 i) (omega (arith, ints));
      c2_in = size_of _ _ _ (trip_half_less h x.c0 x.c1 x.c2 x.c3 i) (omega (arith, ints));
      c3_in = size_of _ _ _ (trip_half h x.c0 x.c1 x.c2 x.c3 i) (omega (arith, ints));
    }
