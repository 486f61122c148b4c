-- What is known of an angle: its units of π/2^32, or nothing (OpenQASM 3.0 live specification, "Types and Casting", angles, and "Gates";
-- Cross et al. 2022). Nothing is known where reckoning the angle leaves a rest or passes the bound of phases, or where it rests on what
-- isn't known before the run. All arithmetic of angles is the exact one of phases.
use Rattle.std.specs.Prelude.{ℕ, zero, suc, List, [], ◌∷◌, ℤ, ◌+ℤ◌, ◌*ℤ◌, neg_ℤ, pos, Option, Some, None, Result, Ok, Err}
use Rattle.qt_phase.specs.declared.phase.PhaseFault.{PhaseFault}
use Rattle.qt_phase.specs.Phase.{phase_of, exact_quotient, eighth_of}
use Rattle.qt_ring.specs.declared.omega.Omega.{Omega}
use Rattle.qt_ring.specs.Ring.{one, root}

abbrev pub KnownUnits : Type 0
KnownUnits = Option ℤ

abbrev pub exactly : Result ℤ PhaseFault → KnownUnits
exactly (Ok units) = Some units
exactly (Err fault) = None

abbrev pub of_one : (ℤ → KnownUnits) → KnownUnits → KnownUnits
of_one f None = None
of_one f (Some a) = f a

abbrev pub of_two : (ℤ → ℤ → KnownUnits) → KnownUnits → KnownUnits → KnownUnits
of_two f None b = None
of_two f (Some a) None = None
of_two f (Some a) (Some b) = f a b

-- ---- operators, whose operands and results are phases

abbrev pub as_phase : ℤ → KnownUnits
as_phase a = exactly (phase_of a)

abbrev pub sum_of : ℤ → ℤ → KnownUnits
sum_of a b = of_two (λ x y. exactly (phase_of (x +ℤ y))) (as_phase a) (as_phase b)

abbrev pub difference_of : ℤ → ℤ → KnownUnits
difference_of a b = of_two (λ x y. exactly (phase_of (x +ℤ neg_ℤ y))) (as_phase a) (as_phase b)

abbrev pub negative_of : ℤ → KnownUnits
negative_of a = of_one (λ x. Some (neg_ℤ x)) (as_phase a)

abbrev pub product_of : ℤ → ℤ → KnownUnits
product_of k a = of_one (λ x. exactly (phase_of (x *ℤ k))) (as_phase a)

abbrev pub quotient_of : ℤ → ℤ → KnownUnits
quotient_of k a = of_one (λ x. exactly (exact_quotient x k)) (as_phase a)

-- ---- the angles of primitives

-- that of an inverse
abbrev pub opposite : KnownUnits → KnownUnits
opposite = of_one (λ a. Some (neg_ℤ a))

-- the angle with that number, and 0 behind the end of the list
abbrev pub nth_known : ℕ → List KnownUnits → KnownUnits
nth_known i [] = Some (pos 0)
nth_known zero (k ∷ ks) = k
nth_known (suc i) (k ∷ ks) = nth_known i ks

-- the number of π/4 that the angle is, where it is a multiple of π/4
abbrev pub eighth_known : KnownUnits → Option ℕ
eighth_known None = None
eighth_known (Some units) = eighth_of units

abbrev pub root_at : Option ℕ → Omega
root_at None = one
root_at (Some eighths) = root eighths

-- e^{iu} where the angle u is a multiple of π/4, and 1 where it isn't: no primitive is applied at such an angle
abbrev pub circle : KnownUnits → Omega
circle angle = root_at (eighth_known angle)
