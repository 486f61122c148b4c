-- When two amplitudes are the same, and what each tells a hasher
-- (OpenQASM 3.0 live specification, "Types and Casting", quantum types; Cross et al. 2022).
use Rattle.std.specs.Prelude.{Bool, ◌++◌}
use Rattle.std.specs.Ordering.{int_eq, on, eq_of_both}
use Rattle.std.specs.Hash as fed
use Rattle.std.specs.Hash.{HashWrites}
use Rattle.qt_ring.specs.declared.omega.Omega.{Omega}

-- all four coefficients agree
abbrev pub same_amplitude : Omega → Omega → Bool
same_amplitude =
    eq_of_both (on (λ x. x.c0) int_eq)
    (eq_of_both (on (λ x. x.c1) int_eq)
    (eq_of_both (on (λ x. x.c2) int_eq) (on (λ x. x.c3) int_eq)))

-- its coefficients in turn
abbrev pub told_amplitude : Omega → HashWrites
told_amplitude x = fed.i64 x.c0 ++ (fed.i64 x.c1 ++ (fed.i64 x.c2 ++ fed.i64 x.c3))
