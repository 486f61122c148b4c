-- A product of two numbers of Z[ω] whose coefficients need more room than their factors', as a number of the ring
-- (OpenQASM 3.0 live specification, "Gates"; Cross et al. 2022: products of entries of matrices and states).
use Rattle.qt_ring.specs.declared.omega.Omega.{Omega}
use Rattle.qt_ring.specs.declared.wide.Wide.{Wide}

abbrev pub number_of : Wide → Omega
number_of w = record { c0 = w.c0; c1 = w.c1; c2 = w.c2; c3 = w.c3 }
