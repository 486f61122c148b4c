-- The real numbers that weights and scales stand for.
-- A weight is the probability of a branch, and a scale |p|² of the factor p that is taken out of its state (OpenQASM 3.0 live specification,
-- "Quantum measurement and reset"; Cross et al. 2022).
use Rattle.qt_root2.specs.declared.scale.Scale.{Scale}
use Rattle.qt_root2.specs.declared.weight.Weight.{Weight}
use Rattle.qt_root2.specs.Real.{Real}
use Rattle.qt_root2.specs.Numerators.{weight_numerator}
use Rattle.qt_root2.specs.Scaling.{factor}
use Rattle.qt_reals.specs.Product.{least_of, times_real, two_power}

-- (a + b√2) / 2^96 over the least power of two
unfoldable pub real_of_weight : Weight → Real
real_of_weight w = least_of 96 (weight_numerator w)

-- 2^twos · ε^(2·units) · (2 − √2)^primes
abbrev pub real_of_scale : Scale → Real
real_of_scale s = times_real (two_power s.twos) (least_of 0 (factor s))
