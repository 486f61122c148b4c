-- The primitives as the code hands them on, and their products with states by their parts
-- (OpenQASM 3.0 live specification, "Gates", the built-in gates U and gphase; Cross et al. 2022).
use Rattle.std.specs.Prelude.{ℕ, List}
use Rattle.qt_ring.specs.declared.omega.Omega.{Omega}
use Rattle.qt_ring.specs.State.{State}
use Rattle.qt_kernel.specs.declared.gate.Controls.{Controls}
use Rattle.qt_kernel.specs.declared.gate.ControlledU.{ControlledU}
use Rattle.qt_kernel.specs.declared.primitive.FixedPrim.{FixedPrim}
use Rattle.qt_kernel.specs.declared.primitive.FixedPrim.TheVariants.{Turn, Phase}
use Rattle.qt_kernel.specs.Primitives.{product_of}

abbrev pub state_with : ℕ → List Omega → ℕ → State
state_with n es k = record { qubits = n; entries = es; halvings = k }

abbrev pub u_prim : ControlledU → FixedPrim
u_prim g = Turn g.controls.ones g.controls.zeros g.target g.angles.theta g.angles.phi g.angles.lambda

abbrev pub phase_prim : Controls → ℕ → FixedPrim
phase_prim c angle = Phase c.ones c.zeros angle

abbrev pub u_product : ControlledU → State → State
u_product g s = product_of (u_prim g) s
