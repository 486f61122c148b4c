use Rattle.std.proofs.Common.{sym, subst}
use Rattle.qt_ring.specs.State.{State}
use Rattle.qt_ring.specs.Multiples.{IsReduced}
use Rattle.qt_vector.specs.States.{IsBounded}
use Rattle.qt_kernel.specs.declared.primitive.FixedPrim.{FixedPrim}
use Rattle.std.specs.Prelude.{OnErr}
use Rattle.qt_kernel.specs.Primitives.{product_of}
use Rattle.qt_kernel.proofs.kernel.turn.Goals as goal

pub returns-in-Turn-clause-fault : goal.returns-in-Turn-clause-fault
returns-in-Turn-clause-fault c =
    subst (λ (g : FixedPrim). OnErr c.apply_u.result ((t : State) → IsReduced (product_of g c.args.state.now) t → IsBounded t → ⊥)) (sym c.in-Turn.is) c.apply_u.ensures.fault
