use Rattle.std.proofs.Common.{◌+◌, List, subst, sym, arith}
use Rattle.qt_ring.specs.declared.omega.Omega.{Omega}
use Rattle.qt_ring.specs.Ring.{nil}
use Rattle.qt_kernel.proofs.Phases.{Phasing, phasing_begins, phasing_small, turned_on, kept_on}
use Rattle.qt_kernel.proofs.gate.Controls.add_phase.Goals.{then-hold, else-hold}
use Rattle.qt_kernel.proofs.gate.Controls.add_phase.Goals as goal

pub loop-index-init : goal.loop-index-init
loop-index-init c = phasing_begins c.args.self c.args.angle c.args.entries.now

pub times_omega-requires : goal.times_omega-requires
unfolding nil
times_omega-requires c = phasing_small c.args.self c.args.angle c.args.entries.now c.loop-index.entries c.loop-index.index c.loop-index.auto.entries c.requires (omega arith) c.loop-index.invariant

pub loop-index-preserved : goal.loop-index-preserved
unfolding nil
loop-index-preserved c = elim c.if-hold.branch [
  | then-hold w ↦ subst (λ (es : List Omega). Phasing c.args.self c.args.angle c.args.entries.now es (c.loop-index.index + 1)) (sym w.entries-is)
      (turned_on c.args.self c.args.angle c.args.entries.now c.loop-index.entries c.loop-index.index c.hold.result _ (omega arith) c.hold.ensures w.if-hold.true w.times_omega.ensures.value c.loop-index.invariant)
  | else-hold w ↦ subst (λ (es : List Omega). Phasing c.args.self c.args.angle c.args.entries.now es (c.loop-index.index + 1)) (sym w.entries-is)
      (kept_on c.args.self c.args.angle c.args.entries.now c.loop-index.entries c.loop-index.index c.hold.result c.hold.ensures w.if-hold.false c.loop-index.invariant)
]

pub returns : goal.returns
returns c = λ i l. c.loop-index.invariant.done i (omega arith)
