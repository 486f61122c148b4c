use Rattle.std.proofs.Common.{arith}
use Rattle.qt_first.proofs.Lines.{lines-push, no_list, ArePlaced-push}
use Rattle.qt_first.proofs.read.statements.Goals as goal

pub returns-in_default : goal.returns-in_default
returns-in_default c =
    no_list c.args.registers.qubits c.args.registers.bits c.loop-rest.statements.items c.args.text.now c.loop-rest.rest.now c.requires.few_qubits c.requires.few_bits c.loop-rest.invariant.placed c.loop-rest.invariant.spelled (grind arith) c.in_default.ensures

pub loop-rest-preserved : goal.loop-rest-preserved
loop-rest-preserved c = record {
  spelled = rw c.in_ok-push.ensures.items (lines-push c.loop-rest.statements.items c.in-Some.next c.args.text.now c.loop-rest.rest.now c.in-Some.following.now c.loop-rest.invariant.spelled c.in-Some.ensures.1);
  placed = rw c.in_ok-push.ensures.items (ArePlaced-push c.args.registers.qubits c.args.registers.bits c.loop-rest.statements.items c.in-Some.next c.loop-rest.invariant.placed c.in-Some.ensures.0);
}
