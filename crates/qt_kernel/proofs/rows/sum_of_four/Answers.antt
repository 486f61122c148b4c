use Rattle.qt_kernel.proofs.Words.{total_is}
use Rattle.qt_kernel.proofs.RowSums.{four_is}
use Rattle.qt_kernel.proofs.rows.sum_of_four.Goals as goal

pub returns-clause-value : goal.returns-clause-value
returns-clause-value c =
    let p = c.requires.first in
    let q = c.requires.second in
    let r = c.requires.third in
    let s = c.requires.fourth in
    four_is c.args.first c.args.second c.args.third c.args.fourth _
    (total_is c.args.first.c0 c.args.second.c0 c.args.third.c0 c.args.fourth.c0 c.total.result p.c0_in q.c0_in r.c0_in s.c0_in c.total.ensures.size c.total.ensures.value)
    (total_is c.args.first.c1 c.args.second.c1 c.args.third.c1 c.args.fourth.c1 c.total-2.result p.c1_in q.c1_in r.c1_in s.c1_in c.total-2.ensures.size c.total-2.ensures.value)
    (total_is c.args.first.c2 c.args.second.c2 c.args.third.c2 c.args.fourth.c2 c.total-3.result p.c2_in q.c2_in r.c2_in s.c2_in c.total-3.ensures.size c.total-3.ensures.value)
    (total_is c.args.first.c3 c.args.second.c3 c.args.third.c3 c.args.fourth.c3 c.total-4.result p.c3_in q.c3_in r.c3_in s.c3_in c.total-4.ensures.size c.total-4.ensures.value)
