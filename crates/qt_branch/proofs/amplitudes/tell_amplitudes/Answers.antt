use Rattle.std.proofs.Common.{fold, get_or, take_all, rules, sym, ap, ◌∙◌}
use Rattle.std.proofs.hash.Loops.{each_more}
use Rattle.std.proofs.lemmas.List.{get_or_default}
use Rattle.qt_branch.specs.Amplitudes.{told_amplitude}
use Rattle.qt_ring.specs.declared.omega.Omega.{Omega}
use Rattle.qt_ring.specs.Ring.{nil}
use Rattle.qt_branch.proofs.amplitudes.tell_amplitudes.Goals as goal

pub loop-index-preserved : goal.loop-index-preserved
unfolding nil
loop-index-preserved g c =
    let xs = c.args.amplitudes.now in
    let i = c.loop-index.index in
    let x : Omega = get_or xs i nil in
    let h = c.loop-index.invariant in
    let k = c.tell_amplitude.ensures in
    k ∙ ap (λ s. fold g.H.Hasher.write s (told_amplitude x)) h ∙ sym (each_more g.H.Hasher.write told_amplitude _ xs i x c.loop-index-test.true (get_or_default xs i nil x c.loop-index-test.true))

pub returns : goal.returns
returns g c = search (rules, take_all)
