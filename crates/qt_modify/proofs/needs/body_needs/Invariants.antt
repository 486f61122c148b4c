use Rattle.std.proofs.Common.{◌≡◌, ℕ, take}
use Rattle.qt_modify.specs.Needs.{calls_need, flag_at}
use Rattle.qt_modify.specs.Expansions.{expansions_of, needs_in}
use Rattle.qt_modify.proofs.needs.body_needs.Given as goal

abbrev pub invariant-loop-call : goal.invariant-loop-call
invariant-loop-call l = (i : ℕ) → flag_at l.flags i ≡ calls_need (needs_in (expansions_of l.gates)) (take l.call-index l.calls) i
