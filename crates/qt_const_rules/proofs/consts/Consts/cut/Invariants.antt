use Rattle.std.proofs.Common.{◌≡◌, length, take}
use Rattle.qt_const_rules.proofs.consts.Consts.cut.Given as goal

abbrev pub invariant-loop-self : goal.invariant-loop-self
invariant-loop-self l = take l.fn.len l.self ≡ take l.fn.len l.fn.self

abbrev pub decreases-loop-self : goal.decreases-loop-self
decreases-loop-self l = length l.self
