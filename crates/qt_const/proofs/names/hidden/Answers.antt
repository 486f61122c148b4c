use Rattle.std.proofs.Common.{ap, Some}
use Rattle.qt_const.specs.Value.{called}
use Rattle.qt_const.proofs.Faults.{name_refuses}
use Rattle.qt_const.proofs.names.hidden.Goals as goal

pub returns-in-Constant : goal.returns-in-Constant
unfolding called
returns-in-Constant c =
    let name = c.args.name.now in
    name_refuses (called name (Some c.args.known.now)) name c.unknown.result (ap (λ k. called name (Some k)) c.in-Constant.is) c.unknown.ensures

pub returns-in-Lengths : goal.returns-in-Lengths
unfolding called
returns-in-Lengths c =
    let name = c.args.name.now in
    name_refuses (called name (Some c.args.known.now)) name c.unknown-in-Lengths.result (ap (λ k. called name (Some k)) c.in-Lengths.is) c.unknown-in-Lengths.ensures

pub returns-in-Other : goal.returns-in-Other
unfolding called
returns-in-Other c =
    let name = c.args.name.now in
    name_refuses (called name (Some c.args.known.now)) name c.unknown-in-Other.result (ap (λ k. called name (Some k)) c.in-Other.is) c.unknown-in-Other.ensures

pub returns-in-Hidden : goal.returns-in-Hidden
unfolding called
returns-in-Hidden c =
    let name = c.args.name.now in
    name_refuses (called name (Some c.args.known.now)) name c.unknown-in-Hidden.result (ap (λ k. called name (Some k)) c.in-Hidden.is) c.unknown-in-Hidden.ensures
