use Rattle.std.proofs.Common.{ap, Some}
use Rattle.qt_const.specs.Constants.{named}
use Rattle.qt_const.specs.Value.{count_of}
use Rattle.qt_const.proofs.Faults.{name_refuses}
use Rattle.qt_const.proofs.names.constant_of.Goals as goal

pub returns-in-Hidden : goal.returns-in-Hidden
returns-in-Hidden c =
    let name = c.args.name.now in
    let n = count_of c.args.brackets.now in
    name_refuses (named name n (Some c.args.known.now)) name c.unknown.result (ap (λ k. named name n (Some k)) c.in-Hidden.is) c.unknown.ensures

pub returns-in-Subroutine : goal.returns-in-Subroutine
returns-in-Subroutine c =
    let name = c.args.name.now in
    let n = count_of c.args.brackets.now in
    name_refuses (named name n (Some c.args.known.now)) name c.unknown-in-Subroutine.result (ap (λ k. named name n (Some k)) c.in-Subroutine.is) c.unknown-in-Subroutine.ensures
