use Rattle.std.proofs.Common.{ap, Some}
use Rattle.qt_const.specs.Constants.{lengths_of}
use Rattle.qt_const.proofs.Faults.{name_refuses}
use Rattle.qt_const.proofs.names.array_lengths.Goals as goal

pub returns-in-Hidden-clause-fault : goal.returns-in-Hidden-clause-fault
returns-in-Hidden-clause-fault c =
    let name = c.args.name.now in
    name_refuses (lengths_of name (Some c.args.known.now)) name c.unknown.result (ap (λ k. lengths_of name (Some k)) c.in-Hidden.is) c.unknown.ensures

pub returns-in-Subroutine-clause-fault : goal.returns-in-Subroutine-clause-fault
returns-in-Subroutine-clause-fault c =
    let name = c.args.name.now in
    name_refuses (lengths_of name (Some c.args.known.now)) name c.unknown-in-Subroutine.result (ap (λ k. lengths_of name (Some k)) c.in-Subroutine.is) c.unknown-in-Subroutine.ensures
