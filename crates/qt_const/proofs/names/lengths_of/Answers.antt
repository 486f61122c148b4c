use Rattle.std.proofs.Common.{ap}
use Rattle.std.specs.Option.{option_copied}
use Rattle.qt_const.specs.Constants.{lengths_of}
use Rattle.qt_const.proofs.Faults.{name_refuses}
use Rattle.qt_const.proofs.names.lengths_of.Goals as goal

pub returns-in-None-clause-fault : goal.returns-in-None-clause-fault
returns-in-None-clause-fault c =
    let name = c.args.name.now in
    name_refuses (lengths_of name (option_copied c.args.known)) name c.unknown.result (ap (λ o. lengths_of name (option_copied o)) c.in-None.is) c.unknown.ensures
