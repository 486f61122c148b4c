-- A program begins with the standard gates.
use Rattle.std.proofs.Common.{◌≡◌, List, refl}
use Rattle.qt_gate_calls.specs.Standard.{standard_bodies}
use Rattle.qt_gate_calls.specs.declared.body.GateBody.{GateBody}
use Rattle.qt_typing.specs.Programs.{beginning}
use Rattle.qt_check.specs.Steps.{starting}

pub begins : (all : List GateBody) → beginning all ≡ starting standard_bodies all
unfolding beginning
begins all = refl
