use Rattle.std.proofs.Common.{◌≡◌, ◌∙◌, subst, sym}
use Rattle.qt_expr.proofs.Alternatives.{DiffersFrom}
use Rattle.qt_parse.proofs.Alternatives.{other_terminals, include_is, input_is, output_is, qubit_item_is, register_item_is, array_item_is, gate_item_is, definition_is, statement_item_is}
use Rattle.qt_parse.proofs.program.global.Goals as goal

pub returns-in-Include : goal.returns-in-Include
returns-in-Include c = rw (include_is c.args.tokens.now c.args.levels c.args.at (sym c.terminal.ensures.value ∙ c.in-Include.is), ← c.place-place.ensures) c.include.ensures

pub returns-in-Input : goal.returns-in-Input
returns-in-Input c = rw (input_is c.args.tokens.now c.args.levels c.args.at (sym c.terminal.ensures.value ∙ c.in-Input.is), ← c.place-place.ensures) c.input.ensures

pub returns-in-Output : goal.returns-in-Output
returns-in-Output c = rw (output_is c.args.tokens.now c.args.levels c.args.at (sym c.terminal.ensures.value ∙ c.in-Output.is), ← c.place-place.ensures) c.output.ensures

pub returns-in-Qubit : goal.returns-in-Qubit
returns-in-Qubit c = rw (qubit_item_is c.args.tokens.now c.args.levels c.args.at (sym c.terminal.ensures.value ∙ c.in-Qubit.is), ← c.place-place.ensures) c.qubit_item.ensures

pub returns-in-Qreg : goal.returns-in-Qreg
returns-in-Qreg c = rw (register_item_is c.args.tokens.now c.args.levels c.args.at (sym c.terminal.ensures.value ∙ c.in-Qreg.is), ← c.place-place.ensures) c.register_item.ensures

pub returns-in-Array : goal.returns-in-Array
returns-in-Array c = rw (array_item_is c.args.tokens.now c.args.levels c.args.at (sym c.terminal.ensures.value ∙ c.in-Array.is), ← c.place-place.ensures) c.array_item.ensures

pub returns-in-Gate : goal.returns-in-Gate
returns-in-Gate c = rw (gate_item_is c.args.tokens.now c.args.levels c.args.at (sym c.terminal.ensures.value ∙ c.in-Gate.is), ← c.place-place.ensures) c.gate_item.ensures

pub returns-in-Def : goal.returns-in-Def
returns-in-Def c = rw (definition_is c.args.tokens.now c.args.levels c.args.at (sym c.terminal.ensures.value ∙ c.in-Def.is), ← c.place-place.ensures) c.definition.ensures

pub returns-in_default : goal.returns-in_default
returns-in_default c =
    let d = c.in_default in
    let apart : DiffersFrom c.terminal.result other_terminals = (d.not-Include, (d.not-Input, (d.not-Output, (d.not-Qubit, (d.not-Qreg, (d.not-Array, (d.not-Gate, (d.not-Def, tt)))))))) in
    rw (statement_item_is c.args.tokens.now c.args.levels c.args.at (subst (λ x. DiffersFrom x other_terminals) c.terminal.ensures.value apart), ← c.place-place.ensures) c.statement_item.ensures
