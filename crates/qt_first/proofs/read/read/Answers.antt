use Rattle.std.proofs.Common.{◌≡◌, sym, ◌∙◌, ◌≤◌, length}
use Rattle.std.specs.List.{flat_map}
use Rattle.std.proofs.lemmas.Bool.{both_ways}
use Rattle.qt_first.specs.Form.{measurements, statement_text}
use Rattle.qt_first.proofs.Lines.{one_list}
use Rattle.qt_first.proofs.Programs.{one_head}
use Rattle.qt_first.proofs.read.read.Goals as goal

pub returns-in_default : goal.returns-in_default
returns-in_default c = λ p t.
    c.in_default.ensures (record { qubits = p.qubits; bits = p.bits }) (flat_map statement_text p.statements)
    (record { some_qubits = t.limits.some_qubits; few_qubits = t.limits.few_qubits; some_bits = t.limits.some_bits; few_bits = t.limits.few_bits })
    t.spelled

pub returns-in_default-2 : goal.returns-in_default-2
returns-in_default-2 c = λ p t.
    let sized = c.in-Some.ensures.0 in
    let head = one_head p c.in-Some.registers.qubits c.in-Some.registers.bits c.args.text.now c.in-Some.rest.now sized.few_qubits sized.few_bits c.in-Some.ensures.1 t in
    let placed = rw (head.0, head.1) at t.limits.placed in
    let none = rw c.in_default-2.is at c.in_ok-statements.ensures in
    none p.statements placed (sym head.2)

pub returns-then-not-are_few : goal.returns-then-not-are_few
returns-then-not-are_few c = λ p t.
    let sized = c.in-Some.ensures.0 in
    let head = one_head p c.in-Some.registers.qubits c.in-Some.registers.bits c.args.text.now c.in-Some.rest.now sized.few_qubits sized.few_bits c.in-Some.ensures.1 t in
    let placed = rw (head.0, head.1) at t.limits.placed in
    let found = rw c.in-Some-2.is at c.in_ok-statements.ensures in
    let same = one_list c.in-Some.registers.qubits c.in-Some.registers.bits p.statements c.in-Some-2.statements sized.few_qubits sized.few_bits placed found.0 (head.2 ∙ found.1) in
    let listed : p.statements ≡ c.items.result.now = same ∙ sym c.items.ensures in
    let few_statements : length c.items.result.now ≤ 32 = rw listed at t.limits.few_statements in
    let few_measurements : measurements c.items.result.now ≤ 12 = rw listed at t.limits.few_measurements in
    both_ways c.are_few.result c.if-not-are_few.true (c.are_few.ensures.1 (few_statements, few_measurements))
