-- Whole texts: a text is that of one program at most, and it is short.
use Rattle.std.proofs.Common.{◌≡◌, ℕ, ◌≤◌, List, ◌++◌, length, sym, ap, ◌∙◌, arith}
use Rattle.std.specs.Prelude.{codes}
use Rattle.std.specs.List.{flat_map}
use Rattle.std.proofs.lemmas.Fmt.{decimal_digit}
use Rattle.std.proofs.lemmas.List.{length-append}
use Rattle.qt_first.specs.declared.program.Program.{Program}
use Rattle.qt_first.specs.Form.{head_text, statement_text, IsFirstFormText}
use Rattle.qt_first.proofs.Lines.{length-statements, one_list}
use Rattle.qt_first.proofs.Pieces.{head_text-pieces, same_pair}

-- the lines before the statements tell the sizes of the registers, and what follows is the text of the statements
pub one_head : (p : Program) (qubits bits : ℕ) (text rest : List ℕ) → qubits ≤ 4 → bits ≤ 4 → text ≡ head_text qubits bits ++ rest → IsFirstFormText p text → (p.qubits ≡ qubits) × (p.bits ≡ bits) × (flat_map statement_text p.statements ≡ rest)
one_head p qubits bits text rest few_qubits few_bits e t =
    same_pair (codes "OPENQASM 3.0;\ninclude \"stdgates.inc\";\nqubit[") (codes "] q;\nbit[") (codes "] c;\n") p.qubits p.bits qubits bits _ _
    (omega (arith, t.limits.few_qubits)) (omega (arith, t.limits.few_bits)) (omega arith) (omega arith)
    (sym (head_text-pieces p.qubits p.bits (flat_map statement_text p.statements)) ∙ (sym t.spelled ∙ (e ∙ head_text-pieces qubits bits rest)))

same_program : (p r : Program) → p.qubits ≡ r.qubits → p.bits ≡ r.bits → p.statements ≡ r.statements → p ≡ r
same_program p r qubits bits statements =
    ap (λ (q : ℕ). record p { qubits = q }) qubits ∙ (ap (λ (b : ℕ). record p { qubits = r.qubits; bits = b }) bits ∙ ap (λ ss. record r { statements = ss }) statements)

pub one_text : (p r : Program) (text : List ℕ) → IsFirstFormText p text → IsFirstFormText r text → p ≡ r
one_text p r text t u =
    let head = one_head p r.qubits r.bits text (flat_map statement_text r.statements) u.limits.few_qubits u.limits.few_bits u.spelled t in
    let placed = rw (head.0, head.1) at t.limits.placed in
    same_program p r head.0 head.1 (one_list r.qubits r.bits p.statements r.statements u.limits.few_qubits u.limits.few_bits placed u.limits.placed head.2)

length-head_text : (qubits bits : ℕ) → qubits ≤ 4 → bits ≤ 4 → length (head_text qubits bits) ≤ 60
length-head_text qubits bits few_qubits few_bits = simp (decimal_digit qubits (omega arith), decimal_digit bits (omega arith)) (omega arith)

pub text_length : (p : Program) (text : List ℕ) → IsFirstFormText p text → length text ≤ 1024
text_length p text t =
    omega (arith, ap length t.spelled, length-append (head_text p.qubits p.bits) (flat_map statement_text p.statements), length-head_text p.qubits p.bits t.limits.few_qubits t.limits.few_bits, length-statements p.qubits p.bits p.statements t.limits.few_qubits t.limits.few_bits t.limits.placed, t.limits.few_statements)
