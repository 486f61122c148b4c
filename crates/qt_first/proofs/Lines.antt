-- The lines of statements: none begins as another of them, so a text is that of one list of statements at most.
use Rattle.std.proofs.Common.{◌≡◌, ◌≢◌, ℕ, ◌+◌, ◌*◌, ◌<◌, ◌≤◌, List, [], ◌∷◌, ◌++◌, length, get_or, append_assoc, sym, refl, ap, ◌∙◌, arith, count_by, cond}
use Rattle.std.specs.Prelude.{codes}
use Rattle.std.specs.List.{flat_map}
use Rattle.std.proofs.lemmas.Fmt.{decimal_digit}
use Rattle.std.proofs.lemmas.List.{append-nil, flat_map_more, length-append}
use Rattle.std.proofs.lemmas.List.Recursion.{is_count_by}
use Rattle.std.proofs.Math.Numerals.{one-add}
use Rattle.qt_first.specs.declared.program.Statement.{Statement}
use Rattle.qt_first.specs.declared.program.Statement.TheVariants.{Hadamard, T, X, ControlledX, Measure}
use Rattle.qt_first.specs.Form.{ArePlaced, IsPlaced, measurements, statement_text}
use Rattle.qt_first.specs.Pieces.{is_measurement, single_gate_text}
use Rattle.qt_first.proofs.Pieces.{past, past_number_text, same_pair, single_gate_text-pieces, controlled_x_text-pieces, measurement_text-pieces}

-- a text that begins with no line of a kind, for each kind, begins with no statement
pub no_statement : (qubits bits : ℕ) (text : List ℕ) → ((qubit : ℕ) (rest : List ℕ) → qubit < qubits → text ≢ single_gate_text (codes "h") qubit ++ rest) → ((qubit : ℕ) (rest : List ℕ) → qubit < qubits → text ≢ single_gate_text (codes "t") qubit ++ rest) → ((qubit : ℕ) (rest : List ℕ) → qubit < qubits → text ≢ single_gate_text (codes "x") qubit ++ rest) → ((control target : ℕ) (rest : List ℕ) → IsPlaced qubits bits (ControlledX control target) → text ≢ statement_text (ControlledX control target) ++ rest) → ((qubit bit : ℕ) (rest : List ℕ) → IsPlaced qubits bits (Measure qubit bit) → text ≢ statement_text (Measure qubit bit) ++ rest) → (statement : Statement) (rest : List ℕ) → IsPlaced qubits bits statement → text ≢ statement_text statement ++ rest
no_statement qubits bits text h t x cx m (Hadamard qubit) rest placed e = h qubit rest placed e
no_statement qubits bits text h t x cx m (T qubit) rest placed e = t qubit rest placed e
no_statement qubits bits text h t x cx m (X qubit) rest placed e = x qubit rest placed e
no_statement qubits bits text h t x cx m (ControlledX control target) rest placed e = cx control target rest placed e
no_statement qubits bits text h t x cx m (Measure qubit bit) rest placed e = m qubit bit rest placed e

same_single_gate : (name : List ℕ) (m n : ℕ) (a b : List ℕ) → m < 10 → n < 10 → single_gate_text name m ++ a ≡ single_gate_text name n ++ b → (m ≡ n) × (a ≡ b)
same_single_gate name m n a b small_m small_n e =
    let named = past name _ _ _ (single_gate_text-pieces name m a) (e ∙ single_gate_text-pieces name n b) in
    let numbered = past_number_text (codes " q[") m n _ _ _ small_m small_n refl named in
    (numbered.0, past (codes "];\n") _ _ _ refl numbered.1)

-- two texts that begin with a statement begin with the same one, and have the same rest
pub one_statement : (qubits bits : ℕ) (s r : Statement) (a b : List ℕ) → qubits ≤ 4 → bits ≤ 4 → IsPlaced qubits bits s → IsPlaced qubits bits r → statement_text s ++ a ≡ statement_text r ++ b → (s ≡ r) × (a ≡ b)
one_statement qubits bits (Hadamard m) (Hadamard n) a b few_qubits few_bits placed_s placed_r e =
    let same = same_single_gate (codes "h") m n a b (omega arith) (omega arith) e in (ap Hadamard same.0, same.1)
one_statement qubits bits (T m) (T n) a b few_qubits few_bits placed_s placed_r e =
    let same = same_single_gate (codes "t") m n a b (omega arith) (omega arith) e in (ap T same.0, same.1)
one_statement qubits bits (X m) (X n) a b few_qubits few_bits placed_s placed_r e =
    let same = same_single_gate (codes "x") m n a b (omega arith) (omega arith) e in (ap X same.0, same.1)
one_statement qubits bits (ControlledX c t) (ControlledX d u) a b few_qubits few_bits placed_s placed_r e =
    let same = same_pair (codes "cx q[") (codes "], q[") (codes "];\n") c t d u a b (omega arith) (omega arith) (omega arith) (omega arith) (sym (controlled_x_text-pieces c t a) ∙ (e ∙ controlled_x_text-pieces d u b)) in
    (cc, same.2)
one_statement qubits bits (Measure q k) (Measure p l) a b few_qubits few_bits placed_s placed_r e =
    let same = same_pair (codes "c[") (codes "] = measure q[") (codes "];\n") k q l p a b (omega arith) (omega arith) (omega arith) (omega arith) (sym (measurement_text-pieces q k a) ∙ (e ∙ measurement_text-pieces p l b)) in
    (cc, same.2)
one_statement qubits bits s r a b few_qubits few_bits placed_s placed_r e =
    absurd (omega (arith, ap (λ text. get_or text 0 0) e, ap (λ text. get_or text 1 0) e))

statement_nonempty : (s : Statement) (rest : List ℕ) → 0 < length (statement_text s ++ rest)
statement_nonempty (Hadamard q) rest = omega arith
statement_nonempty s rest = omega arith

-- where a list of statements with a rest spells the text of a list, that list goes on after the first one, and the rest is the text
-- of what follows
pub remaining : (qubits bits : ℕ) (done all : List Statement) (rest : List ℕ) → qubits ≤ 4 → bits ≤ 4 → ArePlaced qubits bits done → ArePlaced qubits bits all → flat_map statement_text done ++ rest ≡ flat_map statement_text all → (left : List Statement) × ArePlaced qubits bits left × (all ≡ done ++ left) × (rest ≡ flat_map statement_text left)
remaining qubits bits [] all rest few_qubits few_bits placed_done placed_all e = (all, placed_all, refl, e)
remaining qubits bits (s ∷ done) [] rest few_qubits few_bits placed_done placed_all e =
    let regrouped : statement_text s ++ (flat_map statement_text done ++ rest) ≡ [] = sym (append_assoc (statement_text s) (flat_map statement_text done) rest) ∙ e in
    absurd (omega (arith, ap length regrouped, statement_nonempty s (flat_map statement_text done ++ rest)))
remaining qubits bits (s ∷ done) (r ∷ all) rest few_qubits few_bits placed_done placed_all e =
    let same = one_statement qubits bits s r _ _ few_qubits few_bits placed_done.0 placed_all.0 (sym (append_assoc (statement_text s) (flat_map statement_text done) rest) ∙ e) in
    let later = remaining qubits bits done all rest few_qubits few_bits placed_done.1 placed_all.1 same.1 in
    (later.0, later.1, cc (same.0, later.2), later.3)

nothing_left : (qubits bits : ℕ) (rest : List ℕ) → 0 < length rest → ((s : Statement) (left : List ℕ) → IsPlaced qubits bits s → rest ≢ statement_text s ++ left) → (left : List Statement) → ArePlaced qubits bits left → rest ≢ flat_map statement_text left
nothing_left qubits bits rest some none [] placed e = omega (arith, ap length e)
nothing_left qubits bits rest some none (s ∷ left) placed e = none s (flat_map statement_text left) placed.0 e

no_lines : (left : List Statement) → [] ≡ flat_map statement_text left → left ≡ []
no_lines [] e = refl
no_lines (s ∷ left) e = absurd (omega (arith, ap length e, statement_nonempty s (flat_map statement_text left)))

-- a text is that of one list of statements at most
pub one_list : (qubits bits : ℕ) (first second : List Statement) → qubits ≤ 4 → bits ≤ 4 → ArePlaced qubits bits first → ArePlaced qubits bits second → flat_map statement_text first ≡ flat_map statement_text second → first ≡ second
one_list qubits bits first second few_qubits few_bits placed_first placed_second e =
    let later = remaining qubits bits first second [] few_qubits few_bits placed_first placed_second (append-nil (flat_map statement_text first) ∙ e) in
    sym (later.2 ∙ (ap (λ left. first ++ left) (no_lines later.0 later.3) ∙ append-nil first))

-- the lines of some statements, and one more
pub lines-push : (done : List Statement) (last : Statement) (text rest after : List ℕ) → text ≡ flat_map statement_text done ++ rest → rest ≡ statement_text last ++ after → text ≡ flat_map statement_text (done ++ last ∷ []) ++ after
lines-push done last text rest after spelled next =
    spelled ∙ (ap (λ left. flat_map statement_text done ++ left) next ∙ (sym (append_assoc (flat_map statement_text done) (statement_text last) after) ∙ ap (λ front. front ++ after) (flat_map_more statement_text [] done last)))

-- where the lines of some statements are followed by a rest that begins with none, the text is that of no list of statements
pub no_list : (qubits bits : ℕ) (done : List Statement) (text rest : List ℕ) → qubits ≤ 4 → bits ≤ 4 → ArePlaced qubits bits done → text ≡ flat_map statement_text done ++ rest → 0 < length rest → ((s : Statement) (left : List ℕ) → IsPlaced qubits bits s → rest ≢ statement_text s ++ left) → (all : List Statement) → ArePlaced qubits bits all → text ≢ flat_map statement_text all
no_list qubits bits done text rest few_qubits few_bits placed_done e some none all placed_all whole =
    let later = remaining qubits bits done all rest few_qubits few_bits placed_done placed_all (sym e ∙ whole) in
    nothing_left qubits bits rest some none later.0 later.1 later.3

pub ArePlaced-push : (qubits bits : ℕ) (statements : List Statement) (last : Statement) → ArePlaced qubits bits statements → IsPlaced qubits bits last → ArePlaced qubits bits (statements ++ last ∷ [])
ArePlaced-push qubits bits [] last placed placed_last = (placed_last, tt)
ArePlaced-push qubits bits (s ∷ statements) last placed placed_last = (placed.0, ArePlaced-push qubits bits statements last placed.1 placed_last)

measurements-cons : (s : Statement) (statements : List Statement) → measurements (s ∷ statements) ≡ cond (is_measurement s) (1 + measurements statements) (measurements statements)
measurements-cons (Measure q b) statements = sym (one-add (measurements statements))
measurements-cons s statements = refl

pub measurements-count_by : (statements : List Statement) → measurements statements ≡ count_by is_measurement statements
measurements-count_by = is_count_by measurements is_measurement refl measurements-cons

-- how long the lines are
length-statement_text : (qubits bits : ℕ) (s : Statement) → qubits ≤ 4 → bits ≤ 4 → IsPlaced qubits bits s → length (statement_text s) ≤ 21
length-statement_text qubits bits (Hadamard q) few_qubits few_bits placed = rw (decimal_digit q (omega arith)) (omega arith)
length-statement_text qubits bits (T q) few_qubits few_bits placed = rw (decimal_digit q (omega arith)) (omega arith)
length-statement_text qubits bits (X q) few_qubits few_bits placed = rw (decimal_digit q (omega arith)) (omega arith)
length-statement_text qubits bits (ControlledX c t) few_qubits few_bits placed = simp (decimal_digit c (omega arith), decimal_digit t (omega arith)) (omega arith)
length-statement_text qubits bits (Measure q b) few_qubits few_bits placed = simp (decimal_digit q (omega arith), decimal_digit b (omega arith)) (omega arith)

pub length-statements : (qubits bits : ℕ) (statements : List Statement) → qubits ≤ 4 → bits ≤ 4 → ArePlaced qubits bits statements → length (flat_map statement_text statements) ≤ 21 * length statements
length-statements qubits bits [] few_qubits few_bits placed = omega arith
length-statements qubits bits (s ∷ statements) few_qubits few_bits placed =
    omega (arith, length-append (statement_text s) (flat_map statement_text statements), length-statement_text qubits bits s few_qubits few_bits placed.0, length-statements qubits bits statements few_qubits few_bits placed.1)
