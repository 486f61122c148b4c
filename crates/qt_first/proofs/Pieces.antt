-- The texts of numbers, lines and heads of the first form, piece by piece, and what two readings of one text have in common.
use Rattle.std.proofs.Common.{◌≡◌, ◌≢◌, ℕ, ◌+◌, ◌<◌, List, [], ◌∷◌, ◌++◌, Bool, true, false, Option, Some, None, Bor, length, append_assoc, sym, refl, ap, ◌∙◌, arith}
use Rattle.std.specs.Prelude.{codes}
use Rattle.std.specs.Bool.{then_some}
use Rattle.std.specs.Fmt.{decimal}
use Rattle.std.proofs.lemmas.Fmt.{decimal_digit}
use Rattle.std.proofs.lemmas.List.{append_cancel_left}
use Rattle.qt_first.specs.declared.program.Statement.TheVariants.{ControlledX, Measure}
use Rattle.qt_first.specs.Form.{head_text, statement_text}
use Rattle.qt_first.specs.Pieces.{BeginsWith, number_text, single_gate_text}

-- behind one opening, or one number below ten, a text has one rest
pub past : (opening text a b : List ℕ) → text ≡ opening ++ a → text ≡ opening ++ b → a ≡ b
past opening text a b left right = append_cancel_left opening a b (sym left ∙ right)

pub past_number : (m n : ℕ) (text a b : List ℕ) → m < 10 → n < 10 → text ≡ decimal m ++ a → text ≡ decimal n ++ b → (m ≡ n) × (a ≡ b)
past_number m n text a b small_m small_n left right =
    let left_bytes : text ≡ (48 + m) ∷ a = rw (decimal_digit m small_m) at left in
    let right_bytes : text ≡ (48 + n) ∷ b = rw (decimal_digit n small_n) at right in
    let same_digit : 48 + m ≡ 48 + n = cc in
    (omega arith, cc)

-- the same of an opening and a number below ten
pub past_number_text : (opening : List ℕ) (m n : ℕ) (text a b : List ℕ) → m < 10 → n < 10 → text ≡ number_text opening m ++ a → text ≡ number_text opening n ++ b → (m ≡ n) × (a ≡ b)
past_number_text opening m n text a b small_m small_n left right =
    past_number m n _ a b small_m small_n refl (past opening text _ _ (left ∙ append_assoc opening (decimal m) a) (right ∙ append_assoc opening (decimal n) b))

-- two texts of an opening, a number, what stands between, a number, a closing and a rest
pub same_pair : (opening middle closing : List ℕ) (m n k l : ℕ) (a b : List ℕ) → m < 10 → n < 10 → k < 10 → l < 10 → number_text opening m ++ (number_text middle n ++ (closing ++ a)) ≡ number_text opening k ++ (number_text middle l ++ (closing ++ b)) → (m ≡ k) × (n ≡ l) × (a ≡ b)
same_pair opening middle closing m n k l a b small_m small_n small_k small_l e =
    let first = past_number_text opening m k _ _ _ small_m small_k refl e in
    let second = past_number_text middle n l _ _ _ small_n small_l refl first.1 in
    (first.0, second.0, past closing _ _ _ refl second.1)

-- a text that was read step by step
pub joined : (first second closing text after_first after_second rest : List ℕ) → text ≡ first ++ after_first → after_first ≡ second ++ after_second → after_second ≡ closing ++ rest → text ≡ first ++ (second ++ (closing ++ rest))
joined first second closing text after_first after_second rest e1 e2 e3 = cc

-- the text of a number is not empty, and its first byte is a digit
pub decimal_nonempty : (n : ℕ) (rest text : List ℕ) → n < 10 → text ≡ decimal n ++ rest → length text ≢ 0
decimal_nonempty n rest text small e empty =
    let bytes : text ≡ (48 + n) ∷ rest = rw (decimal_digit n small) at e in
    omega (arith, ap length bytes)

pub decimal-first : (n digit : ℕ) (rest tail : List ℕ) → n < 10 → digit ∷ tail ≡ decimal n ++ rest → digit ≡ 48 + n
decimal-first n digit rest tail small e =
    let bytes : digit ∷ tail ≡ (48 + n) ∷ rest = rw (decimal_digit n small) at e in
    cc

pub decimal-onto : (n digit : ℕ) (rest : List ℕ) → digit ≡ 48 + n → n < 10 → digit ∷ rest ≡ decimal n ++ rest
decimal-onto n digit rest e small = rw (decimal_digit n small) (ap (λ byte. byte ∷ rest) e)

-- a reader that tests the value which the text begins with, where no other value has that text
pub BeginsWith-then_some : {A : Type 0} (IsFitting : A → Type 0) (spelling : A → List ℕ) (text : List ℕ) (test : Bool) (value : A) (rest : Bor (List ℕ)) → (test ≡ true → IsFitting value × (text ≡ spelling value ++ rest.now)) → (test ≡ false → (other : A) (left : List ℕ) → IsFitting other → text ≢ spelling other ++ left) → BeginsWith IsFitting spelling text (then_some test (value, rest))
BeginsWith-then_some IsFitting spelling text true value rest found none = found refl
BeginsWith-then_some IsFitting spelling text false value rest found none = none refl

-- a number that is looked for behind an opening
pub behind_opening : (bound : ℕ) (opening text rest : List ℕ) (found : Option (ℕ × Bor (List ℕ))) → text ≡ opening ++ rest → BeginsWith (λ number. number < bound) decimal rest found → BeginsWith (λ number. number < bound) (number_text opening) text found
behind_opening bound opening text rest None e none =
    λ number left small f. none number left small (past opening text rest (decimal number ++ left) e (f ∙ append_assoc opening (decimal number) left))
behind_opening bound opening text rest (Some found) e some =
    (some.0, e ∙ (ap (λ tail. opening ++ tail) some.1 ∙ sym (append_assoc opening (decimal found.0) found.1.now)))

-- the texts with two numbers, over their pieces as variables
regroup_line : (opening first_name first close middle second_name second end feed rest : List ℕ) → ((((opening ++ ((first_name ++ first) ++ close)) ++ middle) ++ ((second_name ++ second) ++ close)) ++ end) ++ feed ++ rest ≡ ((opening ++ first_name) ++ first) ++ (((close ++ (middle ++ second_name)) ++ second) ++ (close ++ (end ++ (feed ++ rest))))
regroup_line opening first_name first close middle second_name second end feed rest = simp append_assoc

regroup_head : (opening first_name first first_end second_name second second_end feed rest : List ℕ) → ((opening ++ (((first_name ++ first) ++ first_end) ++ feed)) ++ (((second_name ++ second) ++ second_end) ++ feed)) ++ rest ≡ ((opening ++ first_name) ++ first) ++ (((first_end ++ (feed ++ second_name)) ++ second) ++ (second_end ++ (feed ++ rest)))
regroup_head opening first_name first first_end second_name second second_end feed rest = simp append_assoc

pub single_gate_text-pieces : (name : List ℕ) (qubit : ℕ) (rest : List ℕ) → single_gate_text name qubit ++ rest ≡ name ++ (number_text (codes " q[") qubit ++ (codes "];\n" ++ rest))
single_gate_text-pieces name qubit rest = simp append_assoc

pub controlled_x_text-pieces : (control target : ℕ) (rest : List ℕ) → statement_text (ControlledX control target) ++ rest ≡ number_text (codes "cx q[") control ++ (number_text (codes "], q[") target ++ (codes "];\n" ++ rest))
controlled_x_text-pieces control target rest = regroup_line (codes "cx ") (codes "q[") (decimal control) (codes "]") (codes ", ") (codes "q[") (decimal target) (codes ";") (10 ∷ []) rest

pub measurement_text-pieces : (qubit bit : ℕ) (rest : List ℕ) → statement_text (Measure qubit bit) ++ rest ≡ number_text (codes "c[") bit ++ (number_text (codes "] = measure q[") qubit ++ (codes "];\n" ++ rest))
measurement_text-pieces qubit bit rest = regroup_line [] (codes "c[") (decimal bit) (codes "]") (codes " = measure ") (codes "q[") (decimal qubit) (codes ";") (10 ∷ []) rest

pub head_text-pieces : (qubits bits : ℕ) (rest : List ℕ) → head_text qubits bits ++ rest ≡ number_text (codes "OPENQASM 3.0;\ninclude \"stdgates.inc\";\nqubit[") qubits ++ (number_text (codes "] q;\nbit[") bits ++ (codes "] c;\n" ++ rest))
head_text-pieces qubits bits rest = regroup_head (codes "OPENQASM 3.0;\ninclude \"stdgates.inc\";\n") (codes "qubit[") (decimal qubits) (codes "] q;") (codes "bit[") (decimal bits) (codes "] c;") (10 ∷ []) rest
