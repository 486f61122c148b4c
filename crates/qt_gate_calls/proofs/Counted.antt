-- Counts that stop: a stop inside a sum or a product isn't seen outside, and the counts of gates follow from those of the gates before them.
use Rattle.std.proofs.Common.{◌≡◌, ℕ, zero, suc, ◌+◌, ◌-◌, ◌*◌, ◌<◌, ◌≤◌, List, [], ◌∷◌, ◌++◌, length, take, drop, get_or, refl, sym, ap, subst, ◌∙◌, arith, inl, inr, ◌⊎◌, length-append, length-take}
use Rattle.std.proofs.lemmas.Bool.{cases_lt, cases_order}
use Rattle.std.proofs.lemmas.List.{get_or_append_left, get_or_push, get_or_past, take_more}
use Rattle.std.proofs.lemmas.Option.{unwrap_or-slice_get}
use Rattle.std.specs.Prelude.{slice_get, unwrap_or, unsigned_abs}
use Rattle.qt_gate_calls.specs.declared.body.GateModifier.{GateModifier}
use Rattle.qt_gate_calls.specs.declared.body.GateModifier.TheVariants.{Inv, Pow, Ctrl, NegCtrl}
use Rattle.qt_gate_calls.specs.declared.body.Called.{Called}
use Rattle.qt_gate_calls.specs.declared.body.Called.TheVariants as called
use Rattle.qt_gate_calls.specs.declared.body.BodyCall.{BodyCall}
use Rattle.qt_gate_calls.specs.declared.body.GateBody.{GateBody}
use Rattle.qt_gate_calls.specs.declared.counts.GateCount.{GateCount}
use Rattle.qt_gate_calls.specs.Numbered.{if_number, numbered_from, numbered}
use Rattle.qt_gate_calls.specs.Counts.{GateCounts, times_over, called_count, call_count, calls_count, called_operators, call_operators, calls_operators, primitive_counts, operator_counts}
use Rattle.qt_gate_calls.specs.Stopped.{stopped, no_count, primitives_in, operators_in, AreCounted}

pub counted_at : (counts : List GateCount) (i : ℕ) → unwrap_or (slice_get counts i) no_count ≡ get_or counts i no_count
counted_at counts i = unwrap_or-slice_get counts i no_count

-- ---- sums and products

within : (n : ℕ) → n ≤ 4294967295 → stopped n ≡ n
within n h = omega arith

beyond : (n : ℕ) → 4294967295 ≤ n → stopped n ≡ 4294967295
beyond n h = omega arith

twice_stopped : (n : ℕ) → stopped (stopped n) ≡ stopped n
twice_stopped n = omega arith

nothing : (n : ℕ) → 0 * n ≡ 0
nothing n = omega arith

at_least : (k n : ℕ) → 4294967295 ≤ n → 4294967295 ≤ suc k * n
at_least k n h = omega arith

product_stopped : (k n : ℕ) → stopped (k * stopped n) ≡ stopped (k * n)
product_stopped zero n = ap stopped (nothing (stopped n) ∙ sym (nothing n))
product_stopped (suc k) n = by_size (cases_lt n 4294967295)
  where
    by_size : (n < 4294967295) ⊎ (4294967295 ≤ n) → stopped (suc k * stopped n) ≡ stopped (suc k * n)
    by_size (inl h) = ap (λ m. stopped (suc k * m)) (within n (omega arith))
    by_size (inr h) =
        ap (λ m. stopped (suc k * m)) (beyond n h)
        ∙ beyond (suc k * 4294967295) (at_least k 4294967295 (omega arith))
        ∙ sym (beyond (suc k * n) (at_least k n h))

sums_stop : (a b : ℕ) → stopped (stopped a + stopped b) ≡ stopped (a + b)
sums_stop a b = omega arith

sum_stopped : (a b c d : ℕ) → stopped a ≡ stopped c → stopped b ≡ stopped d → stopped (a + b) ≡ stopped (c + d)
sum_stopped a b c d e f = omega arith

pub times_more : (m : GateModifier) (ms : List GateModifier) (n : ℕ)
    → stopped (times_over (m ∷ []) (stopped (times_over ms n))) ≡ stopped (times_over (m ∷ ms) n)
times_more Inv ms n = twice_stopped (times_over ms n)
times_more (Pow k) ms n = product_stopped (unsigned_abs k) (times_over ms n)
times_more Ctrl ms n = twice_stopped (times_over ms n)
times_more NegCtrl ms n = twice_stopped (times_over ms n)

-- ---- calls, by counts that stop

times_same : (ms : List GateModifier) (a b : ℕ) → stopped a ≡ stopped b → stopped (times_over ms a) ≡ stopped (times_over ms b)
times_same [] a b e = e
times_same (Inv ∷ ms) a b e = times_same ms a b e
times_same (Pow k ∷ ms) a b e =
    sym (product_stopped (unsigned_abs k) (times_over ms a))
    ∙ ap (λ n. stopped (unsigned_abs k * n)) (times_same ms a b e)
    ∙ product_stopped (unsigned_abs k) (times_over ms b)
times_same (Ctrl ∷ ms) a b e = times_same ms a b e
times_same (NegCtrl ∷ ms) a b e = times_same ms a b e

-- the counts that stand in a list stop, and no other ones
abbrev Stop : GateCounts → GateCounts → Type 0
Stop f g = (i : ℕ) → f i ≡ stopped (g i)

stops_once : (m n : ℕ) → m ≡ stopped n → stopped m ≡ stopped n
stops_once m n e = ap stopped e ∙ twice_stopped n

called_meets : (f g : GateCounts) → Stop f g → (gate : Called) → stopped (called_count f gate) ≡ stopped (called_count g gate)
called_meets f g h called.U = refl
called_meets f g h called.GlobalPhase = refl
called_meets f g h (called.Gate i) = stops_once (f i) (g i) (h i)

operators_meet : (f g : GateCounts) → Stop f g → (gate : Called) → stopped (called_operators f gate) ≡ stopped (called_operators g gate)
operators_meet f g h called.U = refl
operators_meet f g h called.GlobalPhase = refl
operators_meet f g h (called.Gate i) = stops_once (f i) (g i) (h i)

call_meets : (f g : GateCounts) → Stop f g → (ms : List GateModifier) (gate : Called)
    → stopped (call_count f ms gate) ≡ stopped (call_count g ms gate)
call_meets f g h ms gate = times_same ms (called_count f gate) (called_count g gate) (called_meets f g h gate)

call_operators_meet : (f g : GateCounts) → Stop f g → (ms : List GateModifier) (gate : Called)
    → stopped (call_operators f ms gate) ≡ stopped (call_operators g ms gate)
call_operators_meet f g h ms gate = times_same ms (called_operators f gate) (called_operators g gate) (operators_meet f g h gate)

abbrev Meets : (GateCounts → List BodyCall → ℕ) → Type 0
Meets count = (f g : GateCounts) → Stop f g → (calls : List BodyCall) → stopped (count f calls) ≡ stopped (count g calls)

calls_meet : Meets calls_count
calls_meet f g h [] = refl
calls_meet f g h (c ∷ calls) =
    sum_stopped (call_count f c.modifiers c.gate) (calls_count f calls) (call_count g c.modifiers c.gate) (calls_count g calls)
    (call_meets f g h c.modifiers c.gate) (calls_meet f g h calls)

calls_operators_meet : Meets calls_operators
calls_operators_meet f g h [] = refl
calls_operators_meet f g h (c ∷ calls) =
    sum_stopped (c.operators + call_operators f c.modifiers c.gate) (calls_operators f calls)
    (c.operators + call_operators g c.modifiers c.gate) (calls_operators g calls)
    (sum_stopped c.operators (call_operators f c.modifiers c.gate) c.operators (call_operators g c.modifiers c.gate) refl
    (call_operators_meet f g h c.modifiers c.gate))
    (calls_operators_meet f g h calls)

-- ---- gates by number, with one more behind them

number_same : {A : Type 0} (n : ℕ) (a b : A) → if_number n n a b ≡ a
number_same zero a b = refl
number_same (suc n) a b = number_same n a b

number_other : {A : Type 0} (n i : ℕ) (a b : A) → (n ≡ i → ⊥) → if_number n i a b ≡ b
number_other zero zero a b h = absurd (h refl)
number_other zero (suc i) a b h = refl
number_other (suc n) zero a b h = refl
number_other (suc n) (suc i) a b h = number_other n i a b (λ e. h (ap suc e))

numbered_last : {A : Type 0} (of : (ℕ → A) → GateBody → A) (n : ℕ) (bodies : List GateBody) (body : GateBody) (before : ℕ → A) (i : ℕ)
    → numbered_from of n (bodies ++ body ∷ []) before i
    ≡ if_number (n + length bodies) i (of (numbered_from of n bodies before) body) (numbered_from of n bodies before i)
numbered_last of n [] body before i =
    let e : n ≡ n + length {A = GateBody} [] = omega arith in
    ap (λ t. if_number t i (of before body) (before i)) e
numbered_last of n (b ∷ bodies) body before i =
    let later = λ (i : ℕ). if_number n i (of before b) (before i) in
    let e : suc n + length bodies ≡ n + length (b ∷ bodies) = omega arith in
    numbered_last of (suc n) bodies body later i
    ∙ ap (λ t. if_number t i (of (numbered_from of (suc n) bodies later) body) (numbered_from of (suc n) bodies later i)) e

abbrev of_calls : (GateCounts → List BodyCall → ℕ) → GateCounts → GateBody → ℕ
of_calls count known body = count known body.calls

abbrev counted : (GateCounts → List BodyCall → ℕ) → List GateBody → GateCounts
counted count bodies = numbered (of_calls count) 0 bodies

-- what a part of a list's counts stands for
abbrev Stands : (GateCount → ℕ) → (GateCounts → List BodyCall → ℕ) → List GateBody → List GateCount → Type 0
Stands part count bodies counts = (i : ℕ) → part (get_or counts i no_count) ≡ stopped (counted count bodies i)

behind_all : (counts : List GateCount) (x : GateCount) (i : ℕ) → length counts < i
    → get_or (counts ++ x ∷ []) i no_count ≡ get_or counts i no_count
behind_all counts x i h =
    let longer : length (counts ++ x ∷ []) ≤ i = simp length-append (omega arith) in
    let shorter : length counts ≤ i = omega arith in
    get_or_past (counts ++ x ∷ []) i no_count longer ∙ sym (get_or_past counts i no_count shorter)

counted_last : (count : GateCounts → List BodyCall → ℕ) (bodies : List GateBody) (body : GateBody) (i : ℕ) → length bodies ≡ i
    → counted count (bodies ++ body ∷ []) i ≡ count (counted count bodies) body.calls
counted_last count bodies body i l =
    let e : 0 + length bodies ≡ i = omega arith in
    numbered_last (of_calls count) 0 bodies body (λ i. 0) i
    ∙ ap (λ t. if_number t i (count (counted count bodies) body.calls) (counted count bodies i)) e
    ∙ number_same i (count (counted count bodies) body.calls) (counted count bodies i)

counted_other : (count : GateCounts → List BodyCall → ℕ) (bodies : List GateBody) (body : GateBody) (i : ℕ) → (length bodies ≡ i → ⊥)
    → counted count (bodies ++ body ∷ []) i ≡ counted count bodies i
counted_other count bodies body i h =
    let e : 0 + length bodies ≡ length bodies = omega arith in
    numbered_last (of_calls count) 0 bodies body (λ i. 0) i
    ∙ ap (λ t. if_number t i (count (counted count bodies) body.calls) (counted count bodies i)) e
    ∙ number_other (length bodies) i (count (counted count bodies) body.calls) (counted count bodies i) h

one_more : (part : GateCount → ℕ) (count : GateCounts → List BodyCall → ℕ) → Meets count
    → (bodies : List GateBody) (body : GateBody) (counts : List GateCount) (x : GateCount)
    → length counts ≡ length bodies → Stands part count bodies counts
    → part x ≡ stopped (count (λ i. part (get_or counts i no_count)) body.calls)
    → Stands part count (bodies ++ body ∷ []) (counts ++ x ∷ [])
one_more part count meets bodies body counts x l known e i = by_place (cases_order (length counts) i)
  where
    by_place : (length counts ≡ i) ⊎ ((length counts < i) ⊎ (i < length counts))
        → part (get_or (counts ++ x ∷ []) i no_count) ≡ stopped (counted count (bodies ++ body ∷ []) i)
    by_place (inl same) =
        ap part (get_or_push counts x no_count i same) ∙ e
        ∙ meets (λ i. part (get_or counts i no_count)) (counted count bodies) known body.calls
        ∙ ap stopped (sym (counted_last count bodies body i (sym l ∙ same)))
    by_place (inr (inl after)) =
        ap part (behind_all counts x i after) ∙ known i
        ∙ ap stopped (sym (counted_other count bodies body i (λ q. omega arith)))
    by_place (inr (inr earlier)) =
        ap part (get_or_append_left counts (x ∷ []) no_count i earlier) ∙ known i
        ∙ ap stopped (sym (counted_other count bodies body i (λ q. omega arith)))

one_counted : (bodies : List GateBody) (body : GateBody) (counts : List GateCount) (x : GateCount) → length counts ≡ length bodies
    → AreCounted bodies counts → x.primitives ≡ stopped (calls_count (primitives_in counts) body.calls)
    → x.operators ≡ stopped (calls_operators (operators_in counts) body.calls)
    → AreCounted (bodies ++ body ∷ []) (counts ++ x ∷ [])
one_counted bodies body counts x l known e f = record {
  primitives = one_more (λ c. c.primitives) calls_count calls_meet bodies body counts x l known.primitives e;
  operators = one_more (λ c. c.operators) calls_operators calls_operators_meet bodies body counts x l known.operators f;
}

-- ---- the loop over the bodies

pub none_counted : (bodies : List GateBody) → AreCounted (take 0 bodies) []
none_counted bodies = record { primitives = λ i. refl; operators = λ i. refl }

pub one_more_counted : (bodies : List GateBody) (i : ℕ) (body : GateBody) (counts new : List GateCount) (x : GateCount)
    → i < length bodies → body ≡ get_or bodies i body → length counts ≡ i → AreCounted (take i bodies) counts
    → x.primitives ≡ stopped (calls_count (primitives_in counts) body.calls)
    → x.operators ≡ stopped (calls_operators (operators_in counts) body.calls)
    → new ≡ counts ++ x ∷ [] → AreCounted (take (i + 1) bodies) new
one_more_counted bodies i body counts new x h b l known e f w =
    let t : take (i + 1) bodies ≡ take i bodies ++ body ∷ [] =
    take_more bodies i body h ∙ ap (λ c. take i bodies ++ c ∷ []) (sym b) in
    let n : length counts ≡ length (take i bodies) = simp length-take (omega arith) in
    subst (λ (y : List GateBody). AreCounted y new) (sym t)
    (subst (λ (z : List GateCount). AreCounted (take i bodies ++ body ∷ []) z) (sym w)
    (one_counted (take i bodies) body counts x n known e f))

-- ---- a call, by the counts of all gates

pub counted_call : (bodies : List GateBody) (counts : List GateCount) (ms : List GateModifier) (gate : Called) → AreCounted bodies counts
    → stopped (call_count (primitives_in counts) ms gate) ≡ stopped (call_count (primitive_counts bodies) ms gate)
counted_call bodies counts ms gate known = call_meets (primitives_in counts) (primitive_counts bodies) known.primitives ms gate

pub counted_operators : (bodies : List GateBody) (counts : List GateCount) (ms : List GateModifier) (gate : Called) → AreCounted bodies counts
    → stopped (call_operators (operators_in counts) ms gate) ≡ stopped (call_operators (operator_counts bodies) ms gate)
counted_operators bodies counts ms gate known =
    call_operators_meet (operators_in counts) (operator_counts bodies) known.operators ms gate
