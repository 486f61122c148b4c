-- Which parameters are needed, call by call and gate by gate.
use Rattle.std.proofs.Common.{◌≡◌, ℕ, zero, suc, ◌+◌, ◌<◌, ◌≤◌, List, [], ◌∷◌, ◌++◌, length, take, get_or, refl, sym, ap, ◌∙◌, arith, inl, inr, ◌⊎◌, Some, length-take}
use Rattle.std.specs.Prelude.{Bool, ◌||◌, ◌&&◌, slice_get}
use Rattle.std.proofs.Math.Bool.{or_assoc}
use Rattle.std.proofs.lemmas.Bool.{cases_order}
use Rattle.std.proofs.lemmas.List.{get_or_append_left, get_or_push, take_more}
use Rattle.qt_gate_calls.specs.declared.angle.Angle.{Angle}
use Rattle.qt_gate_calls.specs.declared.body.BodyCall.{BodyCall}
use Rattle.qt_gate_calls.specs.declared.body.GateBody.{GateBody}
use Rattle.qt_modify.specs.Needs.{Needs, flag_at, occurs, wanted, angles_need, calls_need}
use Rattle.qt_modify.specs.Known.{Marks, KnowsNeeds}
use Rattle.qt_modify.specs.Expansions.{GateExpansion, needs_in, expansions_of}
use Rattle.qt_modify.proofs.Flags.{or_false, both_marked}
use Rattle.qt_modify.proofs.Numbers.{gate_expands, expands_before}

angles_last : (want : ℕ → Bool) (n : ℕ) (xs : List Angle) (a : Angle) (i : ℕ)
    → angles_need want n (xs ++ a ∷ []) i ≡ angles_need want n xs i || (want (n + length xs) && occurs a i)
angles_last want n [] a i =
    let z : n ≡ n + length {A = Angle} [] = omega arith in
    sym (or_false (want n && occurs a i)) ∙ ap (λ k. want k && occurs a i) z
angles_last want n (x ∷ xs) a i =
    let z : suc n + length xs ≡ n + length (x ∷ xs) = omega arith in
    ap (λ t. (want n && occurs x i) || t) (angles_last want (suc n) xs a i)
    ∙ sym (or_assoc (want n && occurs x i) (angles_need want (suc n) xs i) (want (suc n + length xs) && occurs a i))
    ∙ ap (λ k. ((want n && occurs x i) || angles_need want (suc n) xs i) || (want k && occurs a i)) z

pub angle_marked : (want : ℕ → Bool) (angles : List Angle) (n : ℕ) (a : Angle) (old mid new : List Bool) → n < length angles
    → a ≡ get_or angles n a → Marks old mid (angles_need want 0 (take n angles)) → Marks mid new (λ i. want n && occurs a i)
    → Marks old new (angles_need want 0 (take (n + 1) angles))
angle_marked want angles n a old mid new h e f g i =
    let t : take (n + 1) angles ≡ take n angles ++ a ∷ [] = take_more angles n a h ∙ ap (λ c. take n angles ++ c ∷ []) (sym e) in
    let z : 0 + length (take n angles) ≡ n = simp length-take (omega arith) in
    both_marked old mid new (angles_need want 0 (take n angles)) (λ i. want n && occurs a i) f g i
    ∙ ap (λ b. flag_at old i || b)
    (ap (λ k. angles_need want 0 (take n angles) i || (want k && occurs a i)) (sym z)
    ∙ sym (angles_last want 0 (take n angles) a i)
    ∙ ap (λ (xs : List Angle). angles_need want 0 xs i) (sym t))

calls_last : (needs : Needs) (xs : List BodyCall) (c : BodyCall) (i : ℕ)
    → calls_need needs (xs ++ c ∷ []) i ≡ calls_need needs xs i || calls_need needs (c ∷ []) i
calls_last needs [] c i = refl
calls_last needs (x ∷ xs) c i =
    ap (λ t. angles_need (wanted needs x.modifiers x.gate) 0 x.angles i || t) (calls_last needs xs c i)
    ∙ sym (or_assoc (angles_need (wanted needs x.modifiers x.gate) 0 x.angles i) (calls_need needs xs i) (calls_need needs (c ∷ []) i))

pub call_marked : (needs : Needs) (calls : List BodyCall) (n : ℕ) (c : BodyCall) (mid new : List Bool) → n < length calls
    → c ≡ get_or calls n c → ((i : ℕ) → flag_at mid i ≡ calls_need needs (take n calls) i) → Marks mid new (calls_need needs (c ∷ []))
    → (i : ℕ) → flag_at new i ≡ calls_need needs (take (n + 1) calls) i
call_marked needs calls n c mid new h e f g i =
    let t : take (n + 1) calls ≡ take n calls ++ c ∷ [] = take_more calls n c h ∙ ap (λ x. take n calls ++ x ∷ []) (sym e) in
    g i
    ∙ ap (λ b. b || calls_need needs (c ∷ []) i) (f i)
    ∙ sym (calls_last needs (take n calls) c i)
    ∙ ap (λ (xs : List BodyCall). calls_need needs xs i) (sym t)

-- ---- gates

here : (gates : List GateBody) (k : ℕ) (body : GateBody) → k < length gates → body ≡ get_or gates k body → slice_get gates k ≡ Some body
here [] k body h e = absurd (omega arith)
here (g ∷ gates) zero body h e = ap Some (sym e)
here (g ∷ gates) (suc k) body h e = here gates k body (omega arith) e

pub none_known : (gates : List GateBody) → KnowsNeeds (take 0 gates) []
none_known gates number i h = absurd (omega arith)

pub one_more_known : (gates : List GateBody) (k : ℕ) (body : GateBody) (table new : List (List Bool)) (row : List Bool) → k < length gates
    → body ≡ get_or gates k body → length table ≡ k → KnowsNeeds (take k gates) table
    → ((i : ℕ) → flag_at row i ≡ calls_need (needs_in (expansions_of (take k gates))) body.calls i) → new ≡ table ++ row ∷ []
    → KnowsNeeds (take (k + 1) gates) new
one_more_known gates k body table new row h b l known e w number i within =
    ap (λ (t : List (List Bool)). flag_at (get_or t number []) i) w ∙ by_place (cases_order k number)
  where
    shorter : length (take (k + 1) gates) ≤ k + 1
    shorter = simp length-take (omega arith)

    by_place : (k ≡ number) ⊎ ((k < number) ⊎ (number < k))
        → flag_at (get_or (table ++ row ∷ []) number []) i ≡ needs_in (expansions_of (take (k + 1) gates)) number i
    by_place (inl same) =
        ap (λ (flags : List Bool). flag_at flags i) (get_or_push table row [] number (l ∙ same))
        ∙ e i
        ∙ sym (ap (λ (x : GateExpansion). x.needs i) (gate_expands gates k body (here gates k body h b)))
        ∙ sym (ap (λ (x : GateExpansion). x.needs i) (expands_before gates k (k + 1) (omega arith) h))
        ∙ ap (λ m. needs_in (expansions_of (take (k + 1) gates)) m i) same
    by_place (inr (inl after)) = absurd (omega (arith, shorter, within, after))
    by_place (inr (inr earlier)) =
        let long : number < length gates = omega arith in
        let inside : number < length (take k gates) = simp length-take (omega arith) in
        ap (λ (flags : List Bool). flag_at flags i) (get_or_append_left table (row ∷ []) [] number (omega arith))
        ∙ known number i inside
        ∙ ap (λ (x : GateExpansion). x.needs i) (expands_before gates number k earlier long)
        ∙ sym (ap (λ (x : GateExpansion). x.needs i) (expands_before gates number (k + 1) (omega arith) long))

-- the flags of all gates serve those before one of them
pub known_before : (gates : List GateBody) (k : ℕ) (table : List (List Bool)) → KnowsNeeds gates table → KnowsNeeds (take k gates) table
known_before gates k table known number i within =
    let inside : number < length gates = longer within in
    let before : number < k = sooner within in
    known number i inside ∙ sym (ap (λ (x : GateExpansion). x.needs i) (expands_before gates number k before inside))
  where
    long : length (take k gates) ≤ length gates
    long = simp length-take (omega arith)

    short : length (take k gates) ≤ k
    short = simp length-take (omega arith)

    longer : number < length (take k gates) → number < length gates
    longer w = omega (arith, long, w)

    sooner : number < length (take k gates) → number < k
    sooner w = omega (arith, short, w)
