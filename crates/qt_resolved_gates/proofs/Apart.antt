-- The qubits of a primitive that is resolved: they are different and below n, and what their masks are.
use Rattle.std.proofs.Common.{◌≡◌, ◌≢◌, ℕ, zero, suc, ◌^◌, ◌<◌, min, Bool, true, false, ◌&&◌, ◌||◌, cond, nat_eq, nat_lt, List, [], ◌∷◌, ◌++◌, Ok, Err, IsTrue, refl, sym, ap, subst, ◌∙◌, append_assoc, eq-eqb, bit_and, arith}
use Rattle.std.specs.Int.{bit_at}
use Rattle.std.specs.List.{list_all}
use Rattle.std.proofs.lemmas.Nat.{or_lt, pow_pos}
use Rattle.std.proofs.lemmas.Nat.Bits.{bit_at_and, bit_at-zero, bit_at-lt, same_from_bits}
use Rattle.std.proofs.Math.Pow.{pow-lt}
use borrow.Author.Tests.{ltb-true, eqb-true}
use mathlib.Core.Logic.{◌⊎◌, inl, inr}
use Rattle.qt_ring.specs.Places.{Free, AreQubits, is_one}
use Rattle.qt_meaning.specs.Applying.{is_among, some_twice}
use Rattle.qt_meaning.specs.Values.{Evaluated, Index, and_then}
use Rattle.qt_code_rules.specs.declared.sizes.Sizes.{Sizes}
use Rattle.qt_code_rules.specs.Sizes.{has_reference}
use Rattle.qt_instructions.specs.declared.reference.QubitRef.{QubitRef}
use Rattle.qt_instructions.specs.declared.reference.QubitRef.TheVariants as qubit
use Rattle.qt_code.specs.Cells.{Cells, qubit_of, qubits_of}
use Rattle.qt_machine.specs.declared.qubits.Named.{Named}
use Rattle.qt_machine.specs.Named.{with_qubit, with_qubits}
use Rattle.qt_machine.proofs.Bits.{not_same}
use Rattle.qt_machine.proofs.Sets.{in_with_qubits}
use Rattle.qt_embedding.specs.Controls.{AreMasks, IsTarget}
use Rattle.qt_embedding.proofs.Tests.{zero_or_one, is_one_true, one_above}
use Rattle.qt_resolved_gates.specs.Resolved.{mask_of, no_qubits}

-- ---- below n

abbrev pub Below : ℕ → List ℕ → Type 0
Below n [] = Unit {0}
Below n (q ∷ qs) = (q < n) × Below n qs

abbrev pub Good : {A : Type 0} → (A → Type 0) → Evaluated A → Type 0
Good P (Ok a) = P a
Good P (Err f) = Unit {0}

tested : (b : Bool) (q n : ℕ) → (b ≡ true → q < n) → Good (λ r. r < n) (cond b (Ok q) (Err Index))
tested true q n h = h refl
tested false q n h = tt

qubit_below : (sizes : Sizes) (r : QubitRef) (cells : Cells) → IsTrue (has_reference sizes r) → Good (λ q. q < sizes.qubits) (qubit_of sizes.qubits r cells)
qubit_below sizes (qubit.At q) cells h = ltb-true q sizes.qubits h
qubit_below sizes (qubit.Work cell) cells h = tested (nat_lt (cells cell) sizes.qubits) (cells cell) sizes.qubits (λ e. ltb-true (cells cell) sizes.qubits e)

both_below : (n : ℕ) (a : Evaluated ℕ) (b : Evaluated (List ℕ)) → Good (λ q. q < n) a → Good (Below n) b → Good (Below n) (and_then a (λ q. and_then b (λ qs. Ok (q ∷ qs))))
both_below n (Ok q) (Ok qs) h k = (h, k)
both_below n (Ok q) (Err f) h k = tt
both_below n (Err f) b h k = tt

left : (a b : Bool) → (a && b) ≡ true → a ≡ true
left true b h = refl
left false b h = h

right : (a b : Bool) → (a && b) ≡ true → b ≡ true
right true b h = h
right false b h = absurd (cc)

pub all_below : (sizes : Sizes) (rs : List QubitRef) (cells : Cells) → IsTrue (list_all (has_reference sizes) rs)
    → Good (Below sizes.qubits) (qubits_of sizes.qubits rs cells)
all_below sizes [] cells h = tt
all_below sizes (r ∷ rs) cells h =
    both_below sizes.qubits (qubit_of sizes.qubits r cells) (qubits_of sizes.qubits rs cells)
    (qubit_below sizes r cells (left (has_reference sizes r) (list_all (has_reference sizes) rs) h))
    (all_below sizes rs cells (right (has_reference sizes r) (list_all (has_reference sizes) rs) h))

-- ---- different

none_of : (a b : Bool) → (a || b) ≡ false → (a ≡ false) × (b ≡ false)
none_of true b e = absurd (cc)
none_of false b e = (refl, e)

not_equal : (q r : ℕ) → nat_eq q r ≡ false → q ≢ r
not_equal q r e = λ f. (let g : nat_eq q r ≡ true = eq-eqb q r f in absurd (cc))

free_of : (q : ℕ) (qs : List ℕ) → is_among q qs ≡ false → Free q qs
free_of q [] e = tt
free_of q (r ∷ rs) e = let h = none_of (nat_eq q r) (is_among q rs) e in (not_equal q r h.0, free_of q rs h.1)

pub are_qubits : (n : ℕ) (qs : List ℕ) → Below n qs → some_twice qs ≡ false → AreQubits n qs
are_qubits n [] b e = tt
are_qubits n (q ∷ qs) b e = let h = none_of (is_among q qs) (some_twice qs) e in (b.0, free_of q qs h.0, are_qubits n qs b.1 h.1)

first_below : (n q r : ℕ) (rest : Bool) → r < n → (rest ≡ true → q < n) → (b : Bool) → nat_eq q r ≡ b → (b || rest) ≡ true → q < n
first_below n q r rest h next true e g = let f : q ≡ r = eqb-true q r e in omega arith
first_below n q r rest h next false e g = next g

-- ---- in two lists

pub front_qubits : (n : ℕ) (xs ys : List ℕ) → AreQubits n (xs ++ ys) → Below n xs
front_qubits n [] ys a = tt
front_qubits n (x ∷ xs) ys a = (a.0, front_qubits n xs ys a.2)

pub back_qubits : (n : ℕ) (xs ys : List ℕ) → AreQubits n (xs ++ ys) → AreQubits n ys
back_qubits n [] ys a = a
back_qubits n (x ∷ xs) ys a = back_qubits n xs ys a.2

pub whole_below : (n : ℕ) (xs : List ℕ) → AreQubits n xs → Below n xs
whole_below n [] a = tt
whole_below n (x ∷ xs) a = (a.0, whole_below n xs a.2)

free_back : (q : ℕ) (xs ys : List ℕ) → Free q (xs ++ ys) → Free q ys
free_back q [] ys f = f
free_back q (x ∷ xs) ys f = free_back q xs ys f.1

free_front : (q : ℕ) (xs ys : List ℕ) → Free q (xs ++ ys) → Free q xs
free_front q [] ys f = tt
free_front q (x ∷ xs) ys f = (f.0, free_front q xs ys f.1)

first_free : (ys : List ℕ) (r x : ℕ) (rest : Bool) → Free x ys → (rest ≡ true → Free r ys) → (b : Bool) → nat_eq r x ≡ b → (b || rest) ≡ true → Free r ys
first_free ys r x rest f next true e g = subst (λ (k : ℕ). Free k ys) (sym (eqb-true r x e)) f
first_free ys r x rest f next false e g = next g

-- those in front are none of those behind
pub apart_free : (n : ℕ) (xs ys : List ℕ) (r : ℕ) → AreQubits n (xs ++ ys) → is_among r xs ≡ true → Free r ys
apart_free n [] ys r a e = absurd (cc)
apart_free n (x ∷ xs) ys r a e = first_free ys r x (is_among r xs) (free_back x xs ys a.1) (λ g. apart_free n xs ys r a.2 g) (nat_eq r x) refl e

pub not_among : (r : ℕ) (qs : List ℕ) → Free r qs → is_among r qs ≡ false
not_among r [] f = refl
not_among r (q ∷ qs) f = ap (λ b. b || is_among r qs) (not_same r q f.0) ∙ not_among r qs f.1

-- ---- masks

pub in_mask : (qs : List ℕ) (r : ℕ) → is_one (bit_at (mask_of qs) r) ≡ is_among r qs
in_mask qs r = in_with_qubits qs r no_qubits ∙ ap (λ k. is_one k || is_among r qs) (bit_at-zero r)

mask_from : (n : ℕ) (qs : List ℕ) (s : Named) → Below n qs → s.mask < 2 ^ n → (with_qubits qs s).mask < 2 ^ n
mask_from n [] s b h = h
mask_from n (q ∷ qs) s b h = mask_from n qs (with_qubit q s) b.1 (or_lt n s.mask (2 ^ q) h (pow-lt b.0))

pub mask_below : (n : ℕ) (qs : List ℕ) → Below n qs → mask_of qs < 2 ^ n
mask_below n qs b = mask_from n qs no_qubits b (pow_pos n)

no_one : (k : ℕ) → k < 2 → is_one k ≡ false → k ≡ 0
no_one zero h e = refl
no_one (suc k) h e = absurd (cc)

pub bit_outside : (qs : List ℕ) (r : ℕ) → Free r qs → bit_at (mask_of qs) r ≡ 0
bit_outside qs r f = no_one (bit_at (mask_of qs) r) (bit_at-lt (mask_of qs) r) (in_mask qs r ∙ not_among r qs f)

pub is_inside : (qs : List ℕ) (r : ℕ) → 0 < bit_at (mask_of qs) r → is_among r qs ≡ true
is_inside qs r h = sym (in_mask qs r) ∙ is_one_true (bit_at (mask_of qs) r) h

pub bit_inside : (qs : List ℕ) (r : ℕ) → is_among r qs ≡ true → 0 < bit_at (mask_of qs) r
bit_inside qs r e = one_above (bit_at (mask_of qs) r) (in_mask qs r ∙ e)

at_bit : (os zs : List ℕ) (r : ℕ) → (is_among r os ≡ true → Free r zs) → (bit_at (mask_of os) r ≡ 0) ⊎ (bit_at (mask_of os) r ≡ 1)
    → min (bit_at (mask_of os) r) (bit_at (mask_of zs) r) ≡ 0
at_bit os zs r h (inl e) = omega arith
at_bit os zs r h (inr e) = let z : bit_at (mask_of zs) r ≡ 0 = bit_outside zs r (h (is_inside os r (omega arith))) in omega arith

masks_apart : (os zs : List ℕ) → ((r : ℕ) → is_among r os ≡ true → Free r zs) → bit_and (mask_of os) (mask_of zs) ≡ 0
masks_apart os zs h = same_from_bits (bit_and (mask_of os) (mask_of zs)) 0 (λ r.
    bit_at_and (mask_of os) (mask_of zs) r
    ∙ at_bit os zs r (h r) (zero_or_one (bit_at (mask_of os) r) (bit_at-lt (mask_of os) r))
    ∙ sym (bit_at-zero r))

pub are_masks : (n : ℕ) (os zs : List ℕ) → AreQubits n (os ++ zs) → AreMasks n (mask_of os) (mask_of zs)
are_masks n os zs a = record {
  ones_in = mask_below n os (front_qubits n os zs a);
  clear_in = mask_below n zs (whole_below n zs (back_qubits n os zs a));
  apart = masks_apart os zs (λ r e. apart_free n os zs r a e);
}

pub prefix_qubits : (n : ℕ) (xs ys : List ℕ) → AreQubits n (xs ++ ys) → AreQubits n xs
prefix_qubits n [] ys a = tt
prefix_qubits n (x ∷ xs) ys a = (a.0, free_front x xs ys a.1, prefix_qubits n xs ys a.2)

pub or_true : (a b : Bool) → b ≡ true → (a || b) ≡ true
or_true true b e = refl
or_true false b e = e

pub among_last : (xs : List ℕ) (t : ℕ) → is_among t (xs ++ (t ∷ [])) ≡ true
among_last [] t = ap (λ b. b || false) (eq-eqb t t refl)
among_last (x ∷ xs) t = or_true (nat_eq t x) (is_among t (xs ++ (t ∷ []))) (among_last xs t)

-- a qubit behind has no bit in the mask of those in front
pub not_in_front : (n : ℕ) (xs ys : List ℕ) (t : ℕ) → AreQubits n (xs ++ ys) → is_among t ys ≡ true → bit_at (mask_of xs) t ≡ 0
not_in_front n xs ys t a e = elim (zero_or_one (bit_at (mask_of xs) t) (bit_at-lt (mask_of xs) t)) [
  | inl z ↦ z
  | inr o ↦
      let inside : is_among t xs ≡ true = is_inside xs t (omega arith) in
      let none : is_among t ys ≡ false = not_among t ys (apart_free n xs ys t a inside) in
      absurd (cc)
]

pub is_target : (n : ℕ) (os zs : List ℕ) (t : ℕ) → AreQubits n (os ++ (zs ++ (t ∷ []))) → IsTarget n (mask_of os) (mask_of zs) t
is_target n os zs t a =
    let behind : AreQubits n (zs ++ (t ∷ [])) = back_qubits n os (zs ++ (t ∷ [])) a in
    record {
      target_in = (back_qubits n zs (t ∷ []) behind).0;
      not_in_ones = not_in_front n os (zs ++ (t ∷ [])) t a (among_last zs t);
      not_in_clear = not_in_front n zs (t ∷ []) t behind (among_last [] t);
    }

pub controls_of_turn : (n : ℕ) (os zs : List ℕ) (t : ℕ) → AreQubits n (os ++ (zs ++ (t ∷ []))) → AreQubits n (os ++ zs)
controls_of_turn n os zs t a = prefix_qubits n (os ++ zs) (t ∷ []) (subst (AreQubits n) (sym (append_assoc os zs (t ∷ []))) a)

pub member_below : (n : ℕ) (qs : List ℕ) (q : ℕ) → Below n qs → is_among q qs ≡ true → q < n
member_below n [] q b e = absurd (cc)
member_below n (r ∷ rs) q b e = first_below n q r (is_among q rs) b.0 (λ g. member_below n rs q b.1 g) (nat_eq q r) refl e
