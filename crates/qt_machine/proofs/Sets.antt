-- Qubits as a set: one came twice exactly where one of the list stands twice, or stands among those of before.
use Rattle.std.proofs.Common.{◌≡◌, ℕ, zero, suc, ◌^◌, ◌<◌, max, Bool, true, false, ◌||◌, nat_eq, List, [], ◌∷◌, refl, sym, ap, ◌∙◌, eq-eqb, arith}
use Rattle.std.specs.Int.{bit_at}
use Rattle.std.proofs.lemmas.Nat.Bits.{bit_at_or, bit_at-pow_same, bit_at-pow_other, bit_at-zero}
use mathlib.Core.Logic.{inl, inr}
use Rattle.std.proofs.lemmas.Bool.Decides.{eqb_tells}
use Rattle.qt_ring.specs.Places.{is_one}
use Rattle.qt_meaning.specs.Applying.{is_among, some_twice}
use Rattle.qt_machine.proofs.Bits.{not_same}
use Rattle.qt_machine.specs.declared.qubits.Named.{Named}
use Rattle.qt_machine.specs.Named.{with_qubit, with_qubits}

abbrev pub is_in : Named → ℕ → Bool
is_in named r = is_one (bit_at named.mask r)

pub or_assoc : (a b c : Bool) → ((a || b) || c) ≡ (a || (b || c))
or_assoc true b c = refl
or_assoc false b c = refl

pub or-false : (a : Bool) → (a || false) ≡ a
or-false true = refl
or-false false = refl

above_zero : (k : ℕ) → 0 < k → is_one k ≡ true
above_zero zero h = absurd (omega arith)
above_zero (suc k) h = refl

one_of_max : (a b : ℕ) → is_one (max a b) ≡ (is_one a || is_one b)
one_of_max zero zero = refl
one_of_max zero (suc b) = above_zero _ (omega arith)
one_of_max (suc a) b = above_zero _ (omega arith)

power_is : (q r : ℕ) → is_one (bit_at (2 ^ q) r) ≡ nat_eq r q
power_is q r = elim (eqb_tells r q) [
  | inl e ↦ ap (λ t. is_one (bit_at (2 ^ q) t)) e.1 ∙ ap is_one (bit_at-pow_same q) ∙ sym e.0
  | inr n ↦ ap is_one (bit_at-pow_other q r n.1) ∙ sym n.0
]

-- one more qubit
in_with_qubit : (q r : ℕ) (named : Named) → is_in (with_qubit q named) r ≡ (is_in named r || nat_eq r q)
in_with_qubit q r named =
    ap is_one (bit_at_or named.mask (2 ^ q) r)
    ∙ one_of_max (bit_at named.mask r) (bit_at (2 ^ q) r)
    ∙ ap (λ b. is_in named r || b) (power_is q r)

-- those of a list
pub in_with_qubits : (qs : List ℕ) (r : ℕ) (named : Named) → is_in (with_qubits qs named) r ≡ (is_in named r || is_among r qs)
in_with_qubits [] r named = sym (or-false (is_in named r))
in_with_qubits (q ∷ qs) r named =
    in_with_qubits qs r (with_qubit q named)
    ∙ ap (λ b. b || is_among r qs) (in_with_qubit q r named)
    ∙ or_assoc (is_in named r) (nat_eq r q) (is_among r qs)

-- one of a list was there before
abbrev pub some_in : List ℕ → Named → Bool
some_in [] named = false
some_in (q ∷ qs) named = is_in named q || some_in qs named

eqb_turned : (q r : ℕ) → nat_eq q r ≡ nat_eq r q
eqb_turned q r = elim (eqb_tells q r) [
  | inl e ↦ e.0 ∙ sym (eq-eqb r q (sym e.1))
  | inr n ↦ n.0 ∙ sym (not_same r q (λ e. n.1 (sym e)))
]

regroup : (a b c d : Bool) → ((a || b) || (c || d)) ≡ ((a || c) || (b || d))
regroup true b c d = refl
regroup false true true d = refl
regroup false true false d = refl
regroup false false c d = refl

some_in_with : (qs : List ℕ) (q : ℕ) (named : Named) → some_in qs (with_qubit q named) ≡ (some_in qs named || is_among q qs)
some_in_with [] q named = refl
some_in_with (r ∷ rs) q named =
    ap (λ b. b || some_in rs (with_qubit q named)) (in_with_qubit q r named ∙ ap (λ b. is_in named r || b) (eqb_turned r q))
    ∙ ap (λ b. (is_in named r || nat_eq q r) || b) (some_in_with rs q named)
    ∙ regroup (is_in named r) (nat_eq q r) (some_in rs named) (is_among q rs)

shuffle : (t b s a l : Bool) → ((t || b) || ((s || a) || l)) ≡ (t || ((b || s) || (a || l)))
shuffle true b s a l = refl
shuffle false true s a l = refl
shuffle false false true a l = refl
shuffle false false false a l = refl

pub twice_with : (qs : List ℕ) (named : Named) → (with_qubits qs named).twice ≡ (named.twice || (some_in qs named || some_twice qs))
twice_with [] named = sym (or-false named.twice)
twice_with (q ∷ qs) named =
    twice_with qs (with_qubit q named)
    ∙ ap (λ b. (named.twice || is_in named q) || (b || some_twice qs)) (some_in_with qs q named)
    ∙ shuffle named.twice (is_in named q) (some_in qs named) (is_among q qs) (some_twice qs)

none_in : (qs : List ℕ) (none : Named) → none.mask ≡ 0 → some_in qs none ≡ false
none_in [] none m = refl
none_in (q ∷ qs) none m = ap (λ b. b || some_in qs none) (ap (λ k. is_one (bit_at k q)) m ∙ ap is_one (bit_at-zero q)) ∙ none_in qs none m

pub twice_named : (qs : List ℕ) (none : Named) → none.mask ≡ 0 → none.twice ≡ false → (with_qubits qs none).twice ≡ some_twice qs
twice_named qs none m t =
    twice_with qs none
    ∙ ap (λ b. b || (some_in qs none || some_twice qs)) t
    ∙ ap (λ b. b || some_twice qs) (none_in qs none m)
