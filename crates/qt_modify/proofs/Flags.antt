-- Lists of flags.
use Rattle.std.proofs.Common.{◌≡◌, ℕ, zero, suc, ◌<◌, ◌≤◌, List, [], ◌∷◌, ◌++◌, length, get_or, refl, sym, ap, subst, ◌∙◌, arith}
use Rattle.std.specs.Prelude.{Bool, true, false, ◌||◌, slice_get, slice_set, unwrap_or, set, ℤ}
use Rattle.std.proofs.Math.Bool.{or_assoc}
use Rattle.std.proofs.lemmas.List.{get_or_past}
use Rattle.std.proofs.lemmas.Option.{unwrap_or-slice_get}
use Rattle.qt_gate_calls.specs.declared.angle.Angle.{Angle}
use Rattle.qt_gate_calls.specs.declared.angle.Angle.TheVariants as angle
use Rattle.qt_modify.specs.Needs.{flag_at, is_number, occurs}
use Rattle.qt_modify.specs.Known.{Marks}
use Rattle.qt_modify.specs.Expansions.{GateExpansion, needs_in, expansions_of}
use Rattle.qt_modify.proofs.Numbers.{no_gate_expands}
use Rattle.qt_gate_calls.specs.declared.body.GateBody.{GateBody}
use Rattle.qt_modify.proofs.Views.{units_occurs, parameter_occurs, sum_occurs, difference_occurs, opposite_occurs, product_occurs, quotient_occurs}

pub flag_found : (flags : List Bool) (i : ℕ) → unwrap_or (slice_get flags i) false ≡ flag_at flags i
flag_found flags i = unwrap_or-slice_get flags i false

pub one_longer : (flags : List Bool) (i : ℕ) → flag_at (flags ++ false ∷ []) i ≡ flag_at flags i
one_longer [] zero = refl
one_longer [] (suc i) = refl
one_longer (b ∷ flags) zero = refl
one_longer (b ∷ flags) (suc i) = one_longer flags i

pub or_false : (b : Bool) → b ≡ b || false
or_false true = refl
or_false false = refl

or_true : (b : Bool) → true ≡ b || true
or_true true = refl
or_true false = refl

-- one flag more is set
set_marks : (flags : List Bool) (n : ℕ) → n < length flags → Marks flags (set flags n true) (is_number n)
set_marks [] n h i = absurd (omega arith)
set_marks (b ∷ flags) zero h zero = or_true b
set_marks (b ∷ flags) zero h (suc i) = or_false (flag_at flags i)
set_marks (b ∷ flags) (suc n) h zero = or_false b
set_marks (b ∷ flags) (suc n) h (suc i) = set_marks flags n (omega arith) i

pub marked : (old mid new : List Bool) (n : ℕ) → ((i : ℕ) → flag_at mid i ≡ flag_at old i) → n < length mid → new ≡ slice_set mid n true
    → Marks old new (is_number n)
marked old mid new n same long e i =
    ap (λ (flags : List Bool). flag_at flags i) e ∙ set_marks mid n long i ∙ ap (λ b. b || is_number n i) (same i)

pub none_marked : (flags : List Bool) → Marks flags flags (λ i. false)
none_marked flags i = or_false (flag_at flags i)

-- ---- angles

pub both_marked : (old mid new : List Bool) (f g : ℕ → Bool) → Marks old mid f → Marks mid new g → Marks old new (λ i. f i || g i)
both_marked old mid new f g a b i = b i ∙ ap (λ t. t || g i) (a i) ∙ or_assoc (flag_at old i) (f i) (g i)

pub units_marked : (flags : List Bool) (units : ℤ) → Marks flags flags (occurs (angle.Units units))
units_marked flags units = subst (Marks flags flags) (sym (units_occurs units)) (λ i. or_false (flag_at flags i))

pub parameter_marked : (old new : List Bool) (n : ℕ) → Marks old new (is_number n) → Marks old new (occurs (angle.Parameter n))
parameter_marked old new n h = subst (Marks old new) (sym (parameter_occurs n)) h

pub sum_marked : (a b : Angle) (old mid new : List Bool) → Marks old mid (occurs a) → Marks mid new (occurs b)
    → Marks old new (occurs (angle.Sum a b))
sum_marked a b old mid new f g = subst (Marks old new) (sym (sum_occurs a b)) (both_marked old mid new (occurs a) (occurs b) f g)

pub difference_marked : (a b : Angle) (old mid new : List Bool) → Marks old mid (occurs a) → Marks mid new (occurs b)
    → Marks old new (occurs (angle.Difference a b))
difference_marked a b old mid new f g = subst (Marks old new) (sym (difference_occurs a b))
    (both_marked old mid new (occurs a) (occurs b) f g)

pub opposite_marked : (a : Angle) (old new : List Bool) → Marks old new (occurs a) → Marks old new (occurs (angle.Opposite a))
opposite_marked a old new h = subst (Marks old new) (sym (opposite_occurs a)) h

pub product_marked : (a : Angle) (factor : ℤ) (old new : List Bool) → Marks old new (occurs a)
    → Marks old new (occurs (angle.Product a factor))
product_marked a factor old new h = subst (Marks old new) (sym (product_occurs a factor)) h

pub quotient_marked : (a : Angle) (divisor : ℤ) (old new : List Bool) → Marks old new (occurs a)
    → Marks old new (occurs (angle.Quotient a divisor))
quotient_marked a divisor old new h = subst (Marks old new) (sym (quotient_occurs a divisor)) h

pub ruleset angles = (units_marked, parameter_marked, sum_marked, difference_marked, opposite_marked, product_marked, quotient_marked)

-- ---- tables

pub flags_found : (table : List (List Bool)) (i : ℕ) → unwrap_or (slice_get table i) [] ≡ get_or table i []
flags_found table i = unwrap_or-slice_get table i []

pub no_gate : (gates : List GateBody) (n i : ℕ) → length gates ≤ n → flag_at [] i ≡ needs_in (expansions_of gates) n i
no_gate gates n i h = get_or_past [] i false (omega arith) ∙ sym (ap (λ (x : GateExpansion). x.needs i) (no_gate_expands gates n h))
