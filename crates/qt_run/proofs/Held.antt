-- What a tally holds: after a mass is added, at each output value and in all.
use Rattle.std.proofs.Common.{◌≡◌, ℕ, ◌+◌, ◌^◌, ◌≤◌, Bool, true, false, cond, Option, Some, None, List, [], ◌∷◌, refl, sym, ap, ◌∙◌, arith, ℤ, pos, negsuc, ◌+ℤ◌, unwrap_or}
use Rattle.std.specs.Prelude.{◌≤ℤ◌}
use Rattle.std.specs.Cmp.Lexicographic.{slice_cmp, lists_total}
use Rattle.std.specs.Int.RustNames.{unsigned_abs}
use Rattle.std.specs.BTreeMap.{insert_entry}
use Rattle.std.specs.List.Sorted.{IsStrictlySortedBy}
use Rattle.std.specs.Cmp.{nat_cmp_total}
use Rattle.std.specs.Map.{lookup, keys_of}
use Rattle.std.specs.Option.{option_map, option_map_or}
use Rattle.std.specs.Ordering.{is_eq, nat_cmp}
use Rattle.std.proofs.lemmas.Bool.Decides.{nat_tests}
use Rattle.std.proofs.lemmas.Cmp.{same_from_slice_cmp}
use Rattle.std.proofs.lemmas.Int.{ints}
use Rattle.std.proofs.lemmas.Map.Entries.{sum_by-remove_entry, sum_by-insert_entry}
use Rattle.qt_root2.specs.declared.mass.Mass.{Mass}
use Rattle.qt_root2.specs.Real.{zero_real, plus_real}
use Rattle.qt_root2.proofs.Masses.{real_of_mass-plus, real_of_mass_is_least}
use Rattle.qt_root2.proofs.Reals.{IsLeast, zero_real_is_least, plus_real-zero}
use Rattle.qt_run.specs.Distribution.{same_values, part}
use Rattle.qt_run.specs.Tally.{Masses, held, numerators, real_number, whole_part, whole_part_held}
use Rattle.qt_run.proofs.Values.{same_values_eq}

-- ---- the test of the map's keys is that of the definition

is_eq-slice_cmp : (x y : List ℕ) → is_eq (slice_cmp nat_cmp x y) ≡ same_values x y
is_eq-slice_cmp x y =
    same_from_slice_cmp nat_cmp is_eq same_values refl (λ z zs. refl) (λ z zs. refl) (λ a b xs ys o h. grind (arith, nat_tests)) x y (slice_cmp nat_cmp x y) refl

lookup-slice_cmp : (x : List ℕ) (masses : Masses) → lookup (λ y. is_eq (slice_cmp nat_cmp x y)) masses ≡ lookup (same_values x) masses
lookup-slice_cmp x [] = refl
lookup-slice_cmp x (e ∷ es) =
    ap (λ b. cond b (Some e.1) (lookup (λ y. is_eq (slice_cmp nat_cmp x y)) es)) (is_eq-slice_cmp x e.0)
    ∙ ap (cond (same_values x e.0) (Some e.1)) (lookup-slice_cmp x es)

-- ---- at each output value

pub real_number_is_least : (m : Mass) → IsLeast (real_number m)
unfolding real_number
real_number_is_least m = real_of_mass_is_least m

real_at_is_least : (o : Option Mass) → IsLeast (option_map_or real_number o zero_real)
real_at_is_least None = zero_real_is_least
real_at_is_least (Some m) = real_number_is_least m

pub held_is_least : (masses : Masses) (output : List ℕ) → IsLeast (held masses output)
held_is_least masses output = real_at_is_least (lookup (same_values output) masses)

-- by what a search in the map gives

pub held_found : (masses : Masses) (k : List ℕ) (o : Option Mass) → lookup (λ y. is_eq (slice_cmp nat_cmp k y)) masses ≡ o → held masses k ≡ option_map_or real_number o zero_real
held_found masses k o h = ap (λ x. option_map_or real_number x zero_real) (sym (lookup-slice_cmp k masses) ∙ h)

pub whole_part_found : (masses : Masses) (k : List ℕ) (o : Option Mass) → lookup (λ y. is_eq (slice_cmp nat_cmp k y)) masses ≡ o → whole_part_held masses k ≡ option_map_or whole_part o 0
whole_part_found masses k o h = ap (λ x. option_map_or whole_part x 0) (sym (lookup-slice_cmp k masses) ∙ h)

-- a sum with what was there before
pub real_number_of_sum : (before m v : Mass) → v.a ≡ before.a +ℤ m.a → v.b ≡ before.b +ℤ m.b → real_number v ≡ plus_real (real_number before) (real_number m)
unfolding real_number
real_number_of_sum before m v a b = real_of_mass-plus before m v a b

pub held_added : (old new : Masses) (k : List ℕ) (m v : Mass)
    → ((q : List ℕ) → lookup (λ y. is_eq (slice_cmp nat_cmp q y)) new ≡ cond (is_eq (slice_cmp nat_cmp k q)) (Some v) (lookup (λ y. is_eq (slice_cmp nat_cmp q y)) old))
    → real_number v ≡ plus_real (held old k) (real_number m)
    → (o : List ℕ) → held new o ≡ plus_real (held old o) (part (same_values k o) (real_number m))
held_added old new k m v u r o =
    ap (λ s. option_map_or real_number s zero_real) (sym (lookup-slice_cmp o new) ∙ u o) ∙ ap (λ b. option_map_or real_number (cond b (Some v) (lookup (λ y. is_eq (slice_cmp nat_cmp o y)) old)) zero_real) (is_eq-slice_cmp k o)
    ∙ step (same_values k o) refl
  where
    step : (b : Bool) → same_values k o ≡ b → option_map_or real_number (cond b (Some v) (lookup (λ y. is_eq (slice_cmp nat_cmp o y)) old)) zero_real ≡ plus_real (held old o) (part b (real_number m))
    step true e = r ∙ ap (λ x. plus_real (held old x) (real_number m)) (same_values_eq k o e)
    step false e = ap (λ s. option_map_or real_number s zero_real) (lookup-slice_cmp o old) ∙ sym (plus_real-zero (held old o) (held_is_least old o))

-- ---- in all

-- the whole part of a numerator is not below 0
abs_sum : (a b : ℤ) → pos 0 ≤ℤ a → pos 0 ≤ℤ b → unsigned_abs (a +ℤ b) ≡ unsigned_abs a + unsigned_abs b
abs_sum (pos a) (pos b) f g = refl
abs_sum (pos a) (negsuc b) f g = absurd (omega (arith, ints, g))
abs_sum (negsuc a) b f g = absurd (omega (arith, ints, f))

pub abs_is : (a : ℤ) → pos 0 ≤ℤ a → pos (unsigned_abs a) ≡ a
abs_is (pos a) f = refl
abs_is (negsuc a) f = absurd (omega (arith, ints, f))

pub whole_part_of_sum : (before m v : Mass) → v.a ≡ before.a +ℤ m.a → whole_part v ≡ whole_part before + whole_part m
whole_part_of_sum before m v e = ap unsigned_abs e ∙ abs_sum before.a m.a before.good.0 m.good.0

-- a mass that is found is not above all numerators
pub found_within : (test : List ℕ → Bool) (masses : Masses) (m : Mass) → lookup test masses ≡ Some m → whole_part m ≤ numerators masses
found_within test masses m h =
    let s = sum_by-remove_entry whole_part test masses in
    let e : unwrap_or (option_map whole_part (lookup test masses)) 0 ≡ whole_part m = ap (λ o. unwrap_or (option_map whole_part o) 0) h in
    omega (arith, s, e)

pub sum_fits : (before m : Mass) → whole_part before + whole_part m ≤ 2 ^ 126 → (before.a +ℤ m.a) ≤ℤ pos (2 ^ 126)
sum_fits before m h =
    let a = abs_is before.a before.good.0 in
    let b = abs_is m.a m.good.0 in
    omega (arith, ints, a, b, h)

pub numerators_added : (old new : Masses) (k : List ℕ) (m v : Mass)
    → IsStrictlySortedBy (slice_cmp nat_cmp) (keys_of old) → new ≡ insert_entry (slice_cmp nat_cmp) old k v
    → whole_part v ≡ whole_part_held old k + whole_part m → numerators new ≡ numerators old + whole_part m
numerators_added old new k m v o e w =
    let s = sum_by-insert_entry whole_part (lists_total nat_cmp_total) old k v o in
    let h = either (lookup (λ y. is_eq (slice_cmp nat_cmp k y)) old) in
    let l : whole_part_held old k ≡ option_map_or whole_part (lookup (λ y. is_eq (slice_cmp nat_cmp k y)) old) 0 = ap (λ x. option_map_or whole_part x 0) (sym (lookup-slice_cmp k old)) in
    ap numerators e ∙ omega (arith, s, h, l, w)
  where
    either : (x : Option Mass) → unwrap_or (option_map whole_part x) 0 ≡ option_map_or whole_part x 0
    either None = refl
    either (Some y) = refl
