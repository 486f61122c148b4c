-- The mass of a plain state over 2^96: the sum of |entry|² times the weight 2^(96 − 2·halvings).
use Rattle.std.proofs.Common.{◌≡◌, ℕ, zero, suc, ◌+◌, ◌-◌, ◌*◌, ◌%◌, ◌^◌, ◌<◌, ◌≤◌, refl, sym, ap, ◌∙◌, subst, arith, ℤ, pos, negsuc, ◌+ℤ◌, ◌*ℤ◌, ◌≤ℤ◌, ◌<ℤ◌, to_z}
use mir.Syntax.{w128}
use lib.IntN.{*ℤ_comm, *ℤ-one, zero-*ℤ}
use Rattle.std.proofs.lemmas.Int.{ints, to_z_pos}
use Rattle.std.proofs.lemmas.Nat.{one_shl, pow_below, pow-add}
use Rattle.std.proofs.Math.Pow.{pow_mono}
use Rattle.std.proofs.Math.Nat.{mul-le-mul_left, pow-suc}
use Rattle.qt_ring.specs.State.{State, total_a, total_b}
use Rattle.qt_ring.proofs.Norms.{total_a-nonneg}
use Rattle.qt_root2.specs.Real.{least, lifted}
use Rattle.qt_root2.specs.Root2.{Root2, IsGood, times_root2}
use Rattle.qt_root2.specs.Masses.{real_of_mass}
use Rattle.qt_root2.specs.Numerators.{mass_numerator}
use Rattle.qt_root2.specs.declared.mass.Mass.{Mass}
use Rattle.qt_integers.proofs.Integers.{distrib_left}
use Rattle.qt_root2.proofs.Reals.{least_lifted}
use Rattle.qt_mass.specs.Mass.{mass}
use Rattle.qt_plain.specs.Plain.{IsPlain}

-- ---- the weight

shift_in : (h : ℕ) → h ≤ 32 → 96 - 2 * h < 127
shift_in h l = omega arith

pub weight_is : (h : ℕ) → h ≤ 32 → to_z w128 (1 * 2 ^ (96 - 2 * h) % 2 ^ 128) ≡ pos (2 ^ (96 - 2 * h))
weight_is h l = ap (to_z w128) (one_shl (96 - 2 * h) 128 (omega arith)) ∙ to_z_pos w128 (2 ^ (96 - 2 * h)) (pow_below (96 - 2 * h) 127 (shift_in h l))

weight_below : (h : ℕ) → 2 ^ (96 - 2 * h) ≤ 2 ^ 96
weight_below h = let l : 96 - 2 * h ≤ 96 = omega arith in pow_mono l

pub weight_bounded : (h : ℕ) (w : ℤ) → w ≡ pos (2 ^ (96 - 2 * h)) → w ≤ℤ pos (2 ^ 126)
weight_bounded h w e = let b = weight_below h in omega (arith, ints, b, e)

pub weight_good : (w : ℤ) (n : ℕ) → w ≡ pos n → IsGood w (pos 0)
weight_good w n e = (omega (arith, ints, e), omega (arith, ints, ap (λ z. z *ℤ z) e))

-- ---- the product with the weight

one_times : (x : ℤ) → pos 1 *ℤ x ≡ x
unfolding lib.IntN.one
one_times x = *ℤ_comm (pos 1) x ∙ *ℤ-one x

lifted_is : (n : ℕ) (a : ℤ) → lifted a n ≡ pos (2 ^ n) *ℤ a
lifted_is zero a = sym (one_times a)
lifted_is (suc n) a =
    let e : 2 ^ n + 2 ^ n ≡ 2 ^ suc n = omega arith in
    ap (λ z. z +ℤ z) (lifted_is n a) ∙ sym (distrib_left a (pos (2 ^ n)) (pos (2 ^ n))) ∙ ap (λ k. pos k *ℤ a) e

first_is : (h : ℕ) (w a b : ℤ) → w ≡ pos (2 ^ (96 - 2 * h)) → w *ℤ a +ℤ pos 2 *ℤ (pos 0 *ℤ b) ≡ lifted a (96 - 2 * h)
first_is h w a b e = ap (λ z. z *ℤ a +ℤ pos 2 *ℤ (pos 0 *ℤ b)) e ∙ ap (λ z. pos (2 ^ (96 - 2 * h)) *ℤ a +ℤ pos 2 *ℤ z) (zero-*ℤ b) ∙ omega (arith, ints) ∙ sym (lifted_is (96 - 2 * h) a)

second_is : (h : ℕ) (w a b : ℤ) → w ≡ pos (2 ^ (96 - 2 * h)) → w *ℤ b +ℤ pos 0 *ℤ a ≡ lifted b (96 - 2 * h)
second_is h w a b e = ap (λ z. z *ℤ b +ℤ pos 0 *ℤ a) e ∙ ap (λ z. pos (2 ^ (96 - 2 * h)) *ℤ b +ℤ z) (zero-*ℤ a) ∙ omega (arith, ints) ∙ sym (lifted_is (96 - 2 * h) b)

pub weighed_mass : (s : State) (m : Mass) (w a b : ℤ) → IsPlain s → w ≡ pos (2 ^ (96 - 2 * s.halvings)) → a ≡ total_a s.entries → b ≡ total_b s.entries → (let x : Root2 = record { a = w; b = pos 0 } in let y : Root2 = record { a = a; b = b } in mass_numerator m ≡ times_root2 x y) → real_of_mass m ≡ mass s
unfolding mass
weighed_mass s m w a b p e f g n =
    let k : 96 ≡ 96 - 2 * s.halvings + (s.halvings + s.halvings) = (let l = p.few_halvings in omega (arith, l)) in
    ap (λ (r : Root2). least 96 r.a r.b) n
    ∙ ap (λ z. least 96 z (w *ℤ b +ℤ pos 0 *ℤ a)) (first_is s.halvings w a b e)
    ∙ ap (λ z. least 96 (lifted a (96 - 2 * s.halvings)) z) (second_is s.halvings w a b e)
    ∙ ap (λ j. least j (lifted a (96 - 2 * s.halvings)) (lifted b (96 - 2 * s.halvings))) k
    ∙ least_lifted (96 - 2 * s.halvings) (s.halvings + s.halvings) a b
    ∙ ap (λ z. least (s.halvings + s.halvings) z b) f
    ∙ ap (least (s.halvings + s.halvings) (total_a s.entries)) g

-- ---- it is at most 1

four_is : (h : ℕ) → 4 ^ h ≡ 2 ^ (2 * h)
four_is zero = refl
four_is (suc h) =
    let e : 2 * suc h ≡ suc (suc (2 * h)) = omega arith in
    let f : 4 ^ suc h ≡ 4 ^ h * 4 = pow-suc 4 h in
    let i : 4 ^ h ≡ 2 ^ (2 * h) = four_is h in
    let t : 2 ^ suc (suc (2 * h)) ≡ 2 ^ (2 * h) * 4 = omega arith in
    f ∙ ap (λ k. k * 4) i ∙ sym t ∙ ap (λ k. 2 ^ k) (sym e)

weight_times : (h n : ℕ) → h ≤ 32 → n ≤ 4 ^ h → 2 ^ (96 - 2 * h) * n ≤ 2 ^ 96
weight_times h n l m =
    let e : 2 ^ (96 - 2 * h) * 2 ^ (2 * h) ≡ 2 ^ (96 - 2 * h + 2 * h) = sym (pow-add 2 (96 - 2 * h) (2 * h)) in
    let f : 96 - 2 * h + 2 * h ≡ 96 = omega arith in
    let g : 2 ^ (96 - 2 * h) * 4 ^ h ≡ 2 ^ 96 = ap (λ k. 2 ^ (96 - 2 * h) * k) (four_is h) ∙ e ∙ ap (λ k. 2 ^ k) f in
    let b : 2 ^ (96 - 2 * h) * n ≤ 2 ^ (96 - 2 * h) * 4 ^ h = mul-le-mul_left (2 ^ (96 - 2 * h)) m in
    omega arith

times_bounded : (h : ℕ) (a : ℤ) → h ≤ 32 → pos 0 ≤ℤ a → a ≤ℤ pos (4 ^ h) → (pos (2 ^ (96 - 2 * h)) *ℤ a) ≤ℤ pos (2 ^ 96)
times_bounded h (pos n) l z b = let t : 2 ^ (96 - 2 * h) * n ≤ 2 ^ 96 = weight_times h n l (omega (arith, ints)) in omega (arith, ints)
times_bounded h (negsuc n) l z b = absurd (omega (arith, ints))

pub product_bounded : (s : State) (w a : ℤ) → IsPlain s → w ≡ pos (2 ^ (96 - 2 * s.halvings)) → a ≡ total_a s.entries → (w *ℤ a) ≤ℤ pos (2 ^ 96)
product_bounded s w a p e f = rw (e, f) (times_bounded s.halvings (total_a s.entries) p.few_halvings (total_a-nonneg s.entries) p.bounded)

pub first_bounded : (s : State) (w a b : ℤ) → IsPlain s → w ≡ pos (2 ^ (96 - 2 * s.halvings)) → a ≡ total_a s.entries → (w *ℤ a +ℤ pos 2 *ℤ (pos 0 *ℤ b)) ≤ℤ pos (2 ^ 96)
first_bounded s w a b p e f = let t = product_bounded s w a p e f in let z = zero-*ℤ b in omega (arith, ints, t, z)

pub weigh_ok : (s : State) (w a b : ℤ) → IsPlain s → w ≡ pos (2 ^ (96 - 2 * s.halvings)) → a ≡ total_a s.entries → ((w *ℤ a) ≤ℤ pos (2 ^ 125)) × ((w *ℤ a +ℤ pos 2 *ℤ (pos 0 *ℤ b)) <ℤ pos (2 ^ 100))
weigh_ok s w a b p e f =
    let t = product_bounded s w a p e f in
    let u = first_bounded s w a b p e f in
    (omega (arith, ints, t), omega (arith, ints, u))

pub mass_bounded : (s : State) (m : Mass) (w a b : ℤ) → IsPlain s → w ≡ pos (2 ^ (96 - 2 * s.halvings)) → a ≡ total_a s.entries → (let x : Root2 = record { a = w; b = pos 0 } in let y : Root2 = record { a = a; b = b } in mass_numerator m ≡ times_root2 x y) → m.a ≤ℤ pos (2 ^ 96)
mass_bounded s m w a b p e f n = subst (λ (z : ℤ). z ≤ℤ pos (2 ^ 96)) (sym (ap (λ (r : Root2). r.a) n)) (first_bounded s w a b p e f)
