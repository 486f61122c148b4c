-- Rotations by cosines and sines: U(θ, φ, λ) times e^{−iθ/2}, where e^{iθ} is the square of w = e^{iθ/2}.
use Rattle.std.proofs.Common.{◌≡◌, ℕ, ◌*◌, [], ◌∷◌, refl, sym, ap, ◌∙◌}
use Rattle.std.specs.Prelude.{codes}
use denote.Hole.Carrier.{hidden}
use Rattle.qt_ring.specs.declared.omega.Omega.{Omega}
use Rattle.qt_ring.specs.Ring.{plus, times, minus, conj, one, imaginary, the_omega, root}
use Rattle.qt_ring.proofs.RingLaws.{plus_comm, plus-times, minus-times, times-minus, times_assoc, times_front, times-one, one-times, minus_plus, minus_minus, plus_both}
use Rattle.qt_gate_calls.specs.Units.{circle}
use Rattle.qt_gate_calls.specs.Standard.{standard_gates}
use Rattle.qt_gate_calls.specs.declared.angle.Angle.TheBlock.{hidden-the_row-Angle-0}
use Rattle.qt_gates.specs.Printed.{Square, square, alone, under_control, rx_square, ry_square, u_square, scaled}
use Rattle.qt_gates.specs.Laws.{doubled, eighths, half_back, quarter_back, EachEighth, Prints}
use Rattle.qt_gates.proofs.Turns.{rx_printed, crx_printed}

same : (a b c d k l m n : Omega) → a ≡ k → b ≡ l → c ≡ m → d ≡ n → square 1 a b c d ≡ square 1 k l m n
same a b c d k l m n e f g h =
    ap (λ t. square 1 t b c d) e ∙ ap (λ t. square 1 k t c d) f ∙ ap (λ t. square 1 k l t d) g ∙ ap (λ t. square 1 k l m t) h

-- ---- sums and differences of w and v = 1/w

sum_is : (w v : Omega) → times w v ≡ one → times (plus one (times w w)) v ≡ plus w v
sum_is w v e =
    plus-times one (times w w) v ∙ plus_both _ _ _ _ (one-times v) (times_assoc w w v ∙ ap (times w) e ∙ times-one w) ∙ plus_comm v w

difference_is : (w v : Omega) → times w v ≡ one → times (plus one (minus (times w w))) v ≡ plus v (minus w)
difference_is w v e =
    plus-times one (minus (times w w)) v
    ∙ plus_both _ _ _ _ (one-times v) (minus-times (times w w) v ∙ ap minus (times_assoc w w v ∙ ap (times w) e ∙ times-one w))

flip : (w v : Omega) → minus (plus w (minus v)) ≡ plus v (minus w)
flip w v = minus_plus w (minus v) ∙ ap (plus (minus w)) (minus_minus v) ∙ plus_comm (minus w) v

-- −i·(w − v) is i·(v − w)
sine_is : (w v : Omega) → times imaginary (plus v (minus w)) ≡ times (minus imaginary) (plus w (minus v))
sine_is w v =
    ap (times imaginary) (sym (flip w v)) ∙ times-minus imaginary (plus w (minus v)) ∙ sym (minus-times imaginary (plus w (minus v)))

-- −i·(v − w) is the opposite
sine_back : (w v : Omega) → times (minus imaginary) (plus v (minus w)) ≡ minus (times (minus imaginary) (plus w (minus v)))
sine_back w v = ap (times (minus imaginary)) (sym (flip w v)) ∙ times-minus (minus imaginary) (plus w (minus v))

-- ---- the four entries

abbrev turned_by : Omega → Omega → Omega → Omega → Square
turned_by w v b c =
    square 1 (plus w v) (times (minus imaginary) (times c (plus v (minus w)))) (times imaginary (times b (plus v (minus w)))) (plus w v)

regroup : (i c x v : Omega) → times (times i (times c x)) v ≡ times i (times c (times x v))
regroup i c x v = times_assoc i (times c x) v ∙ ap (times i) (times_assoc c x v)

turned_is : (w v b c : Omega) → times w v ≡ one → times b c ≡ one → scaled v (u_square (times w w) b c) ≡ turned_by w v b c
turned_is w v b c e f =
    let low = plus one (minus (times w w)) in
    same _ _ _ _ _ _ _ _
    (sum_is w v e)
    (regroup (minus imaginary) c low v ∙ ap (λ t. times (minus imaginary) (times c t)) (difference_is w v e))
    (regroup imaginary b low v ∙ ap (λ t. times imaginary (times b t)) (difference_is w v e))
    (ap (λ t. times (times t (plus one (times w w))) v) f ∙ ap (λ t. times t v) (one-times (plus one (times w w))) ∙ sum_is w v e)

ry_is : (k : ℕ) → turned_by (root k) (conj (root k)) one one ≡ ry_square k
ry_is k =
    let w = root k in
    let v = conj (root k) in
    same _ _ _ _ _ _ _ _ refl
    (ap (times (minus imaginary)) (one-times (plus v (minus w))) ∙ sine_back w v)
    (ap (times imaginary) (one-times (plus v (minus w))) ∙ sine_is w v)
    refl

rx_is : (k : ℕ) → turned_by (root k) (conj (root k)) (minus imaginary) imaginary ≡ rx_square k
rx_is k =
    let w = root k in
    let v = conj (root k) in
    same _ _ _ _ _ _ _ _ refl
    (ap (times (minus imaginary)) (sine_is w v))
    (times_front imaginary (minus imaginary) (plus v (minus w)) ∙ ap (times (minus imaginary)) (sine_is w v))
    refl

-- ---- the numbers at each angle

-- e^{−iθ/2} and e^{iθ}, for θ = 2·kπ/4
abbrev back : ℕ → Omega
back k = circle (half_back (eighths (2 * k)))

abbrev whole : ℕ → Omega
whole k = circle (eighths (2 * k))

abbrev NumbersAt : ℕ → Type 0
NumbersAt k =
    (back k ≡ conj (root k)) × (whole k ≡ times (root k) (root k)) × (times (root k) (conj (root k)) ≡ one)

numbers : EachEighth NumbersAt
unfolding times conj one the_omega
numbers = (
  (refl, refl, refl),
  (refl, refl, refl),
  (refl, refl, refl),
  (refl, refl, refl),
  (refl, refl, refl),
  (refl, refl, refl),
  (refl, refl, refl),
  (refl, refl, refl),
)

quarter_is : circle (eighths 2) ≡ imaginary
unfolding times one the_omega imaginary
quarter_is = refl

quarter_back_is : circle quarter_back ≡ minus imaginary
unfolding times one the_omega imaginary minus
quarter_back_is = refl

around : times (minus imaginary) imaginary ≡ one
unfolding times minus imaginary one
around = refl

-- U times a number, by equal numbers
scaled_same : (g a b c k l m n : Omega) → g ≡ k → a ≡ l → b ≡ m → c ≡ n → scaled g (u_square a b c) ≡ scaled k (u_square l m n)
scaled_same g a b c k l m n e f h i =
    ap (λ t. scaled t (u_square a b c)) e ∙ ap (λ t. scaled k (u_square t b c)) f ∙ ap (λ t. scaled k (u_square l t c)) h
    ∙ ap (λ t. scaled k (u_square l m t)) i

ry_square_is : (k : ℕ) → NumbersAt k
    → scaled (back k) (u_square (whole k) (circle (eighths 0)) (circle (eighths 0))) ≡ ry_square k
ry_square_is k (is_back, is_whole, unit) =
    scaled_same _ _ _ _ _ _ _ _ is_back is_whole refl refl ∙ turned_is (root k) (conj (root k)) one one unit (one-times one) ∙ ry_is k

rx_square_is : (k : ℕ) → NumbersAt k
    → scaled (back k) (u_square (whole k) (circle quarter_back) (circle (eighths 2))) ≡ rx_square k
rx_square_is k (is_back, is_whole, unit) =
    scaled_same _ _ _ _ _ _ _ _ is_back is_whole quarter_back_is quarter_is
    ∙ turned_is (root k) (conj (root k)) (minus imaginary) imaginary unit around ∙ rx_is k

-- ---- the rows of the table

rx_at : (k : ℕ) → NumbersAt k → Prints (codes "rx") (eighths (2 * k) ∷ []) (alone (rx_square k))
unfolding standard_gates hidden hidden-the_row-Angle-0
rx_at k n =
    rx_printed (back k) (whole k) (circle quarter_back) (circle (eighths 2))
    ∙ ap (λ (m : Square). doubled 1 (alone m).rows) (rx_square_is k n)

ry_at : (k : ℕ) → NumbersAt k → Prints (codes "ry") (eighths (2 * k) ∷ []) (alone (ry_square k))
unfolding standard_gates hidden hidden-the_row-Angle-0
ry_at k n =
    rx_printed (back k) (whole k) (circle (eighths 0)) (circle (eighths 0))
    ∙ ap (λ (m : Square). doubled 1 (alone m).rows) (ry_square_is k n)

crx_at : (k : ℕ) → NumbersAt k → Prints (codes "crx") (eighths (2 * k) ∷ []) (under_control (rx_square k))
unfolding standard_gates hidden hidden-the_row-Angle-0
crx_at k n =
    crx_printed (back k) (whole k) (circle quarter_back) (circle (eighths 2))
    ∙ ap (λ (m : Square). doubled 1 (under_control m).rows) (rx_square_is k n)

cry_at : (k : ℕ) → NumbersAt k → Prints (codes "cry") (eighths (2 * k) ∷ []) (under_control (ry_square k))
unfolding standard_gates hidden hidden-the_row-Angle-0
cry_at k n =
    crx_printed (back k) (whole k) (circle (eighths 0)) (circle (eighths 0))
    ∙ ap (λ (m : Square). doubled 1 (under_control m).rows) (ry_square_is k n)

each : (P Q : ℕ → Type 0) → ((k : ℕ) → P k → Q k) → EachEighth P → EachEighth Q
each P Q f (a, b, c, d, e, g, h, i) = (f 0 a, f 1 b, f 2 c, f 3 d, f 4 e, f 5 g, f 6 h, f 7 i)

pub rx_rotations : EachEighth (λ k. Prints (codes "rx") (eighths (2 * k) ∷ []) (alone (rx_square k)))
rx_rotations = each NumbersAt (λ k. Prints (codes "rx") (eighths (2 * k) ∷ []) (alone (rx_square k))) rx_at numbers

pub ry_rotations : EachEighth (λ k. Prints (codes "ry") (eighths (2 * k) ∷ []) (alone (ry_square k)))
ry_rotations = each NumbersAt (λ k. Prints (codes "ry") (eighths (2 * k) ∷ []) (alone (ry_square k))) ry_at numbers

pub crx_rotations : EachEighth (λ k. Prints (codes "crx") (eighths (2 * k) ∷ []) (under_control (rx_square k)))
crx_rotations = each NumbersAt (λ k. Prints (codes "crx") (eighths (2 * k) ∷ []) (under_control (rx_square k))) crx_at numbers

pub cry_rotations : EachEighth (λ k. Prints (codes "cry") (eighths (2 * k) ∷ []) (under_control (ry_square k)))
cry_rotations = each NumbersAt (λ k. Prints (codes "cry") (eighths (2 * k) ∷ []) (under_control (ry_square k))) cry_at numbers
