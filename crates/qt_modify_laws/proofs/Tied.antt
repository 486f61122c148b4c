-- Reckoning an angle by steps gives its value, where the cells hold what the steps give.
use Rattle.std.proofs.Common.{◌≡◌, ℕ, zero, suc, ◌+◌, Bool, true, false, ◌||◌, List, [], ◌∷◌, ◌++◌, length, refl, sym, ap, subst, ◌∙◌, arith, Some, None}
use Rattle.std.specs.Prelude.{ℤ}
use denote.Hole.Carrier.{hidden}
use Rattle.qt_gate_calls.specs.declared.angle.Angle.{Angle, roll-Angle}
use Rattle.qt_gate_calls.specs.declared.angle.Angle.TheBlock.{hidden-the_row-Angle-0}
use Rattle.qt_gate_calls.specs.declared.angle.Angle.TheOpen as o
use Rattle.qt_gate_calls.specs.declared.angle.Angle.TheOpen.{Angle-F}
use Rattle.qt_gate_calls.specs.declared.angle.Angle.TheFolds.{fold-roll-Angle, ind-Angle, map-Angle}
use Rattle.qt_gate_calls.specs.declared.angle.Angle.TheVariants as angle
use Rattle.qt_gate_calls.specs.Units.{KnownUnits, of_one, of_two, sum_of, difference_of, negative_of, product_of, quotient_of, nth_known}
use Rattle.qt_gate_calls.specs.Angles.{value}
use Rattle.qt_instructions.specs.declared.angle.AngleArg.{AngleArg}
use Rattle.qt_instructions.specs.declared.angle.AngleArg.TheVariants as arg
use Rattle.qt_instructions.specs.declared.angle.AngleStep.{AngleStep}
use Rattle.qt_instructions.specs.declared.angle.AngleStep.TheVariants.{Add, Sub, Neg, Times, Over}
use Rattle.qt_primitives.specs.declared.unit.Argument.{Argument}
use Rattle.qt_primitives.specs.declared.unit.Argument.TheVariants.{Fixed}
use Rattle.qt_modify.specs.declared.unit.Steps.{Steps}
use Rattle.qt_modify.specs.Reckoning.{Cells, held, result_of, none_known, settled, operated, arg_of, argument_at, Reckoner, operated_one, operated_two, reckoned_form, reckoned}
use Rattle.qt_modify.specs.Needs.{is_number, occurs, occurs_in_form}
use Rattle.qt_modify_laws.specs.Laws.{held_in, Hold, Holds, IsKnown, StepsKnown, AreKnown}

-- ---- the value of an angle at its forms

abbrev value_form : List KnownUnits → Angle-F KnownUnits → KnownUnits
value_form given (o.Units units) = Some units
value_form given (o.Parameter number) = nth_known number given
value_form given (o.Sum a b) = of_two sum_of a b
value_form given (o.Difference a b) = of_two difference_of a b
value_form given (o.Opposite a) = of_one negative_of a
value_form given (o.Product a factor) = of_one (product_of factor) a
value_form given (o.Quotient a divisor) = of_one (quotient_of divisor) a

module _ (given : List KnownUnits) where
  sum_value : (a b : Angle) → value given (angle.Sum a b) ≡ of_two sum_of (value given a) (value given b)
  unfolding hidden hidden-the_row-Angle-0
  sum_value a b = refl

  difference_value : (a b : Angle) → value given (angle.Difference a b) ≡ of_two difference_of (value given a) (value given b)
  unfolding hidden hidden-the_row-Angle-0
  difference_value a b = refl

  opposite_value : (a : Angle) → value given (angle.Opposite a) ≡ of_one negative_of (value given a)
  unfolding hidden hidden-the_row-Angle-0
  opposite_value a = refl

  product_value : (a : Angle) (factor : ℤ) → value given (angle.Product a factor) ≡ of_one (product_of factor) (value given a)
  unfolding hidden hidden-the_row-Angle-0
  product_value a factor = refl

  quotient_value : (a : Angle) (divisor : ℤ) → value given (angle.Quotient a divisor) ≡ of_one (quotient_of divisor) (value given a)
  unfolding hidden hidden-the_row-Angle-0
  quotient_value a divisor = refl

  value_rolls : (x : Angle-F Angle) → value given (roll-Angle x) ≡ value_form given (map-Angle Angle KnownUnits (value given) x)
  value_rolls (o.Units units) = ap (value given) (angle.rolls-Units units)
  value_rolls (o.Parameter number) = ap (value given) (angle.rolls-Parameter number)
  value_rolls (o.Sum a b) = ap (value given) (angle.rolls-Sum a b) ∙ sum_value a b
  value_rolls (o.Difference a b) = ap (value given) (angle.rolls-Difference a b) ∙ difference_value a b
  value_rolls (o.Opposite a) = ap (value given) (angle.rolls-Opposite a) ∙ opposite_value a
  value_rolls (o.Product a factor) = ap (value given) (angle.rolls-Product a factor) ∙ product_value a factor
  value_rolls (o.Quotient a divisor) = ap (value given) (angle.rolls-Quotient a divisor) ∙ quotient_value a divisor

-- ---- numbers

number_itself : (n : ℕ) → is_number n n ≡ true
number_itself zero = refl
number_itself (suc n) = number_itself n

number_found : (n i : ℕ) → is_number n i ≡ true → n ≡ i
number_found zero zero e = refl
number_found zero (suc i) e = absurd (cc)
number_found (suc n) zero e = absurd (cc)
number_found (suc n) (suc i) e = ap suc (number_found n i e)

-- ---- cells

next_first : (next n : ℕ) → suc next + n ≡ next + suc n
next_first next n = omega arith

pub hold_last : (cells : Cells) (next : ℕ) (steps : List AngleStep) (step : AngleStep) → Hold cells next (steps ++ (step ∷ []))
    → Hold cells next steps × (cells (next + length steps) ≡ result_of cells step)
hold_last cells next [] step h =
    let e : next + 0 ≡ next = omega arith in
    (tt, ap cells e ∙ h.0)
hold_last cells next (x ∷ xs) step h =
    let rest : Hold cells (suc next) xs × (cells (suc next + length xs) ≡ result_of cells step) = hold_last cells (suc next) xs step h.1 in
    ((h.0, rest.0), ap cells (sym (next_first next (length xs))) ∙ rest.1)

pub hold_more : (cells : Cells) (next : ℕ) (steps : List AngleStep) (step : AngleStep) → Hold cells next steps
    → cells (next + length steps) ≡ result_of cells step → Hold cells next (steps ++ (step ∷ []))
hold_more cells next [] step h e =
    let z : next ≡ next + 0 = omega arith in
    (ap cells z ∙ e, tt)
hold_more cells next (x ∷ xs) step h e = (h.0, hold_more cells (suc next) xs step h.1 (ap cells (next_first next (length xs)) ∙ e))

pub known_more : (cells : Cells) (next : ℕ) (steps : List AngleStep) (step : AngleStep) → StepsKnown cells next steps
    → IsKnown (cells (next + length steps)) → StepsKnown cells next (steps ++ (step ∷ []))
known_more cells next [] step h k =
    let z : next + 0 ≡ next = omega arith in
    (subst (λ (n : ℕ). IsKnown (cells n)) z k, tt)
known_more cells next (x ∷ xs) step h k = (
  h.0,
  known_more cells (suc next) xs step h.1
      (subst (λ (n : ℕ). IsKnown (cells n)) (sym (next_first next (length xs))) k),
)

-- ---- one operator

no_units : {A : Type 0} (z : ℤ) → None ≡ Some z → A
no_units z e = absurd (cc)

fixed_two : (f : ℤ → ℤ → KnownUnits) (cells : Cells) (a b : AngleArg) (z : ℤ) → of_two f (held none_known a) (held none_known b) ≡ Some z
    → of_two f (held cells a) (held cells b) ≡ Some z
fixed_two f cells (arg.Units x) (arg.Units y) z e = e
fixed_two f cells (arg.Units x) (arg.Work c) z e = no_units z e
fixed_two f cells (arg.Work c) b z e = no_units z e

fixed_one : (f : ℤ → KnownUnits) (cells : Cells) (a : AngleArg) (z : ℤ) → of_one f (held none_known a) ≡ Some z
    → of_one f (held cells a) ≡ Some z
fixed_one f cells (arg.Units x) z e = e
fixed_one f cells (arg.Work c) z e = no_units z e

-- what is fixed has its value whatever the cells hold
fixed_stays : (cells : Cells) (step : AngleStep) (z : ℤ) → result_of none_known step ≡ Some z → result_of cells step ≡ Some z
fixed_stays cells (Add a b) z e = fixed_two sum_of cells a b z e
fixed_stays cells (Sub a b) z e = fixed_two difference_of cells a b z e
fixed_stays cells (Neg a) z e = fixed_one negative_of cells a z e
fixed_stays cells (Times a k) z e = fixed_one (product_of k) cells a z e
fixed_stays cells (Over a k) z e = fixed_one (quotient_of k) cells a z e

settled_means : (cells : Cells) (steps : Steps) (step : AngleStep) (k : KnownUnits) → result_of none_known step ≡ k
    → Holds cells (settled steps step k).steps → (held_in cells (settled steps step k).angle ≡ result_of cells step) × Holds cells steps
settled_means cells steps step (Some z) e h = (sym (fixed_stays cells step z e), h)
settled_means cells steps step None e h = let both : Holds cells steps ×
    (cells (steps.first + length steps.steps) ≡ result_of cells step) = hold_last cells steps.first steps.steps step h in (both.1, both.0)

operated_means : (cells : Cells) (steps : Steps) (step : AngleStep) → Holds cells (operated steps step).steps
    → (held_in cells (operated steps step).angle ≡ result_of cells step) × Holds cells steps
operated_means cells steps step h = settled_means cells steps step (result_of none_known step) refl h

settled_sound : (cells : Cells) (steps : Steps) (step : AngleStep) (k : KnownUnits) → Holds cells (settled steps step k).steps
    → IsKnown (result_of cells step) → AreKnown cells steps → AreKnown cells (settled steps step k).steps
settled_sound cells steps step (Some z) h i s = s
settled_sound cells steps step None h i s = known_more cells steps.first steps.steps step s
    (subst IsKnown (sym (hold_last cells steps.first steps.steps step h).1) i)

settled_none : (steps : Steps) (step : AngleStep) (k : KnownUnits) → result_of none_known step ≡ k → Holds none_known steps
    → Holds none_known (settled steps step k).steps
settled_none steps step (Some z) e h = h
settled_none steps step None e h = hold_more none_known steps.first steps.steps step h (sym e)

-- ---- angles

or_left : (a b : Bool) → a ≡ true → (a || b) ≡ true
or_left a b e = ap (λ t. t || b) e

or_right : (a b : Bool) → b ≡ true → (a || b) ≡ true
or_right true b e = refl
or_right false b e = e

pub or_cases : {P : Type 0} (a b : Bool) → (a || b) ≡ true → (a ≡ true → P) → (b ≡ true → P) → P
or_cases true b e f g = f refl
or_cases false b e f g = g e

of_two_known : (f : ℤ → ℤ → KnownUnits) (a b : KnownUnits) → IsKnown (of_two f a b) → IsKnown a × IsKnown b
of_two_known f None b k = absurd k
of_two_known f (Some x) None k = absurd k
of_two_known f (Some x) (Some y) k = (tt, tt)

of_one_known : (f : ℤ → KnownUnits) (a : KnownUnits) → IsKnown (of_one f a) → IsKnown a
of_one_known f None k = absurd k
of_one_known f (Some x) k = tt

-- a way to reckon, the value that it is to give, and the parameters that it rests on
pub record Tied (cells : Cells) (given : List Argument) (known : List KnownUnits) (r : Reckoner) (v : KnownUnits)
    (rests : ℕ → Bool) : Type 0 where
  pub means : ((i : ℕ) → rests i ≡ true → held_in cells (argument_at i given) ≡ nth_known i known) → (steps : Steps)
      → Holds cells (r steps).steps → (held_in cells (r steps).angle ≡ v) × Holds cells steps
  pub strict : IsKnown v → (i : ℕ) → rests i ≡ true → IsKnown (nth_known i known)
  pub sound : ((i : ℕ) → rests i ≡ true → held_in cells (argument_at i given) ≡ nth_known i known) → (steps : Steps)
      → Holds cells (r steps).steps → IsKnown v → AreKnown cells steps → AreKnown cells (r steps).steps
  pub before : (steps : Steps) → Holds cells (r steps).steps → Holds cells steps
  pub none : (steps : Steps) → Holds none_known steps → Holds none_known (r steps).steps

tied_two : (cells : Cells) (given : List Argument) (known : List KnownUnits) (op : AngleArg → AngleArg → AngleStep)
    (f : ℤ → ℤ → KnownUnits) → ((x y : AngleArg) → result_of cells (op x y) ≡ of_two f (held cells x) (held cells y))
    → (a b : Reckoner) (u v : KnownUnits) (p q : ℕ → Bool) → Tied cells given known a u p → Tied cells given known b v q
    → Tied cells given known (operated_two op a b) (of_two f u v) (λ i. p i || q i)
tied_two cells given known op f gives a b u v p q s t = record {
  means = λ agree steps h.
      let last : (held_in cells (operated_two op a b steps).angle ≡ result_of cells
      (op (arg_of (a steps).angle) (arg_of (b (a steps).steps).angle))) × Holds cells (b (a steps).steps).steps = operated_means cells
      (b (a steps).steps).steps (op (arg_of (a steps).angle) (arg_of (b (a steps).steps).angle)) h in
      let right : (held_in cells (b (a steps).steps).angle ≡ v) × Holds cells (a steps).steps =
      t.means (λ i e. agree i (or_right (p i) (q i) e)) (a steps).steps last.1 in
      let left : (held_in cells (a steps).angle ≡ u) × Holds cells steps = s.means (λ i e. agree i (or_left (p i) (q i) e)) steps right.1 in (
        last.0 ∙ gives (arg_of (a steps).angle) (arg_of (b (a steps).steps).angle) ∙ ap
            (λ x. of_two f x (held_in cells (b (a steps).steps).angle)) left.0 ∙ ap (of_two f u) right.0,
        left.1,
      );
  strict = λ k i e. or_cases (p i) (q i) e (s.strict (of_two_known f u v k).0 i) (t.strict (of_two_known f u v k).1 i);
  sound = λ agree steps h k known_so_far.
      let last : (held_in cells (operated_two op a b steps).angle ≡ result_of cells
      (op (arg_of (a steps).angle) (arg_of (b (a steps).steps).angle))) × Holds cells (b (a steps).steps).steps = operated_means cells
      (b (a steps).steps).steps (op (arg_of (a steps).angle) (arg_of (b (a steps).steps).angle)) h in
      let right : (held_in cells (b (a steps).steps).angle ≡ v) × Holds cells (a steps).steps =
      t.means (λ i e. agree i (or_right (p i) (q i) e)) (a steps).steps last.1 in
      let left : (held_in cells (a steps).angle ≡ u) × Holds cells steps = s.means (λ i e. agree i (or_left (p i) (q i) e)) steps right.1 in
      let after : result_of cells (op (arg_of (a steps).angle) (arg_of (b (a steps).steps).angle)) ≡ of_two f u v =
      gives (arg_of (a steps).angle) (arg_of (b (a steps).steps).angle) ∙ ap
      (λ x. of_two f x (held_in cells (b (a steps).steps).angle)) left.0 ∙ ap (of_two f u) right.0 in
      settled_sound cells (b (a steps).steps).steps (op (arg_of (a steps).angle) (arg_of (b (a steps).steps).angle))
      (result_of none_known (op (arg_of (a steps).angle) (arg_of (b (a steps).steps).angle))) h (subst IsKnown (sym after) k)
      (t.sound (λ i e. agree i (or_right (p i) (q i) e)) (a steps).steps last.1 (of_two_known f u v k).1
      (s.sound (λ i e. agree i (or_left (p i) (q i) e)) steps right.1 (of_two_known f u v k).0 known_so_far));
  before = λ steps h. s.before steps (t.before (a steps).steps
      (operated_means cells (b (a steps).steps).steps (op (arg_of (a steps).angle) (arg_of (b (a steps).steps).angle)) h).1);
  none = λ steps h. settled_none (b (a steps).steps).steps (op (arg_of (a steps).angle) (arg_of (b (a steps).steps).angle))
      (result_of none_known (op (arg_of (a steps).angle) (arg_of (b (a steps).steps).angle))) refl
      (t.none (a steps).steps (s.none steps h));
}

tied_one : (cells : Cells) (given : List Argument) (known : List KnownUnits) (op : AngleArg → AngleStep) (f : ℤ → KnownUnits)
    → ((x : AngleArg) → result_of cells (op x) ≡ of_one f (held cells x)) → (a : Reckoner) (u : KnownUnits) (p : ℕ → Bool)
    → Tied cells given known a u p → Tied cells given known (operated_one op a) (of_one f u) p
tied_one cells given known op f gives a u p s = record {
  means = λ agree steps h.
      let last : (held_in cells (operated_one op a steps).angle ≡ result_of cells (op (arg_of (a steps).angle))) × Holds cells
      (a steps).steps = operated_means cells (a steps).steps (op (arg_of (a steps).angle)) h in
      let left : (held_in cells (a steps).angle ≡ u) × Holds cells steps = s.means agree steps last.1 in
      (last.0 ∙ gives (arg_of (a steps).angle) ∙ ap (of_one f) left.0, left.1);
  strict = λ k i e. s.strict (of_one_known f u k) i e;
  sound = λ agree steps h k known_so_far.
      let last : (held_in cells (operated_one op a steps).angle ≡ result_of cells (op (arg_of (a steps).angle))) × Holds cells
      (a steps).steps = operated_means cells (a steps).steps (op (arg_of (a steps).angle)) h in
      let left : (held_in cells (a steps).angle ≡ u) × Holds cells steps = s.means agree steps last.1 in
      settled_sound cells (a steps).steps (op (arg_of (a steps).angle)) (result_of none_known (op (arg_of (a steps).angle))) h
      (subst IsKnown (sym (gives (arg_of (a steps).angle) ∙ ap (of_one f) left.0)) k)
      (s.sound agree steps last.1 (of_one_known f u k) known_so_far);
  before = λ steps h. s.before steps (operated_means cells (a steps).steps (op (arg_of (a steps).angle)) h).1;
  none = λ steps h. settled_none (a steps).steps (op (arg_of (a steps).angle)) (result_of none_known (op (arg_of (a steps).angle))) refl
      (s.none steps h);
}

tied_units : (cells : Cells) (given : List Argument) (known : List KnownUnits) (z : ℤ)
    → Tied cells given known (λ steps. record { steps = steps; angle = Fixed z }) (Some z) (λ i. false)
tied_units cells given known z = record {
  means = λ agree steps h. (refl, h);
  strict = λ k i e. absurd (cc);
  sound = λ agree steps h k s. s;
  before = λ steps h. h;
  none = λ steps h. h;
}

tied_parameter : (cells : Cells) (given : List Argument) (known : List KnownUnits) (j : ℕ)
    → Tied cells given known (λ steps. record { steps = steps; angle = argument_at j given }) (nth_known j known) (is_number j)
tied_parameter cells given known j = record {
  means = λ agree steps h. (agree j (number_itself j), h);
  strict = λ k i e. subst (λ (n : ℕ). IsKnown (nth_known n known)) (number_found j i e) k;
  sound = λ agree steps h k s. s;
  before = λ steps h. h;
  none = λ steps h. h;
}

-- an angle by what is said of it
abbrev Angle_ties : Cells → List Argument → List KnownUnits → Angle → Type 0
Angle_ties cells given known a = Tied cells given known (reckoned given a) (value known a) (occurs a)

ties_layer : (cells : Cells) (given : List Argument) (known : List KnownUnits)
    (layer : Angle-F ((a : Angle) × Angle_ties cells given known a))
    → Tied cells given known (reckoned_form given (map-Angle Angle Reckoner (reckoned given) (map-Angle _ Angle (λ e. e.0) layer)))
    (value_form known (map-Angle Angle KnownUnits (value known) (map-Angle _ Angle (λ e. e.0) layer)))
    (occurs_in_form (map-Angle Angle (ℕ → Bool) occurs (map-Angle _ Angle (λ e. e.0) layer)))
ties_layer cells given known (o.Units z) = tied_units cells given known z
ties_layer cells given known (o.Parameter j) = tied_parameter cells given known j
ties_layer cells given known (o.Sum a b) = tied_two cells given known Add sum_of (λ x y. refl) _ _ _ _ _ _ a.1 b.1
ties_layer cells given known (o.Difference a b) = tied_two cells given known Sub difference_of (λ x y. refl) _ _ _ _ _ _ a.1 b.1
ties_layer cells given known (o.Opposite a) = tied_one cells given known Neg negative_of (λ x. refl) _ _ _ a.1
ties_layer cells given known (o.Product a k) = tied_one cells given known (λ x. Times x k) (product_of k) (λ x. refl) _ _ _ a.1
ties_layer cells given known (o.Quotient a k) = tied_one cells given known (λ x. Over x k) (quotient_of k) (λ x. refl) _ _ _ a.1

ties_roll : (cells : Cells) (given : List Argument) (known : List KnownUnits) (x : Angle-F Angle)
    → Tied cells given known (reckoned_form given (map-Angle Angle Reckoner (reckoned given) x))
    (value_form known (map-Angle Angle KnownUnits (value known) x)) (occurs_in_form (map-Angle Angle (ℕ → Bool) occurs x))
    → Angle_ties cells given known (roll-Angle x)
ties_roll cells given known x t =
    subst (λ (r : Reckoner). Tied cells given known r (value known (roll-Angle x)) (occurs (roll-Angle x)))
    (sym (fold-roll-Angle Reckoner (reckoned_form given) x))
    (subst (λ (v : KnownUnits). Tied cells given known (reckoned_form given (map-Angle Angle Reckoner (reckoned given) x)) v
    (occurs (roll-Angle x))) (sym (value_rolls known x))
    (subst (λ (q : ℕ → Bool). Tied cells given known (reckoned_form given (map-Angle Angle Reckoner (reckoned given) x))
    (value_form known (map-Angle Angle KnownUnits (value known) x)) q) (sym (fold-roll-Angle (ℕ → Bool) occurs_in_form x)) t))

pub angle_ties : (cells : Cells) (given : List Argument) (known : List KnownUnits) (a : Angle)
    → Tied cells given known (reckoned given a) (value known a) (occurs a)
angle_ties cells given known a =
    ind-Angle (Angle_ties cells given known)
    (λ x y e. subst (λ (t : Angle-F Angle). Angle_ties cells given known (roll-Angle t)) e
    (ties_roll cells given known _ (ties_layer cells given known y)))
    a
