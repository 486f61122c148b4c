-- Each step of an expansion rests on cells before its own, where the arguments stand in cells before the first step.
use Rattle.std.proofs.Common.{◌≡◌, ℕ, zero, suc, ◌+◌, ◌<◌, ◌≤◌, Bool, true, false, List, [], ◌∷◌, ◌++◌, length, refl, sym, ap, subst, ◌∙◌, arith, Some, None}
use Rattle.qt_gate_calls.specs.declared.angle.Angle.{Angle, roll-Angle}
use Rattle.qt_gate_calls.specs.declared.angle.Angle.TheOpen as o
use Rattle.qt_gate_calls.specs.declared.angle.Angle.TheOpen.{Angle-F}
use Rattle.qt_gate_calls.specs.declared.angle.Angle.TheFolds.{fold-roll-Angle, ind-Angle, map-Angle}
use Rattle.qt_gate_calls.specs.Units.{KnownUnits}
use Rattle.qt_instructions.specs.declared.angle.AngleArg.{AngleArg}
use Rattle.qt_instructions.specs.declared.angle.AngleArg.TheVariants as arg
use Rattle.qt_instructions.specs.declared.angle.AngleStep.{AngleStep}
use Rattle.qt_instructions.specs.declared.angle.AngleStep.TheVariants.{Add, Sub, Neg, Times, Over}
use Rattle.qt_primitives.specs.declared.unit.Argument.{Argument}
use Rattle.qt_primitives.specs.declared.unit.Argument.TheVariants.{Fixed, Cell}
use Rattle.qt_modify.specs.declared.unit.Steps.{Steps}
use Rattle.qt_modify.specs.Reckoning.{result_of, none_known, settled, operated, arg_of, argument_at, Reckoned, Reckoner, operated_one, operated_two, reckoned_form, reckoned}
use Rattle.qt_modify.specs.Expansions.{AllReckoned, reckoned_if, all_reckoned}
use Rattle.qt_modify_laws.specs.Running.{IsBelow, AreBelow}

-- ---- arguments of steps

abbrev pub ArgBelow : ℕ → AngleArg → Type 0
ArgBelow n (arg.Units units) = Unit {0}
ArgBelow n (arg.Work cell) = cell < n

abbrev pub StepBelow : ℕ → AngleStep → Type 0
StepBelow n (Add a b) = ArgBelow n a × ArgBelow n b
StepBelow n (Sub a b) = ArgBelow n a × ArgBelow n b
StepBelow n (Neg a) = ArgBelow n a
StepBelow n (Times a k) = ArgBelow n a
StepBelow n (Over a k) = ArgBelow n a

abbrev pub StepsBelow : ℕ → List AngleStep → Type 0
StepsBelow next [] = Unit {0}
StepsBelow next (step ∷ steps) = StepBelow next step × StepsBelow (suc next) steps

abbrev pub next_of : Steps → ℕ
next_of steps = steps.first + length steps.steps

arg_below : (n : ℕ) (a : Argument) → IsBelow n a → ArgBelow n (arg_of a)
arg_below n (Fixed units) b = tt
arg_below n (Cell cell) b = b

one_more : (m n : ℕ) (a : Argument) → m ≤ n → IsBelow m a → IsBelow n a
one_more m n (Fixed units) l b = tt
one_more m n (Cell cell) l b = omega arith

pub below_more : (m n : ℕ) (given : List Argument) → m ≤ n → AreBelow m given → AreBelow n given
below_more m n [] l b = tt
below_more m n (a ∷ rest) l b = (one_more m n a l b.0, below_more m n rest l b.1)

below_at : (n i : ℕ) (given : List Argument) → AreBelow n given → IsBelow n (argument_at i given)
below_at n zero [] b = tt
below_at n (suc i) [] b = tt
below_at n zero (a ∷ rest) b = b.0
below_at n (suc i) (a ∷ rest) b = below_at n i rest b.1

steps_last : (n : ℕ) (steps : List AngleStep) (step : AngleStep) → StepsBelow n steps → StepBelow (n + length steps) step
    → StepsBelow n (steps ++ (step ∷ []))
steps_last n [] step b s = let z : n + 0 ≡ n = omega arith in (subst (λ (m : ℕ). StepBelow m step) z s, tt)
steps_last n (x ∷ xs) step b s =
    let z : n + suc (length xs) ≡ suc n + length xs = omega arith in
    (b.0, steps_last (suc n) xs step b.1 (subst (λ (m : ℕ). StepBelow m step) z s))

length_last : (steps : List AngleStep) (step : AngleStep) → length (steps ++ (step ∷ [])) ≡ suc (length steps)
length_last [] step = refl
length_last (x ∷ xs) step = ap suc (length_last xs step)

-- ---- steps that go on after others

pub record Longer (old new : Steps) : Type 0 where
  pub first : new.first ≡ old.first
  pub longer : length old.steps ≤ length new.steps
  pub fits : StepsBelow new.first new.steps

pub as_long : (steps : Steps) → StepsBelow steps.first steps.steps → Longer steps steps
as_long steps b = record { first = refl; longer = omega arith; fits = b }

pub longer_then : (a b c : Steps) → Longer a b → Longer b c → Longer a c
longer_then a b c l m =
    let x : length a.steps ≤ length b.steps = l.longer in
    let y : length b.steps ≤ length c.steps = m.longer in
    record { first = m.first ∙ l.first; longer = omega arith; fits = m.fits }

pub next_later : (a b : Steps) → Longer a b → next_of a ≤ next_of b
next_later a b l =
    let x : length a.steps ≤ length b.steps = l.longer in
    let y : b.first ≡ a.first = l.first in
    omega arith

pub record Out (steps : Steps) (r : Reckoned) : Type 0 where
  pub after : Longer steps r.steps
  pub angle : IsBelow (next_of r.steps) r.angle

settled_out : (steps : Steps) (step : AngleStep) (k : KnownUnits) → StepsBelow steps.first steps.steps → StepBelow (next_of steps) step
    → Out steps (settled steps step k)
settled_out steps step (Some units) b s = record { after = as_long steps b; angle = tt }
settled_out steps step None b s =
    let n : length (steps.steps ++ (step ∷ [])) ≡ suc (length steps.steps) = length_last steps.steps step in
    record {
      after = record { first = refl; longer = omega arith; fits = steps_last steps.first steps.steps step b s };
      angle = omega arith;
    }

-- ---- angles

pub record Bounded (given : List Argument) (r : Reckoner) : Type 0 where
  pub by : (steps : Steps) → AreBelow (next_of steps) given → StepsBelow steps.first steps.steps → Out steps (r steps)

two_bounded : (given : List Argument) (op : AngleArg → AngleArg → AngleStep)
    → ((n : ℕ) (x y : AngleArg) → ArgBelow n x → ArgBelow n y → StepBelow n (op x y)) → (a b : Reckoner) → Bounded given a → Bounded given b
    → Bounded given (operated_two op a b)
two_bounded given op fits a b p q = record {
  by = λ steps r s.
      let one : Out steps (a steps) = p.by steps r s in
      let two : Out (a steps).steps (b (a steps).steps) =
      q.by (a steps).steps (below_more _ _ given (next_later _ _ one.after) r) one.after.fits in
      let step : AngleStep = op (arg_of (a steps).angle) (arg_of (b (a steps).steps).angle) in
      let left : IsBelow (next_of (b (a steps).steps).steps) (a steps).angle =
      one_more _ _ (a steps).angle (next_later _ _ two.after) one.angle in
      let last : Out (b (a steps).steps).steps (operated (b (a steps).steps).steps step) =
      settled_out (b (a steps).steps).steps step (result_of none_known step) two.after.fits
      (fits _ (arg_of (a steps).angle) (arg_of (b (a steps).steps).angle) (arg_below _ (a steps).angle left)
      (arg_below _ (b (a steps).steps).angle two.angle)) in
      record {
        after = longer_then _ _ _ one.after (longer_then _ _ _ two.after last.after);
        angle = last.angle;
      };
}

one_bounded : (given : List Argument) (op : AngleArg → AngleStep) → ((n : ℕ) (x : AngleArg) → ArgBelow n x → StepBelow n (op x))
    → (a : Reckoner) → Bounded given a → Bounded given (operated_one op a)
one_bounded given op fits a p = record {
  by = λ steps r s.
      let one : Out steps (a steps) = p.by steps r s in
      let step : AngleStep = op (arg_of (a steps).angle) in
      let last : Out (a steps).steps (operated (a steps).steps step) =
      settled_out (a steps).steps step (result_of none_known step) one.after.fits
      (fits _ (arg_of (a steps).angle) (arg_below _ (a steps).angle one.angle)) in
      record { after = longer_then _ _ _ one.after last.after; angle = last.angle };
}

abbrev Is_bounded : List Argument → Angle → Type 0
Is_bounded given a = Bounded given (reckoned given a)

bounded_layer : (given : List Argument) (layer : Angle-F ((a : Angle) × Is_bounded given a))
    → Bounded given (reckoned_form given (map-Angle Angle Reckoner (reckoned given) (map-Angle _ Angle (λ e. e.0) layer)))
bounded_layer given (o.Units units) = record { by = λ steps r s. record { after = as_long steps s; angle = tt } }
bounded_layer given (o.Parameter j) = record { by = λ steps r s. record { after = as_long steps s; angle = below_at _ j given r } }
bounded_layer given (o.Sum a b) = two_bounded given Add (λ n x y i j. (i, j)) _ _ a.1 b.1
bounded_layer given (o.Difference a b) = two_bounded given Sub (λ n x y i j. (i, j)) _ _ a.1 b.1
bounded_layer given (o.Opposite a) = one_bounded given Neg (λ n x i. i) _ a.1
bounded_layer given (o.Product a k) = one_bounded given (λ x. Times x k) (λ n x i. i) _ a.1
bounded_layer given (o.Quotient a k) = one_bounded given (λ x. Over x k) (λ n x i. i) _ a.1

angle_bounded : (given : List Argument) (a : Angle) → Bounded given (reckoned given a)
angle_bounded given a =
    ind-Angle (Is_bounded given)
    (λ x y e. subst (λ (t : Angle-F Angle). Is_bounded given (roll-Angle t)) e
    (subst (λ (r : Reckoner). Bounded given r) (sym (fold-roll-Angle Reckoner (reckoned_form given) _)) (bounded_layer given y)))
    a

-- ---- arguments

pub record OutAll (steps : Steps) (r : AllReckoned) : Type 0 where
  pub after : Longer steps r.steps
  pub angles : AreBelow (next_of r.steps) r.angles

if_bounded : (want : Bool) (given : List Argument) (a : Angle) (steps : Steps) → AreBelow (next_of steps) given
    → StepsBelow steps.first steps.steps → Out steps (reckoned_if want given a steps)
if_bounded true given a steps r s = (angle_bounded given a).by steps r s
if_bounded false given a steps r s = record { after = as_long steps s; angle = tt }

pub all_bounded : (want : ℕ → Bool) (given : List Argument) (n : ℕ) (angles : List Angle) (steps : Steps) → AreBelow (next_of steps) given
    → StepsBelow steps.first steps.steps → OutAll steps (all_reckoned want given n angles steps)
all_bounded want given n [] steps r s = record { after = as_long steps s; angles = tt }
all_bounded want given n (a ∷ rest) steps r s =
    let one : Out steps (reckoned_if (want n) given a steps) = if_bounded (want n) given a steps r s in
    let mid : Steps = (reckoned_if (want n) given a steps).steps in
    let later : OutAll mid (all_reckoned want given (suc n) rest mid) =
    all_bounded want given (suc n) rest mid (below_more _ _ given (next_later _ _ one.after) r) one.after.fits in
    record {
      after = longer_then _ _ _ one.after later.after;
      angles = (one_more _ _ (reckoned_if (want n) given a steps).angle (next_later _ _ later.after) one.angle, later.angles);
    }
