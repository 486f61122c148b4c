-- The angle of a program follows from those of the subroutines that are put in.
use Rattle.std.proofs.Common.{◌≡◌, ℕ, zero, suc, ◌+◌, ◌<◌, ◌≤◌, List, [], ◌∷◌, ◌++◌, length, take, get_or, Option, Some, None, refl, sym, ap, subst, ◌∙◌, arith, inl, inr, ◌⊎◌, length-take}
use Rattle.std.specs.Prelude.{Bool, true, false, ◌||◌, slice_get, Result, IfOk}
use Rattle.std.specs.Option.{option_or}
use Rattle.std.proofs.lemmas.Bool.{cases_lt}
use Rattle.std.proofs.lemmas.List.{take_all, take_more, get_or_past, length_push}
use Rattle.qt_gate_calls.specs.Numbered.{if_number}
use Rattle.qt_typed.specs.declared.program.TypedSubroutine.{TypedSubroutine}
use Rattle.qt_typed.specs.declared.statement.TypedRight.{TypedRight}
use Rattle.qt_typed.specs.declared.statement.TypedRight.TheVariants as right
use Rattle.qt_typed.specs.declared.statement.TypedAction.{TypedAction}
use Rattle.qt_typed.specs.declared.statement.TypedAction.TheVariants as action
use Rattle.qt_typed.specs.declared.statement.TypedStatement.{TypedStatement, Row_of-TypedStatement, end_of-TypedStatement, more_of-TypedStatement}
use Rattle.qt_typed.specs.declared.statement.TypedStatement.TheVariants.{Simple, If', Loop'}
use Rattle.qt_modify.specs.Needs.{flag_at, is_number}
use Rattle.qt_fixed_angles.specs.declared.wrong.WrongAngle.{WrongAngle}
use Rattle.qt_fixed_angles.specs.Angles.{Angles, right_angle, optional_angle, action_angle, angle, row_angle, list_angle, no_angles, angles_from}
use Rattle.qt_fixed_angles.specs.Reached.{AreKnown, Covers, angle_in, right_calls, optional_calls, action_calls, calls, row_calls, list_calls}
use Rattle.qt_fixed_angles.proofs.Views.{two_same}
use Rattle.qt_fixed_angles.proofs.Marking.{slice_at}

-- ---- statements, by angles that agree on the subroutines that they call

-- the angles are the same for the numbers that the test has
abbrev Agree : Angles → Angles → (ℕ → Bool) → Type 0
Agree y z of = (i : ℕ) → of i ≡ true → y i ≡ z i

or_left : (a b : Bool) → a ≡ true → a || b ≡ true
or_left true b e = refl
or_left false b e = absurd (cc e)

or_right : (a b : Bool) → b ≡ true → a || b ≡ true
or_right true b e = refl
or_right false b e = e

own_number : (n : ℕ) → is_number n n ≡ true
own_number zero = refl
own_number (suc n) = own_number n

module _ (y z : Angles) where
  right_meets : (r : TypedRight) → Agree y z (right_calls r) → right_angle y r ≡ right_angle z r
  right_meets (right.Value value) h = refl
  right_meets (right.Measure qubits) h = refl
  right_meets (right.Call call result to) h = h call.subroutine (own_number call.subroutine)

  optional_meets : (r : Option TypedRight) → Agree y z (optional_calls r) → optional_angle y r ≡ optional_angle z r
  optional_meets None h = refl
  optional_meets (Some value) h = right_meets value h

  action_meets : (a : TypedAction) → Agree y z (action_calls a) → action_angle y a ≡ action_angle z a
  action_meets (action.Declare kind slot value) h = optional_meets value h
  action_meets (action.Assign target value) h = right_meets value h
  action_meets (action.Gate call) h = refl
  action_meets (action.Broadcast call) h = refl
  action_meets (action.Call call) h = h call.subroutine (own_number call.subroutine)
  action_meets (action.Return value) h = optional_meets value h
  action_meets _ h = refl

  mutual
    angle_meets : (s : TypedStatement) → Agree y z (calls s) → angle y s ≡ angle z s
    angle_meets (Simple at action) h = action_meets action h
    angle_meets (If' at condition k body body_slots m otherwise otherwise_slots) h =
        two_same option_or (row_angle y body) (row_angle y otherwise) (row_angle z body) (row_angle z otherwise)
        (row_meets body (λ i e. h i (or_left (row_calls body i) (row_calls otherwise i) e)))
        (row_meets otherwise (λ i e. h i (or_right (row_calls body i) (row_calls otherwise i) e)))
    angle_meets (Loop' at over loop_slots k body body_slots) h = row_meets body h

    row_meets : {m : _} (row : Row_of-TypedStatement m) → Agree y z (row_calls row) → row_angle y row ≡ row_angle z row
    row_meets end_of-TypedStatement h = refl
    row_meets (more_of-TypedStatement s rest) h =
        two_same option_or (angle y s) (row_angle y rest) (angle z s) (row_angle z rest)
        (angle_meets s (λ i e. h i (or_left (calls s i) (row_calls rest i) e)))
        (row_meets rest (λ i e. h i (or_right (calls s i) (row_calls rest i) e)))

  list_meets : (ss : List TypedStatement) → Agree y z (list_calls ss) → list_angle y ss ≡ list_angle z ss
  list_meets [] h = refl
  list_meets (s ∷ ss) h =
      two_same option_or (angle y s) (list_angle y ss) (angle z s) (list_angle z ss)
      (angle_meets s (λ i e. h i (or_left (calls s i) (list_calls ss i) e)))
      (list_meets ss (λ i e. h i (or_right (calls s i) (list_calls ss i) e)))

-- ---- loops over statements

pub none_left : (z : Angles) (left whole : List TypedStatement) → length left < 1 → list_angle z left ≡ list_angle z whole
    → None ≡ list_angle z whole
none_left z [] whole few same = same
none_left z (s ∷ left) whole few same = absurd (omega (arith, few))

-- ---- subroutines by number

-- one more number behind a list
one_behind : (known : List (Option WrongAngle)) (x : Option WrongAngle) (i : ℕ)
    → angle_in (known ++ x ∷ []) i ≡ if_number (length known) i x (angle_in known i)
one_behind [] x zero = refl
one_behind [] x (suc i) = refl
one_behind (y ∷ known) x zero = refl
one_behind (y ∷ known) x (suc i) = one_behind known x i

last_angle : (n : ℕ) (subroutines : List TypedSubroutine) (last : TypedSubroutine) (z : Angles) (i : ℕ)
    → angles_from n (subroutines ++ last ∷ []) z i
    ≡ if_number (n + length subroutines) i (list_angle (angles_from n subroutines z) last.body) (angles_from n subroutines z i)
last_angle n [] last z i =
    let e : n ≡ n + length {A = TypedSubroutine} [] = omega arith in
    ap (λ t. if_number t i (list_angle z last.body) (z i)) e
last_angle n (s ∷ subroutines) last z i =
    let later = λ (i : ℕ). if_number n i (list_angle z s.body) (z i) in
    let e : suc n + length subroutines ≡ n + length (s ∷ subroutines) = omega arith in
    last_angle (suc n) subroutines last later i
    ∙ ap (λ t. if_number t i (list_angle (angles_from (suc n) subroutines later) last.body) (angles_from (suc n) subroutines later i)) e

-- the same, counted from 0
last_of_all : (subroutines : List TypedSubroutine) (last : TypedSubroutine) (i : ℕ)
    → angles_from 0 (subroutines ++ last ∷ []) no_angles i
    ≡ if_number (length subroutines) i (list_angle (angles_from 0 subroutines no_angles) last.body) (angles_from 0 subroutines no_angles i)
last_of_all subroutines last i =
    let e : 0 + length subroutines ≡ length subroutines = omega arith in
    last_angle 0 subroutines last no_angles i
    ∙ ap (λ t. if_number t i (list_angle (angles_from 0 subroutines no_angles) last.body) (angles_from 0 subroutines no_angles i)) e

later_number : {A : Type 0} (n i : ℕ) (a b : A) → n < i → if_number n i a b ≡ b
later_number zero zero a b h = absurd (omega (arith, h))
later_number zero (suc i) a b h = refl
later_number (suc n) zero a b h = refl
later_number (suc n) (suc i) a b h = later_number n i a b (omega (arith, h))

beyond : (n : ℕ) (subroutines : List TypedSubroutine) (z : Angles) (i : ℕ) → n + length subroutines ≤ i → angles_from n subroutines z i ≡ z i
beyond n [] z i h = refl
beyond n (s ∷ subroutines) z i h =
    beyond (suc n) subroutines (λ i. if_number n i (list_angle z s.body) (z i)) i (omega (arith, h))
    ∙ later_number n i (list_angle z s.body) (z i) (omega (arith, h))

-- the number is that one, or another
is_or_other : (n i : ℕ) → (n ≡ i) ⊎ ((a b : Option WrongAngle) → if_number n i a b ≡ b)
is_or_other zero zero = inl refl
is_or_other zero (suc i) = inr (λ a b. refl)
is_or_other (suc n) zero = inr (λ a b. refl)
is_or_other (suc n) (suc i) = step (is_or_other n i)
  where
    step : (n ≡ i) ⊎ ((a b : Option WrongAngle) → if_number n i a b ≡ b)
        → (suc n ≡ suc i) ⊎ ((a b : Option WrongAngle) → if_number (suc n) (suc i) a b ≡ b)
    step (inl e) = inl (ap suc e)
    step (inr e) = inr e

that_number : (n : ℕ) (a b : Option WrongAngle) → if_number n n a b ≡ a
that_number zero a b = refl
that_number (suc n) a b = that_number n a b

-- the angles that are known are those of the subroutines, for statements that call only those whose flags are set
meets_known : (flags : List Bool) (subroutines : List TypedSubroutine) (known : List (Option WrongAngle)) (ss : List TypedStatement)
    → length known ≡ length subroutines → AreKnown flags subroutines known
    → ((i : ℕ) → i < length subroutines → list_calls ss i ≡ true → flag_at flags i ≡ true)
    → list_angle (angle_in known) ss ≡ list_angle (angles_from 0 subroutines no_angles) ss
meets_known flags subroutines known ss l are marked =
    list_meets (angle_in known) (angles_from 0 subroutines no_angles) ss (λ i e. by_size i e (cases_lt i (length subroutines)))
  where
    by_size : (i : ℕ) → list_calls ss i ≡ true → (i < length subroutines) ⊎ (length subroutines ≤ i)
        → angle_in known i ≡ angles_from 0 subroutines no_angles i
    by_size i e (inl h) = are i (marked i h e)
    by_size i e (inr h) = get_or_past known i None (omega (arith, h, l)) ∙ sym (beyond 0 subroutines no_angles i (omega (arith, h)))

more_known : (flags : List Bool) (subroutines : List TypedSubroutine) (last : TypedSubroutine) (known : List (Option WrongAngle))
    (x : Option WrongAngle) → length known ≡ length subroutines → AreKnown flags subroutines known
    → (flag_at flags (length subroutines) ≡ true → x ≡ list_angle (angles_from 0 subroutines no_angles) last.body)
    → AreKnown flags (subroutines ++ last ∷ []) (known ++ x ∷ [])
more_known flags subroutines last known x l are e = λ i f. by_number i f (is_or_other (length subroutines) i)
  where
    of : Angles
    of = angles_from 0 subroutines no_angles

    by_number : (i : ℕ) → flag_at flags i ≡ true
        → (length subroutines ≡ i) ⊎ ((a b : Option WrongAngle) → if_number (length subroutines) i a b ≡ b)
        → angle_in (known ++ x ∷ []) i ≡ angles_from 0 (subroutines ++ last ∷ []) no_angles i
    by_number i f (inl same) =
        let it : x ≡ list_angle of last.body = e (ap (flag_at flags) same ∙ f) in
        one_behind known x i
        ∙ ap (λ n. if_number n i x (angle_in known i)) (l ∙ same)
        ∙ that_number i x (angle_in known i)
        ∙ it
        ∙ sym (that_number i (list_angle of last.body) (of i))
        ∙ ap (λ n. if_number n i (list_angle of last.body) (of i)) (sym same)
        ∙ sym (last_of_all subroutines last i)
    by_number i f (inr other) =
        one_behind known x i
        ∙ ap (λ n. if_number n i x (angle_in known i)) l
        ∙ other x (angle_in known i)
        ∙ are i f
        ∙ sym (other (list_angle of last.body) (of i))
        ∙ sym (last_of_all subroutines last i)

pub none_known : (flags : List Bool) (subroutines : List TypedSubroutine) → AreKnown flags (take 0 subroutines) []
none_known flags subroutines = λ i f. refl

pub one_more_known : (flags : List Bool) (subroutines : List TypedSubroutine) (body : List TypedStatement) (i : ℕ) (subroutine : TypedSubroutine)
    (known new : List (Option WrongAngle)) (x : Option WrongAngle) → i < length subroutines → subroutine ≡ get_or subroutines i subroutine
    → Covers subroutines body flags → length known ≡ i → AreKnown flags (take i subroutines) known
    → (flag_at flags i ≡ true → x ≡ list_angle (angle_in known) subroutine.body)
    → new ≡ known ++ x ∷ [] → AreKnown flags (take (i + 1) subroutines) new
one_more_known flags subroutines body i subroutine known new x h b covers l are e w =
    let t : take (i + 1) subroutines ≡ take i subroutines ++ subroutine ∷ [] =
    take_more subroutines i subroutine h ∙ ap (λ c. take i subroutines ++ c ∷ []) (sym b) in
    let long : length (take i subroutines) ≡ i = simp length-take (omega arith) in
    let n : length known ≡ length (take i subroutines) = l ∙ sym long in
    subst (λ (y : List TypedSubroutine). AreKnown flags y new) (sym t)
    (subst (λ (z : List (Option WrongAngle)). AreKnown flags (take i subroutines ++ subroutine ∷ []) z) (sym w)
    (more_known flags (take i subroutines) subroutine known x n are
    (λ f.
    let set : flag_at flags i ≡ true = ap (flag_at flags) (sym long) ∙ f in
    e set
    ∙ meets_known flags (take i subroutines) known subroutine.body n are
    (λ j k c. covers.each i subroutine (slice_at subroutines i subroutine h b) set j (omega (arith, k, long)) c))))

pub one_longer : (known new : List (Option WrongAngle)) (x : Option WrongAngle) (i : ℕ) → new ≡ known ++ x ∷ [] → length known ≡ i
    → length new ≡ i + 1
one_longer known new x i is l = ap length is ∙ (length_push known x ∙ ap (λ n. n + 1) l)

-- ---- a program

pub all_known : (flags : List Bool) (subroutines : List TypedSubroutine) (known : List (Option WrongAngle)) (n : ℕ)
    → length subroutines ≤ n → AreKnown flags (take n subroutines) known → AreKnown flags subroutines known
all_known flags subroutines known n h are = subst (λ (t : List TypedSubroutine). AreKnown flags t known) (take_all n subroutines h) are

pub by_known : (flags : List Bool) (subroutines : List TypedSubroutine) (known : List (Option WrongAngle)) (body : List TypedStatement)
    → Covers subroutines body flags → length known ≡ length subroutines → AreKnown flags subroutines known
    → list_angle (angle_in known) body ≡ list_angle (angles_from 0 subroutines no_angles) body
by_known flags subroutines known body covers l are = meets_known flags subroutines known body l are covers.program
