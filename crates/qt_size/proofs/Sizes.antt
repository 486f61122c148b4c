-- Sizes that stop: a stop inside a sum or a product isn't seen outside, and the size of a program follows from the stopped sizes of its
-- subroutines.
use Rattle.std.proofs.Common.{◌≡◌, ℕ, zero, suc, ◌+◌, ◌*◌, ◌<◌, ◌≤◌, List, [], ◌∷◌, ◌++◌, length, take, get_or, Option, Some, None, refl, sym, ap, subst, ◌∙◌, arith, inl, inr, ◌⊎◌, length-take}
use Rattle.std.proofs.lemmas.Bool.{cases_lt}
use Rattle.std.proofs.lemmas.List.{take_more}
use Rattle.std.proofs.lemmas.Option.{unwrap_or-slice_get}
use Rattle.std.specs.Prelude.{slice_get, unwrap_or}
use Rattle.qt_gate_calls.specs.Numbered.{if_number}
use Rattle.qt_gate_calls.specs.Stopped.{stopped}
use Rattle.qt_typed.specs.declared.program.TypedSubroutine.{TypedSubroutine}
use Rattle.qt_typed.specs.declared.statement.TypedRight.{TypedRight}
use Rattle.qt_typed.specs.declared.statement.TypedRight.TheVariants as right
use Rattle.qt_typed.specs.declared.statement.TypedAction.{TypedAction}
use Rattle.qt_typed.specs.declared.statement.TypedAction.TheVariants as action
use Rattle.qt_typed.specs.declared.statement.TypedStatement.{TypedStatement, Row_of-TypedStatement, end_of-TypedStatement, more_of-TypedStatement}
use Rattle.qt_typed.specs.declared.statement.TypedStatement.TheVariants.{Simple, If', Loop'}
use Rattle.qt_typed.specs.Choices.{Counts}
use Rattle.qt_typed.specs.Size.{right_size, optional_size, action_size, size, row_size, list_size, sizes_from}
use Rattle.qt_size.specs.Known.{sizes_in, AreKnown}

-- ---- sums and products

pub size_known : (known : List ℕ) (i : ℕ) → unwrap_or (slice_get known i) 0 ≡ sizes_in known i
size_known known i = unwrap_or-slice_get known i 0

within : (n : ℕ) → n ≤ 4294967295 → stopped n ≡ n
within n h = omega arith

beyond : (n : ℕ) → 4294967295 ≤ n → stopped n ≡ 4294967295
beyond n h = omega arith

twice_stopped : (n : ℕ) → stopped (stopped n) ≡ stopped n
twice_stopped n = omega arith

nothing : (n : ℕ) → 0 * n ≡ 0
nothing n = omega arith

at_least : (k n : ℕ) → 4294967295 ≤ n → 4294967295 ≤ suc k * n
at_least k n h = omega arith

pub product_stopped : (k n : ℕ) → stopped (k * stopped n) ≡ stopped (k * n)
product_stopped zero n = ap stopped (nothing (stopped n) ∙ sym (nothing n))
product_stopped (suc k) n = by_size (cases_lt n 4294967295)
  where
    by_size : (n < 4294967295) ⊎ (4294967295 ≤ n) → stopped (suc k * stopped n) ≡ stopped (suc k * n)
    by_size (inl h) = ap (λ m. stopped (suc k * m)) (within n (omega arith))
    by_size (inr h) =
        ap (λ m. stopped (suc k * m)) (beyond n h)
        ∙ beyond (suc k * 4294967295) (at_least k 4294967295 (omega arith))
        ∙ sym (beyond (suc k * n) (at_least k n h))

pub sums_stop : (a b : ℕ) → stopped (stopped a + stopped b) ≡ stopped (a + b)
sums_stop a b = omega arith

pub stops_behind : (a b : ℕ) → stopped (a + stopped b) ≡ stopped (a + b)
stops_behind a b = omega arith

pub one_counted : (n a b : ℕ) → stopped (stopped (n + stopped a) + b) ≡ stopped (n + (a + b))
one_counted n a b = omega arith

pub all_counted : (n : ℕ) → n ≤ 4294967295 → stopped (n + 0) ≡ n
all_counted n h = omega arith

sum_stopped : (a b c d : ℕ) → stopped a ≡ stopped c → stopped b ≡ stopped d → stopped (a + b) ≡ stopped (c + d)
sum_stopped a b c d e f = omega arith

-- ---- statements, by sizes of subroutines that stop

-- the sizes that are known are those of the subroutines, but for the stop
abbrev Stop : Counts → Counts → Type 0
Stop y z = (i : ℕ) → y i ≡ stopped (z i)

module _ (y z : Counts) (h : Stop y z) where
  called : (i : ℕ) → stopped (y i) ≡ stopped (z i)
  called i = ap stopped (h i) ∙ twice_stopped (z i)

  right_meets : (r : TypedRight) → stopped (right_size y r) ≡ stopped (right_size z r)
  right_meets (right.Value value) = refl
  right_meets (right.Measure qubits) = refl
  right_meets (right.Call call result to) = called call.subroutine

  optional_meets : (r : Option TypedRight) → stopped (optional_size y r) ≡ stopped (optional_size z r)
  optional_meets None = refl
  optional_meets (Some value) = right_meets value

  action_meets : (a : TypedAction) → stopped (action_size y a) ≡ stopped (action_size z a)
  action_meets (action.Declare kind slot value) = optional_meets value
  action_meets (action.Assign target value) = right_meets value
  action_meets (action.Gate call) = refl
  action_meets (action.Broadcast call) = refl
  action_meets (action.Call call) = called call.subroutine
  action_meets (action.Return value) = optional_meets value
  action_meets _ = refl

  mutual
    size_meets : (s : TypedStatement) → stopped (size y s) ≡ stopped (size z s)
    size_meets (Simple at action) = sum_stopped at.tokens (action_size y action) at.tokens (action_size z action) refl (action_meets action)
    size_meets (If' at condition k body body_slots m otherwise otherwise_slots) =
        sum_stopped at.tokens (row_size y body + row_size y otherwise) at.tokens (row_size z body + row_size z otherwise) refl
        (sum_stopped (row_size y body) (row_size y otherwise) (row_size z body) (row_size z otherwise) (row_meets body)
        (row_meets otherwise))
    size_meets (Loop' at over loop_slots k body body_slots) =
        sum_stopped at.tokens (row_size y body) at.tokens (row_size z body) refl (row_meets body)

    row_meets : {m : _} (row : Row_of-TypedStatement m) → stopped (row_size y row) ≡ stopped (row_size z row)
    row_meets end_of-TypedStatement = refl
    row_meets (more_of-TypedStatement s rest) =
        sum_stopped (size y s) (row_size y rest) (size z s) (row_size z rest) (size_meets s) (row_meets rest)

  list_meets : (ss : List TypedStatement) → stopped (list_size y ss) ≡ stopped (list_size z ss)
  list_meets [] = refl
  list_meets (s ∷ ss) = sum_stopped (size y s) (list_size y ss) (size z s) (list_size z ss) (size_meets s) (list_meets ss)

-- where no statement is left
pub counted : (z : Counts) (size : ℕ) (left : List TypedStatement) (whole : ℕ) → length left < 1 → size ≤ 4294967295
    → stopped (size + list_size z left) ≡ stopped whole → size ≡ stopped whole
counted z size [] whole few small is = sym (all_counted size small) ∙ is
counted z size (s ∷ left) whole few small is = absurd (omega (arith, few))

-- ---- subroutines by number, with one more behind them

-- one more number behind a list
one_behind : (known : List ℕ) (x i : ℕ) → get_or (known ++ x ∷ []) i 0 ≡ if_number (length known) i x (get_or known i 0)
one_behind [] x zero = refl
one_behind [] x (suc i) = refl
one_behind (y ∷ known) x zero = refl
one_behind (y ∷ known) x (suc i) = one_behind known x i

number_stops : (n i a b : ℕ) → if_number n i (stopped a) (stopped b) ≡ stopped (if_number n i a b)
number_stops zero zero a b = refl
number_stops zero (suc i) a b = refl
number_stops (suc n) zero a b = refl
number_stops (suc n) (suc i) a b = number_stops n i a b

last_size : (n : ℕ) (subroutines : List TypedSubroutine) (last : TypedSubroutine) (z : Counts) (i : ℕ)
    → sizes_from n (subroutines ++ last ∷ []) z i
    ≡ if_number (n + length subroutines) i (list_size (sizes_from n subroutines z) last.body) (sizes_from n subroutines z i)
last_size n [] last z i =
    let e : n ≡ n + length {A = TypedSubroutine} [] = omega arith in
    ap (λ t. if_number t i (list_size z last.body) (z i)) e
last_size n (s ∷ subroutines) last z i =
    let later = λ (i : ℕ). if_number n i (list_size z s.body) (z i) in
    let e : suc n + length subroutines ≡ n + length (s ∷ subroutines) = omega arith in
    last_size (suc n) subroutines last later i
    ∙ ap (λ t. if_number t i (list_size (sizes_from (suc n) subroutines later) last.body) (sizes_from (suc n) subroutines later i)) e

length_behind : (known : List ℕ) (x : ℕ) → length (known ++ x ∷ []) ≡ length known + 1
length_behind [] x = refl
length_behind (y ∷ known) x =
    let h : length (known ++ x ∷ []) ≡ length known + 1 = length_behind known x in
    omega (arith, h)

pub one_longer : (known new : List ℕ) (x i : ℕ) → new ≡ known ++ x ∷ [] → length known ≡ i → length new ≡ i + 1
one_longer known new x i is l = ap length is ∙ (length_behind known x ∙ ap (λ n. n + 1) l)

pub none_known : (subroutines : List TypedSubroutine) → AreKnown (take 0 subroutines) []
none_known subroutines = λ i. refl

more_known : (subroutines : List TypedSubroutine) (last : TypedSubroutine) (known : List ℕ) (x : ℕ) → length known ≡ length subroutines
    → AreKnown subroutines known → x ≡ stopped (list_size (sizes_in known) last.body)
    → AreKnown (subroutines ++ last ∷ []) (known ++ x ∷ [])
more_known subroutines last known x l are e = λ i.
    let of = sizes_from 0 subroutines (λ i. 0) in
    let counted : x ≡ stopped (list_size of last.body) = e ∙ list_meets (sizes_in known) of are last.body in
    let n : length known ≡ 0 + length subroutines = omega arith in
    one_behind known x i
    ∙ ap (λ t. if_number t i x (get_or known i 0)) n
    ∙ ap (λ t. if_number (0 + length subroutines) i t (get_or known i 0)) counted
    ∙ ap (λ t. if_number (0 + length subroutines) i (stopped (list_size of last.body)) t) (are i)
    ∙ number_stops (0 + length subroutines) i (list_size of last.body) (of i)
    ∙ ap stopped (sym (last_size 0 subroutines last (λ i. 0) i))

pub one_more_known : (subroutines : List TypedSubroutine) (i : ℕ) (subroutine : TypedSubroutine) (known new : List ℕ) (x : ℕ)
    → i < length subroutines → subroutine ≡ get_or subroutines i subroutine → length known ≡ i → AreKnown (take i subroutines) known
    → x ≡ stopped (list_size (sizes_in known) subroutine.body)
    → new ≡ known ++ x ∷ [] → AreKnown (take (i + 1) subroutines) new
one_more_known subroutines i subroutine known new x h b l are e w =
    let t : take (i + 1) subroutines ≡ take i subroutines ++ subroutine ∷ [] =
    take_more subroutines i subroutine h ∙ ap (λ c. take i subroutines ++ c ∷ []) (sym b) in
    let n : length known ≡ length (take i subroutines) = simp length-take (omega arith) in
    subst (λ (y : List TypedSubroutine). AreKnown y new) (sym t)
    (subst (λ (z : List ℕ). AreKnown (take i subroutines ++ subroutine ∷ []) z) (sym w)
    (more_known (take i subroutines) subroutine known x n are e))

-- ---- a program, by the sizes of all its subroutines

pub size_by_known : (subroutines : List TypedSubroutine) (known : List ℕ) (body : List TypedStatement) → AreKnown subroutines known
    → stopped (list_size (sizes_in known) body) ≡ stopped (list_size (sizes_from 0 subroutines (λ i. 0)) body)
size_by_known subroutines known body are = list_meets (sizes_in known) (sizes_from 0 subroutines (λ i. 0)) are body
