-- What loops go over (OpenQASM 3.0 live specification, "Classical instructions", looping and branching; Cross et al. 2022). A `for` evaluates
-- its bounds or elements once and keeps them in slots: its variable has the first slot of the loop, and what it keeps stands behind it. A
-- range keeps the next value, the step and the turns left; a set or an array its elements and the number of turns that have begun, its
-- position; a bit register its value and the position.
use Rattle.std.specs.Prelude.{ℕ, zero, suc, ◌+◌, ◌-◌, ◌%◌, ◌^◌, nat_eq, nat_lt, Bool, true, false, not, ℤ, pos, List, [], ◌∷◌, ◌++◌, length, slice_set, Option, Some, None, Result, Ok, Err}
use Rattle.std.specs.Int.{bit_at}
use Rattle.qt_tree.specs.declared.place.Place.{Place}
use Rattle.qt_value.specs.Numbers.{residue}
use Rattle.qt_value.specs.Places.{range_turns}
use Rattle.qt_value.specs.declared.types.ValueType.{ValueType}
use Rattle.qt_value.specs.declared.types.ValueType.TheVariants as kind
use Rattle.qt_typed.specs.declared.call.Span.{Span}
use Rattle.qt_typed.specs.declared.expression.TypedExpr.{TypedExpr}
use Rattle.qt_typed.specs.declared.statement.TypedSequence.{TypedSequence}
use Rattle.qt_typed.specs.declared.statement.TypedSequence.TheVariants as over
use Rattle.qt_typed.specs.declared.statement.TypedLoop.{TypedLoop}
use Rattle.qt_typed.specs.declared.statement.TypedLoop.TheVariants as loop
use Rattle.qt_typed.specs.Types.{type_of}
use Rattle.qt_meaning.specs.Values.{Evaluated, and_then, evaluated, number_of, is_true, converted_to, slot_at, slots_from, whole_at}
use Rattle.qt_meaning.specs.Expressions.{eval, values_of}
use Rattle.qt_meaning.specs.Places.{all_stored}
use Rattle.qt_meaning.specs.Points.{Point, On, Broken, Continued, Dry, Signal, Leaf, Run, leaf, go, choose, then_do, with_result, spend, with_store, clear}
use Rattle.std.specs.List.{flat_map}

-- ---- the beginning

-- the number that an expression stands for
abbrev pub number : TypedExpr → ℕ → List ℕ → Evaluated ℤ
number e base store = and_then (eval e base store) (λ bits. Ok (number_of (type_of e) bits))

-- a step that isn't written is 1
abbrev pub step : Option TypedExpr → ℕ → List ℕ → Evaluated ℤ
step None base store = Ok (pos 1)
step (Some e) base store = number e base store

-- what a range keeps: numbers stand modulo 2^64
abbrev pub range_kept : ℤ → ℤ → ℤ → Evaluated (List ℕ)
range_kept first by last = and_then (evaluated (range_turns first by last)) (λ turns. Ok (residue 64 first ∷ residue 64 by ∷ turns ∷ []))

abbrev pub kept : TypedSequence → ℕ → List ℕ → Evaluated (List ℕ)
kept (over.Range first by last) base store =
    and_then (number first base store) (λ a. and_then (step by base store) (λ b. and_then (number last base store) (range_kept a b)))
kept (over.Set members) base store = and_then (values_of members base store) (λ xs. Ok (xs ++ (0 ∷ [])))
kept (over.Array of slot length) base store = Ok (slots_from store (base + slot) length ++ (0 ∷ []))
kept (over.Bits width value) base store = and_then (eval value base store) (λ x. Ok (x ∷ 0 ∷ []))

-- ---- a turn; x is the slot of the variable

abbrev pub has_turn : TypedSequence → ℕ → List ℕ → Bool
has_turn (over.Range first by last) x store = not (nat_eq (whole_at store (x + 3)) 0)
has_turn (over.Set members) x store = nat_lt (whole_at store (x + 1 + length members)) (length members)
has_turn (over.Array of slot length) x store = nat_lt (whole_at store (x + 1 + length)) length
has_turn (over.Bits width value) x store = nat_lt (whole_at store (x + 2)) width

-- the type of the member at a position
abbrev pub member_type : List TypedExpr → ℕ → ValueType
member_type [] n = kind.Bool
member_type (e ∷ es) zero = type_of e
member_type (e ∷ es) (suc n) = member_type es n

-- the variable gets a value of a type
abbrev pub set_to : ValueType → ValueType → ℕ → ℕ → List ℕ → List ℕ
set_to to from bits x store = slice_set store x (converted_to to from bits)

-- one more turn has begun
abbrev pub counted : ℕ → List ℕ → List ℕ
counted position store = slice_set store position (whole_at store position + 1)

-- the turn at a position of elements that stand behind the variable
abbrev pub element_turn : ValueType → ValueType → ℕ → ℕ → ℕ → List ℕ → List ℕ
element_turn to from n position x store = counted position (set_to to from (slot_at store (x + 1 + n)) x store)

-- one turn less is left; the variable gets the next value, and the value after it is the next one
abbrev pub range_turn : ValueType → ℕ → List ℕ → List ℕ
range_turn to x store =
    let one_less = slice_set store (x + 3) (whole_at store (x + 3) - 1) in
    let begun = set_to to (kind.Uint 64) (whole_at one_less (x + 1)) x one_less in
    slice_set begun (x + 1) ((whole_at begun (x + 1) + whole_at begun (x + 2)) % 2 ^ 64)

-- what a turn does before its body
abbrev pub turn : TypedSequence → ValueType → ℕ → List ℕ → List ℕ
turn (over.Range first by last) to x store = range_turn to x store
turn (over.Set members) to x store =
    let n = whole_at store (x + 1 + length members) in element_turn to (member_type members n) n (x + 1 + length members) x store
turn (over.Array of slot length) to x store =
    let n = whole_at store (x + 1 + length) in element_turn to of n (x + 1 + length) x store
turn (over.Bits width value) to x store =
    let n = whole_at store (x + 2) in counted (x + 2) (set_to to (kind.Bit 1) (bit_at (slot_at store (x + 1)) n) x store)

-- ---- loops

abbrev pub begin : TypedLoop → ℕ → ℕ → Place → Run
begin (loop.While condition) x base place p = leaf On p
begin (loop.For to values) x base place p =
    with_result (kept values base p.store) place (λ bits. go (with_store (all_stored (x + 1) bits))) p

-- whether a turn follows
abbrev pub goes_on : TypedLoop → ℕ → ℕ → List ℕ → Evaluated Bool
goes_on (loop.While condition) x base store = and_then (eval condition base store) (λ v. Ok (is_true v))
goes_on (loop.For to values) x base store = Ok (has_turn values x store)

abbrev pub advanced : TypedLoop → ℕ → Point → Point
advanced (loop.While condition) x p = p
advanced (loop.For to values) x p = with_store (turn values to x) p

-- what follows a leaf of a turn's body: the slots of the body become 0 before the next turn, those of the whole loop at its end
abbrev pub after_turn : Run → (Point → Point) → (Point → Point) → Signal → Run
after_turn next body_end loop_end On p = next (body_end p)
after_turn next body_end loop_end Continued p = next (body_end p)
after_turn next body_end loop_end Broken p = leaf On (loop_end (body_end p))
after_turn next body_end loop_end s p = leaf s p

-- at most n turns, each of which spends a unit: n is the fuel at the beginning
abbrev pub turns : ℕ → (List ℕ → Evaluated Bool) → Place → (Point → Point) → (Point → Point) → Run → Run
turns zero more place body_end loop_end body p = with_result (more p.store) place (λ b. choose b (leaf Dry) (go loop_end)) p
turns (suc n) more place body_end loop_end body p =
    with_result (more p.store) place (λ b. choose b
    (spend (λ q. flat_map (λ l. after_turn (turns n more place body_end loop_end body) body_end loop_end l.signal l.point) (body q)))
    (go loop_end)) p
