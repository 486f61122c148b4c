-- Indexes (OpenQASM 3.0 live specification, "Index sets and slicing" and "Register concatenation and slicing"; Cross et al. 2022). A
-- place i of n may be written i or i − n. A single index may be any whole expression, and is in its range where it is constant as a
-- whole; the start, the step and the end of a range are constant, and both ends belong to it.
use Rattle.std.specs.Prelude.{ℕ, suc, ◌+◌, ◌-◌, ◌*◌, ◌/◌, min, nat_le, ◌&&◌, ℤ, pos, negsuc, Bool, true, false, not, if◌then◌else◌, List, [], ◌∷◌, ◌++◌, length, Option, Some, None, Ok, Err}
use Rattle.qt_const.specs.Indexes.{place_in, step_in, has_places}
use Rattle.qt_const.specs.Value.{or_else}
use Rattle.qt_const_rules.specs.declared.modes.Mode.{Mode}
use Rattle.qt_tree.specs.declared.expression.Expr.{Expr}
use Rattle.qt_tree.specs.declared.expression.Index.{Index}
use Rattle.qt_tree.specs.declared.expression.Range.{Range, out-Range}
use Rattle.qt_tree.specs.declared.place.Place.{Place}
use Rattle.qt_tree.specs.declared.refusal.Cause.TheVariants as cause
use Rattle.qt_tree.specs.declared.refusal.TextRefusal.TheVariants as refusal
use Rattle.qt_typed.specs.declared.expression.TypedExpr.{TypedExpr}
use Rattle.qt_typed.specs.declared.expression.TypedExpr.TheVariants as typed
use Rattle.qt_typed.specs.declared.expression.TypedStep.{TypedStep}
use Rattle.qt_typed.specs.declared.expression.TypedStep.TheVariants as step
use Rattle.qt_typed.specs.declared.expression.TypedVariable.{TypedVariable}
use Rattle.qt_typed.specs.declared.expression.TypedVariable.TheVariants as variable
use Rattle.qt_value.specs.Types.{is_whole, width_of}
use Rattle.qt_value.specs.declared.types.ValueType.{ValueType}
use Rattle.qt_value.specs.declared.types.ValueType.TheVariants as kind
use Rattle.qt_typing.specs.declared.indexes.Bits.{Bits}
use Rattle.qt_typing.specs.declared.indexes.Slice.{Slice}
use Rattle.qt_typing.specs.declared.indexes.Steps.{Steps}
use Rattle.qt_typing.specs.declared.indexes.Storage.{Storage}
use Rattle.qt_typing.specs.declared.names.Names.{Names}
use Rattle.qt_typing.specs.declared.operand.Operand.{Operand}
use Rattle.qt_typing.specs.declared.operand.Operand.TheVariants as operand
use Rattle.qt_typing.specs.Checked.{Checked, and_then, answer_at, unless}
use Rattle.qt_typing.specs.Environment.{number_at}
use Rattle.qt_typing.specs.Sorts.{is_fixed}

-- ---- parts of a tree: what is written, and how it is typed

pub record Part : Type 0 where
  pub written : Expr
  pub typed : Mode → Checked Operand

-- an index: a single place, a range, or a set
pub data Shape : Type 0 where
  Single : Part → Shape
  Bounds : Range → Shape
  Several : Shape

pub record IndexPart : Type 0 where
  pub written : Index
  pub shape : Shape

-- all indexes behind a name, whatever brackets they stand in
abbrev pub all_indexes : {A : Type 0} → List (List A) → List A
all_indexes [] = []
all_indexes (indexes ∷ rest) = indexes ++ all_indexes rest

-- ---- single indexes

-- a place as a constant
abbrev pub place_form : ℕ → TypedExpr
place_form n = typed.Constant (record { kind = kind.Int 64; bits = n })

-- a whole number, of what has places at all
unfoldable pub whole_index : Place → Bool → Operand → Checked TypedExpr
whole_index place fits (operand.Value kind form) = if is_whole kind && fits then Ok form else Err (refusal.E10 place)
whole_index place fits _ = Err (refusal.E10 place)

-- the place of n that a constant index is written for
unfoldable pub fixed_place : Names → Mode → Place → ℕ → Expr → Checked ℕ
fixed_place names m place n written = and_then (number_at names m place written) (λ i. answer_at place (place_in n i))

-- an index that is typed is in its range where it is constant as a whole
unfoldable pub placed_index : Names → Mode → Place → Bool → ℕ → Expr → Operand → Checked TypedExpr
placed_index names m place fits n written x =
    and_then (whole_index place fits x) (λ form.
    if is_fixed names written
    then and_then (fixed_place names m place n written) (λ i. Ok (place_form i))
    else Ok form)

-- ---- ranges

-- the places from the start up to and with the end
unfoldable pub places_between : Place → ℕ → ℕ → ℕ → Checked Slice
places_between place start step end =
    if nat_le start end
    then Ok (record { start = start; step = step; count = suc ((end - start) / step) })
    else Err (refusal.E12 place cause.Range)

-- those of n places, of which the first, the step 1 and the last are meant where nothing is written
unfoldable pub places_of_range : Place → ℕ → Option ℤ → Option ℤ → Option ℤ → Checked Slice
places_of_range place n start step end =
    and_then (answer_at place (place_in n (or_else start (pos 0)))) (λ first.
    and_then (answer_at place (step_in (or_else step (pos 1)))) (λ by.
    and_then (answer_at place (place_in n (or_else end (negsuc 0)))) (places_between place first by)))

unfoldable pub optional_number : Names → Mode → Place → Option Expr → Checked (Option ℤ)
optional_number names m place None = Ok None
optional_number names m place (Some expr) = and_then (number_at names m place expr) (λ z. Ok (Some z))

-- the bounds of a range on what has places, where it may have a range
unfoldable pub range_places : Names → Mode → Place → Bool → ℕ → Range → Checked Slice
range_places names m place fits n range =
    and_then (optional_number names m place (out-Range range).start) (λ start.
    and_then (optional_number names m place (out-Range range).step) (λ step.
    and_then (optional_number names m place (out-Range range).end) (λ end.
    and_then (unless (not fits) (refusal.E10 place)) (λ _. places_of_range place n start step end))))

-- ---- bits of a value

abbrev pub is_bits : ValueType → Bool
is_bits (kind.Bit n) = true
is_bits _ = false

-- a step of more than 64 places goes to one place alone, as one of 64 does
abbrev pub slice_step : Slice → Bits
slice_step s = record { step = step.Slice s.start (min s.step 64) s.count; kind = kind.Bit s.count }

-- the bit at an index that is typed
unfoldable pub bit_at : Names → Mode → Place → ValueType → Expr → Operand → Checked Bits
bit_at names m place of written x =
    and_then (placed_index names m place (has_places of) (width_of of) written x) (λ i. Ok (record { step = step.At i; kind = kind.Bit 1 }))

unfoldable pub slice_at : Names → Mode → Place → ValueType → Range → Checked Bits
slice_at names m place of range =
    and_then (range_places names m place (is_bits of) (width_of of) range) (λ s. Ok (slice_step s))

-- an index is typed first
unfoldable pub bits_at : Names → Mode → Place → ValueType → Shape → Checked Bits
bits_at names m place of (Single part) = and_then (part.typed m) (bit_at names m place of part.written)
bits_at names m place of (Bounds range) = slice_at names m place of range
bits_at names m place of Several = Err (refusal.E10 place)

-- each index applies to the value that is left
unfoldable pub steps_from : Names → Mode → Place → List TypedStep → ValueType → List IndexPart → Checked Steps
steps_from names m place done of [] = Ok (record { steps = done; kind = of })
steps_from names m place done of (index ∷ rest) =
    and_then (bits_at names m place of index.shape) (λ b. steps_from names m place (done ++ b.step ∷ []) b.kind rest)

-- ---- variables

-- a variable or an element of an array, and the indexes that are left
pub record Reached : Type 0 where
  pub variable : TypedVariable
  pub rest : List IndexPart

abbrev pub dimension_index : Names → Mode → Place → ℕ → Shape → Checked TypedExpr
dimension_index names m place n (Single part) = and_then (part.typed m) (placed_index names m place true n part.written)
dimension_index names m place n _ = Err (refusal.E10 place)

-- an index for each dimension that is left
unfoldable pub element_from : Names → Mode → Place → Storage → List TypedExpr → List ℕ → List IndexPart → Checked Reached
element_from names m place it done (n ∷ lengths) (index ∷ rest) =
    and_then (dimension_index names m place n index.shape) (λ form. element_from names m place it (done ++ form ∷ []) lengths rest)
element_from names m place it done _ rest = Ok (record { variable = variable.Element it.kind it.slot it.lengths done; rest = rest })

-- the first indexes are those of the array
unfoldable pub reached : Names → Mode → Place → Storage → List ℕ → List IndexPart → Checked Reached
reached names m place it [] indexes = Ok (record { variable = variable.Slot it.kind it.slot; rest = indexes })
reached names m place it (n ∷ lengths) indexes =
    if nat_le (length (n ∷ lengths)) (length indexes)
    then element_from names m place it [] (n ∷ lengths) indexes
    else Err (refusal.E10 place)
