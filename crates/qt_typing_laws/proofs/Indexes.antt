-- Indexes that are typed fit what they are of.
use Rattle.std.proofs.Common.{◌≡◌, ℕ, ◌+◌, ◌*◌, ◌<◌, ◌≤◌, Bool, true, ◌&&◌, nat_le, min, IsTrue, List, [], ◌∷◌, ◌++◌, length, Option, refl, sym, ap, subst, ◌∙◌, arith, append-nil, append_assoc}
use Rattle.std.specs.Prelude.{ℤ, pos, negsuc}
use Rattle.std.proofs.Math.Nat.{mul-le-mul_left}
use Rattle.std.proofs.lemmas.Bool.{leb-true}
use Rattle.qt_ring.proofs.RingLaws.{and_left}
use Rattle.qt_tree.specs.declared.expression.Expr.{Expr}
use Rattle.qt_tree.specs.declared.expression.Range.{Range, out-Range}
use Rattle.qt_tree.specs.declared.place.Place.{Place}
use Rattle.qt_value.specs.Types.{has_size, is_whole, width_of}
use Rattle.qt_value.specs.declared.types.ValueType.{ValueType}
use Rattle.qt_value.specs.declared.types.ValueType.TheVariants as kind
use Rattle.qt_const.specs.Indexes.{has_places, place_in, step_in}
use Rattle.qt_const.specs.Value.{or_else}
use Rattle.qt_const_rules.specs.declared.modes.Mode.{Mode}
use Rattle.qt_typed.specs.Types.{type_of}
use Rattle.qt_typed.specs.declared.expression.TypedExpr.{TypedExpr}
use Rattle.qt_typed.specs.declared.expression.TypedExpr.TheVariants as typed
use Rattle.qt_typed.specs.declared.expression.TypedStep.{TypedStep}
use Rattle.qt_typed.specs.declared.expression.TypedStep.TheVariants as step
use Rattle.qt_typed.specs.declared.expression.TypedVariable.{TypedVariable}
use Rattle.qt_typed.specs.declared.expression.TypedVariable.TheVariants as variable
use Rattle.qt_flat_expressions.specs.Fits.{ArrayFits, ExpressionFits, SliceFits}
use Rattle.qt_flat_expressions.proofs.Sized.{narrow, type_sized}
use Rattle.qt_flat_expressions.proofs.Slices.{register_sized}
use Rattle.qt_typing.specs.declared.indexes.Bits.{Bits}
use Rattle.qt_typing.specs.declared.indexes.Slice.{Slice}
use Rattle.qt_typing.specs.declared.indexes.Steps.{Steps}
use Rattle.qt_typing.specs.declared.indexes.Storage.{Storage}
use Rattle.qt_typing.specs.declared.names.Names.{Names}
use Rattle.qt_typing.specs.declared.operand.Operand.{Operand}
use Rattle.qt_typing.specs.declared.operand.Operand.TheVariants as operand
use Rattle.qt_typing.specs.Checked.{answer_at}
use Rattle.qt_typing.specs.Expressions.{kind_of, read, stepped}
use Rattle.qt_typing.specs.Indexes.{Part, Shape, Single, Bounds, Several, IndexPart, Reached, bit_at, bits_at, dimension_index, element_from, fixed_place, is_bits, optional_number, placed_index, places_between, places_of_range, range_places, reached, slice_at, slice_step, steps_from, whole_index}
use Rattle.qt_typing.specs.Sorts.{is_fixed}
use Rattle.qt_typing_laws.specs.Fits.{OperandFits, RoomFits, StorageFits}
use Rattle.qt_typing_laws.proofs.Holding.{Holds, ok_holds, err_holds, any_holds, then_holds, answer_holds, if_holds}
use Rattle.qt_typing_laws.proofs.Sizes.{IsSized, all_between, few_between, place_below}
use Rattle.qt_typing_laws.proofs.Views.{ValueFits, IndexFormFits, ListFits, bit_fits, element_fits, list_more, slice_fits}

-- ---- ranges

-- places of so many: some, not more than there are, each one of them
pub record PlacesFit (n : ℕ) (s : Slice) : Type 0 where
  pub some : 0 < s.count
  pub few : s.count ≤ n
  pub each : (i : ℕ) → i < s.count → s.start + i * s.step < n

between_fit : (place : Place) (n start by end : ℕ) → end < n → Holds (PlacesFit n) (places_between place start by end)
unfolding places_between
between_fit place n start by end l =
    if_holds (nat_le start end)
    (λ e. let from = leb-true start end e in
    ok_holds (record {
      some = omega arith;
      few = few_between start by end n from l;
      each = λ i h. all_between start by end n i from l h;
    }))
    (λ _. err_holds)

range_fits : (place : Place) (n : ℕ) (start by end : Option ℤ) → Holds (PlacesFit n) (places_of_range place n start by end)
unfolding places_of_range
range_fits place n start by end =
    then_holds {r = answer_at place (place_in n (or_else start (pos 0)))} any_holds (λ first _.
    then_holds {r = answer_at place (step_in (or_else by (pos 1)))} any_holds (λ s _.
    then_holds (answer_holds place (place_below n (or_else end (negsuc 0)))) (λ last l. between_fit place n first s last l)))

pub places_fit : (names : Names) (m : Mode) (place : Place) (fits : Bool) (n : ℕ) (range : Range)
    → Holds (PlacesFit n) (range_places names m place fits n range)
unfolding range_places
places_fit names m place fits n range =
    then_holds {r = optional_number names m place (out-Range range).start} any_holds (λ start _.
    then_holds {r = optional_number names m place (out-Range range).step} any_holds (λ by _.
    then_holds {r = optional_number names m place (out-Range range).end} any_holds (λ end _.
    then_holds any_holds (λ _ _. range_fits place n start by end))))

-- ---- steps to bits of a value

-- from a value of a type to one of another
abbrev pub StepFits : ℕ → ValueType → TypedStep → ValueType → Type 0
StepFits slots of (step.At index) k = ExpressionFits slots index × (k ≡ kind.Bit 1)
StepFits slots of (step.Slice start by count) k = SliceFits (width_of of) start by count × (k ≡ kind.Bit count)

pub data StepsFit (slots : ℕ) : ValueType → List TypedStep → ValueType → Type 0 where
  NoStep : (of : ValueType) → StepsFit slots of [] of
  OneStep : (of mid k : ValueType) (s : TypedStep) (rest : List TypedStep) → StepFits slots of s mid → StepsFit slots mid rest k
      → StepsFit slots of (s ∷ rest) k

steps_more : (slots : ℕ) (of mid k : ValueType) (done : List TypedStep) (s : TypedStep) → StepsFit slots of done mid
    → StepFits slots mid s k → StepsFit slots of (done ++ s ∷ []) k
steps_more slots of mid k [] s (NoStep same) g = OneStep of k k s [] g (NoStep k)
steps_more slots of mid k (d ∷ done) s (OneStep same next last first rest h l) g =
    OneStep of next k d (done ++ s ∷ []) h (steps_more slots next mid k done s l g)

pub stepped_fits : (slots : ℕ) (of k : ValueType) (steps : List TypedStep) (form : TypedExpr) → ValueFits slots of form
    → StepsFit slots of steps k → ValueFits slots k (stepped form steps)
stepped_fits slots of k [] form h (NoStep same) = h
stepped_fits slots of k (step.At index ∷ rest) form h (OneStep same mid last s tail g l) =
    stepped_fits slots mid k rest _ (subst (λ t. ValueFits slots t (typed.Bit form index)) (sym g.1) (bit_fits slots form index h.0 g.0)) l
stepped_fits slots of k (step.Slice start by count ∷ rest) form h (OneStep same mid last s tail g l) =
    stepped_fits slots mid k rest _ (subst (λ t. ValueFits slots t (typed.Slice form start by count)) (sym g.1)
    (slice_fits slots of form start by count h g.0)) l

module _ (slots : ℕ) where
  -- ---- parts

  abbrev pub PartFits : Part → Type 0
  PartFits part = (m : Mode) → Holds (OperandFits slots) (part.typed m)

  abbrev pub ShapeFits : Shape → Type 0
  ShapeFits (Single part) = PartFits part
  ShapeFits (Bounds range) = Unit {0}
  ShapeFits Several = Unit {0}

  abbrev pub ShapesFit : List IndexPart → Type 0
  ShapesFit [] = Unit {0}
  ShapesFit (index ∷ rest) = ShapeFits index.shape × ShapesFit rest

  module _ (names : Names) (m : Mode) (place : Place) where
    pub whole_fits : (fits : Bool) (x : Operand) → OperandFits slots x → Holds (IndexFormFits slots) (whole_index place fits x)
    unfolding whole_index
    whole_fits fits (operand.Value k form) h =
        if_holds (is_whole k && fits)
        (λ e. ok_holds (
          h.0,
          subst (λ t. IsTrue (is_whole t && has_size (type_of form))) (sym h.1)
              (ap (λ t. t && has_size (type_of form)) (and_left (is_whole k) fits e) ∙ type_sized slots form h.0),
        ))
        (λ _. err_holds)
    whole_fits fits (operand.Phase form) h = err_holds

    pub placed_fits : (fits : Bool) (n : ℕ) (written : Expr) (x : Operand) → OperandFits slots x
        → Holds (IndexFormFits slots) (placed_index names m place fits n written x)
    unfolding placed_index
    placed_fits fits n written x h =
        then_holds (whole_fits fits x h) (λ form g.
        if_holds (is_fixed names written)
        (λ _. then_holds {r = fixed_place names m place n written} any_holds (λ i _. ok_holds (refl, refl)))
        (λ _. ok_holds g))

    -- ---- bits

    abbrev pub BitsFit : ValueType → Bits → Type 0
    BitsFit of b = StepFits slots of b.step b.kind × IsSized b.kind

    sliced : (of : ValueType) (s : Slice) → IsSized of → PlacesFit (width_of of) s → BitsFit of (slice_step s)
    sliced of s h g =
        let width = narrow of h in
        let some = g.some in
        let few = g.few in
        let most : s.count ≤ 64 = omega arith in (
          (
            (
              some,
              most,
              λ i l.
                  let far = g.each i l in
                  let near : i * min s.step 64 ≤ i * s.step = mul-le-mul_left i (omega arith) in
                  omega arith,
            ),
            refl,
          ),
          register_sized s.count some most,
        )

    pub bits_fit : (of : ValueType) (shape : Shape) → IsSized of → ShapeFits shape → Holds (BitsFit of) (bits_at names m place of shape)
    unfolding bits_at bit_at slice_at
    bits_fit of (Single part) h g =
        then_holds (g m) (λ x s.
        then_holds (placed_fits (has_places of) (width_of of) part.written x s) (λ i t. ok_holds ((t.0, refl), refl)))
    bits_fit of (Bounds range) h g =
        then_holds (places_fit names m place (is_bits of) (width_of of) range) (λ s t. ok_holds (sliced of s h t))
    bits_fit of Several h g = err_holds

    pub steps_fit : (first of : ValueType) (done : List TypedStep) (indexes : List IndexPart) → IsSized of → StepsFit slots first done of
        → ShapesFit indexes → Holds (λ (s : Steps). StepsFit slots first s.steps s.kind) (steps_from names m place done of indexes)
    unfolding steps_from
    steps_fit first of done [] h g s = ok_holds g
    steps_fit first of done (index ∷ rest) h g s =
        then_holds (bits_fit of index.shape h s.0) (λ b t.
        steps_fit first b.kind (done ++ b.step ∷ []) rest t.1 (steps_more slots first of b.kind done b.step g t.0) s.1)

    -- ---- variables

    abbrev pub VariableFits : TypedVariable → Type 0
    VariableFits (variable.Slot k slot) = IsSized k × (slot < slots)
    VariableFits (variable.Element k slot lengths indexes) = IsSized k × ArrayFits slots slot lengths × ListFits slots lengths indexes

    pub record ReachedFits (r : Reached) : Type 0 where
      pub variable : VariableFits r.variable
      pub rest : ShapesFit r.rest

    pub variable_read : (v : TypedVariable) → VariableFits v → ValueFits slots (kind_of v) (read v)
    variable_read (variable.Slot k slot) h = (h, refl)
    variable_read (variable.Element k slot lengths indexes) h = element_fits slots k slot lengths indexes h.0 h.1 h.2

    dimension_fits : (n : ℕ) (shape : Shape) → ShapeFits shape → Holds (IndexFormFits slots) (dimension_index names m place n shape)
    dimension_fits n (Single part) h = then_holds (h m) (λ x s. placed_fits true n part.written x s)
    dimension_fits n (Bounds range) h = err_holds
    dimension_fits n Several h = err_holds

    element_reached : (it : Storage) (before : List ℕ) (done : List TypedExpr) (lengths : List ℕ) (indexes : List IndexPart)
        → IsSized it.kind → ArrayFits slots it.slot it.lengths → ListFits slots before done → before ++ lengths ≡ it.lengths
        → length lengths ≤ length indexes → ShapesFit indexes
        → Holds ReachedFits (element_from names m place it done lengths indexes)
    unfolding element_from
    element_reached it before done [] rest h g l e few s =
        ok_holds (record { variable = (h, g, subst (λ t. ListFits slots t done) (sym (append-nil before) ∙ e) l); rest = s })
    element_reached it before done (n ∷ lengths) [] h g l e few s = absurd (omega (arith, few))
    element_reached it before done (n ∷ lengths) (index ∷ rest) h g l e few s =
        then_holds (dimension_fits n index.shape s.0) (λ form t.
        element_reached it (before ++ n ∷ []) (done ++ form ∷ []) lengths rest h g (list_more slots before done n form l t)
        (append_assoc before (n ∷ []) lengths ∙ e) (omega (arith, few)) s.1)

    reached_by : (it : Storage) (lengths : List ℕ) (indexes : List IndexPart) → IsSized it.kind → RoomFits slots it.slot lengths
        → lengths ≡ it.lengths → ShapesFit indexes → Holds ReachedFits (reached names m place it lengths indexes)
    unfolding reached
    reached_by it [] indexes h g e s = ok_holds (record { variable = (h, g); rest = s })
    reached_by it (n ∷ lengths) indexes h g e s =
        if_holds (nat_le (length (n ∷ lengths)) (length indexes))
        (λ few. element_reached it [] [] (n ∷ lengths) indexes h (subst (λ t. ArrayFits slots it.slot t) e g) tt e
        (leb-true (length (n ∷ lengths)) (length indexes) few) s)
        (λ _. err_holds)

    pub reached_fits : (it : Storage) (indexes : List IndexPart) → StorageFits slots it → ShapesFit indexes
        → Holds ReachedFits (reached names m place it it.lengths indexes)
    reached_fits it indexes h s = reached_by it it.lengths indexes h.0 h.1 refl s
