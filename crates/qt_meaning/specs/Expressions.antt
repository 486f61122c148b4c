-- What expressions come to: a value, or the first fault, where parts are evaluated from left to right (OpenQASM 3.0 live specification,
-- "Classical instructions" and "Types and Casting"; Cross et al. 2022). A value is given by its bits; its type is that of the expression.
-- `base` is the first slot of the frame that the expression stands in, and `store` has the values of all slots.
use Rattle.std.specs.Prelude.{ℕ, ◌+◌, ◌-◌, ◌*◌, ◌^◌, Bool, true, false, ℤ, pos, List, [], ◌∷◌, Option, Some, None, Ok}
use Rattle.std.specs.Int.{bit_at}
use Rattle.qt_value.specs.Types.{width_of}
use Rattle.qt_value.specs.declared.types.ValueType.{ValueType}
use Rattle.qt_gate_calls.specs.Units.{sum_of, difference_of, negative_of, product_of, quotient_of}
use Rattle.qt_typed.specs.declared.expression.Logical.{Logical}
use Rattle.qt_typed.specs.declared.expression.Logical.TheVariants as logical
use Rattle.qt_typed.specs.declared.expression.TypedExpr.{TypedExpr, Row_of-TypedExpr, end_of-TypedExpr, more_of-TypedExpr}
use Rattle.qt_typed.specs.declared.expression.TypedExpr.TheVariants.{Constant, Slot, Element', Bit', Slice', Convert', Unary', Binary', ExactQuotient', Logical'}
use Rattle.qt_typed.specs.declared.expression.TypedPhase.{TypedPhase, Row_of-TypedPhase, end_of-TypedPhase, more_of-TypedPhase}
use Rattle.qt_typed.specs.declared.expression.TypedPhase.TheVariants.{Fixed, Angle, Neg', Add', Sub', Times', Scaled', Over'}
use Rattle.qt_typed.specs.Types.{type_of}
use Rattle.qt_meaning.specs.Values.{Evaluated, BadAngle, and_then, or_fault, lowest, number_of, is_true, slice_of, operated, operated_alone, divided_exactly, converted_to, place_in, slot_at}

-- the first, or the second where it isn't decided yet
abbrev pub decided : Logical → Bool → ℕ → Evaluated ℕ → Evaluated ℕ
decided logical.And true x right = right
decided logical.And false x right = Ok x
decided logical.Or true x right = Ok x
decided logical.Or false x right = right

abbrev mutual
  pub eval : TypedExpr → ℕ → List ℕ → Evaluated ℕ
  eval (Constant value) base store = Ok value.bits
  eval (Slot kind slot) base store = Ok (slot_at store (base + slot))
  eval (Element' kind slot lengths k indexes) base store = and_then (element lengths 0 indexes base store) (λ place. Ok (slot_at store (base + slot + place)))
  eval (Bit' k (more_of-TypedExpr of end_of-TypedExpr) m (more_of-TypedExpr index end_of-TypedExpr)) base store =
      and_then (eval of base store) (λ x. and_then (eval index base store) (λ i.
      and_then (place_in (width_of (type_of of)) (type_of index) i) (λ place. Ok (bit_at x place))))
  eval (Slice' k (more_of-TypedExpr of end_of-TypedExpr) start step count) base store =
      and_then (eval of base store) (λ x. Ok (slice_of x start step count))
  eval (Convert' to k (more_of-TypedExpr operand end_of-TypedExpr)) base store =
      and_then (eval operand base store) (λ x. Ok (converted_to to (type_of operand) x))
  eval (Unary' op k (more_of-TypedExpr operand end_of-TypedExpr)) base store =
      and_then (eval operand base store) (λ x. Ok (operated_alone op (type_of operand) x))
  eval (Binary' op k (more_of-TypedExpr left end_of-TypedExpr) m (more_of-TypedExpr right end_of-TypedExpr)) base store =
      and_then (eval left base store) (λ x. and_then (eval right base store) (operated op (type_of left) (type_of right) x))
  eval (ExactQuotient' k (more_of-TypedExpr left end_of-TypedExpr) m (more_of-TypedExpr right end_of-TypedExpr)) base store =
      and_then (eval left base store) (λ x. and_then (eval right base store) (divided_exactly (type_of left) (type_of right) x))
  eval (Logical' operator k (more_of-TypedExpr left end_of-TypedExpr) m (more_of-TypedExpr right end_of-TypedExpr)) base store =
      and_then (eval left base store) (λ x. decided operator (is_true x) x (eval right base store))

  -- the place of an element behind the first, by an index for each dimension: the last index is fastest. Each index is tested at once
  pub element : {m : _} → List ℕ → ℕ → Row_of-TypedExpr m → ℕ → List ℕ → Evaluated ℕ
  element [] place indexes base store = Ok place
  element (length ∷ lengths) place end_of-TypedExpr base store = Ok place
  element (length ∷ lengths) place (more_of-TypedExpr index rest) base store =
      and_then (eval index base store) (λ i. and_then (place_in length (type_of index) i) (λ n. element lengths (place * length + n) rest base store))

abbrev pub values_of : List TypedExpr → ℕ → List ℕ → Evaluated (List ℕ)
values_of [] base store = Ok []
values_of (e ∷ es) base store = and_then (eval e base store) (λ x. and_then (values_of es base store) (λ xs. Ok (x ∷ xs)))

-- ---- phases, in units of π/2^32

-- the angle of n bits with the number c is c · 2^(33 − n) units
abbrev pub angle_units : ValueType → ℕ → ℤ
angle_units kind bits = pos (lowest kind bits * 2 ^ (33 - width_of kind))

abbrev pub phase : TypedPhase → ℕ → List ℕ → Evaluated ℤ
phase (Fixed units) base store = Ok units
phase (Angle operand) base store = and_then (eval operand base store) (λ c. Ok (angle_units (type_of operand) c))
phase (Neg' k (more_of-TypedPhase operand end_of-TypedPhase)) base store = and_then (phase operand base store) (λ a. or_fault BadAngle (negative_of a))
phase (Add' k (more_of-TypedPhase left end_of-TypedPhase) m (more_of-TypedPhase right end_of-TypedPhase)) base store =
    and_then (phase left base store) (λ a. and_then (phase right base store) (λ b. or_fault BadAngle (sum_of a b)))
phase (Sub' k (more_of-TypedPhase left end_of-TypedPhase) m (more_of-TypedPhase right end_of-TypedPhase)) base store =
    and_then (phase left base store) (λ a. and_then (phase right base store) (λ b. or_fault BadAngle (difference_of a b)))
phase (Times' k (more_of-TypedPhase of end_of-TypedPhase) number) base store =
    and_then (phase of base store) (λ a. and_then (eval number base store) (λ n. or_fault BadAngle (product_of (number_of (type_of number) n) a)))
phase (Scaled' number k (more_of-TypedPhase of end_of-TypedPhase)) base store =
    and_then (eval number base store) (λ n. and_then (phase of base store) (λ a. or_fault BadAngle (product_of (number_of (type_of number) n) a)))
phase (Over' k (more_of-TypedPhase of end_of-TypedPhase) number) base store =
    and_then (phase of base store) (λ a. and_then (eval number base store) (λ n. or_fault BadAngle (quotient_of (number_of (type_of number) n) a)))

abbrev pub phases_of : List TypedPhase → ℕ → List ℕ → Evaluated (List ℤ)
phases_of [] base store = Ok []
phases_of (p ∷ ps) base store = and_then (phase p base store) (λ a. and_then (phases_of ps base store) (λ as'. Ok (a ∷ as')))
