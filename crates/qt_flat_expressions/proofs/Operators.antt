-- Pieces of one or some instructions behind operands that stand in cells.
use Rattle.std.proofs.Common.{◌≡◌, ℕ, suc, ◌+◌, ◌%◌, ◌^◌, ◌<◌, ◌≤◌, nat_eq, Bool, true, false, if◌then◌else◌, cond, ℤ, pos, Option, Some, None, Ok, Err, [], ◌∷◌, option_map, refl, sym, ap, subst, ◌∙◌, arith, negsuc}
use Rattle.std.proofs.lemmas.Nat.{pow_pos}
use Rattle.std.proofs.Math.Nat.{mod-eq_of_lt, mod-lt}
use Rattle.std.specs.Prelude.{int_rem}
use Rattle.qt_tree.specs.declared.place.Place.{Place}
use Rattle.qt_value.specs.Numbers.{residue}
use Rattle.qt_value.specs.OpTypes.{result_type}
use Rattle.qt_value.specs.Results.{is_divide, left_of, right_of, result_bits}
use Rattle.qt_value.specs.Types.{width_of}
use Rattle.qt_value.specs.declared.operators.Op.{Op}
use Rattle.qt_value.specs.declared.operators.Op.TheVariants as op
use Rattle.qt_value.specs.declared.types.ValueType.{ValueType}
use Rattle.qt_typed.specs.Types.{or_bool}
use Rattle.qt_typed.specs.declared.expression.Logical.{Logical}
use Rattle.qt_typed.specs.declared.expression.Logical.TheVariants as logical
use Rattle.qt_meaning.specs.Expressions.{decided}
use Rattle.qt_meaning.specs.Points.{Point, choose, with_result}
use Rattle.qt_meaning.specs.Values.{Evaluated, Divide, BadAngle, and_then, or_fault, bits_in, datum, lowest, is_true, operated, divided_exactly}
use Rattle.qt_instructions.specs.declared.angle.AngleOperation.TheVariants as phase
use Rattle.qt_instructions.specs.declared.instruction.Operation.{Operation}
use Rattle.qt_instructions.specs.declared.instruction.Operation.TheVariants as operation
use Rattle.qt_instructions.specs.declared.instruction.Instr.TheVariants as instr
use Rattle.qt_instructions.specs.declared.parts.Parts.{Parts}
use Rattle.qt_code.specs.Cells.{Cells, bits_of_units, result_by, with_cell}
use Rattle.qt_code.specs.Tail.{tail}
use Rattle.qt_code.proofs.Steps.{tail_at, tail_with, goes_ahead, jump_at, jump_if_at}
use Rattle.qt_flat_code.specs.Lengths.{jumps_of}
use Rattle.qt_flat_code.specs.Expressions.{binary, exact_code, logical_jumps, operand}
use Rattle.qt_flat_expressions.specs.Lands.{KeepsBelow, StandsAt}
use Rattle.qt_flat_expressions.proofs.Coming.{Comes, keeps_all, keeps_fewer, comes_at, comes_from, comes_then, comes_written, comes_same, keeps_written}

module _ (code : Parts) (place : Place) (p : Point) where
  -- ---- an operator on one and on two cells

  pub apply_comes : (at : ℕ) (cells : Cells) (to cell : ℕ) (o : Operation) (v : Evaluated ℕ) → suc at ≡ to
      → StandsAt code place at (instr.Apply cell o ∷ []) → result_by o cells ≡ v → Comes code place p at cells to cell v
  apply_comes at cells to cell o v e h same =
      comes_same code place p at cells to cell (result_by o cells) v same
      (comes_written code place p at cells to cell (result_by o cells) e (tail_at code at (instr.Apply cell o, place) h.0 cells p))

  operands_same : (operator : Op) (left right : ValueType) (a b x y : ℕ) → a ≡ x → b ≡ y
      → operated operator left right a b ≡ operated operator left right x y
  operands_same operator left right a b x y e f = ap (λ z. operated operator left right z b) e ∙ ap (λ z. operated operator left right x z) f

  pub binary_comes : (at : ℕ) (cells : Cells) (to cell other target : ℕ) (operator : Op) (left right : ValueType) (x y : ℕ) → suc at ≡ to
      → StandsAt code place at (binary target operator (operand cell left) (operand other right) ∷ []) → cells cell ≡ x → cells other ≡ y
      → Comes code place p at cells to target (operated operator left right x y)
  binary_comes at cells to cell other target operator left right x y e h f g =
      apply_comes at cells to target (operation.Binary operator (operand cell left) (operand other right)) (operated operator left right x y) e h
      (operands_same operator left right (cells cell) (cells other) x y f g)

  -- ---- a division that may leave no rest

  -- the rest is one of its type
  rest_of : (kind : Option ValueType) (d : Bool) (bits : ℕ → ℕ) (n : ℕ)
      → or_fault Divide (option_map bits_in (cond d None (option_map (λ (k : ValueType). record { kind = k; bits = bits (width_of k) }) kind))) ≡ Ok n
      → ((w : ℕ) → bits w < 2 ^ w) → n < 2 ^ width_of (or_bool kind)
  rest_of None true bits n h f = cc
  rest_of None false bits n h f = cc
  rest_of (Some k) true bits n h f = cc
  rest_of (Some k) false bits n h f = let e : bits (width_of k) ≡ n = cc in subst (λ m. m < 2 ^ width_of k) e (f (width_of k))

  residue_below : (n : ℕ) (z : ℤ) → residue n z < 2 ^ n
  residue_below n (pos x) = mod-lt x (pow_pos n)
  residue_below n (negsuc i) = let h : i % 2 ^ n < 2 ^ n = mod-lt i (pow_pos n) in omega arith

  rest_below : (left right : ValueType) (x y n : ℕ) → operated op.Rem left right x y ≡ Ok n
      → n < 2 ^ width_of (or_bool (result_type op.Rem left right))
  unfolding operated
  rest_below left right x y n h =
      rest_of (result_type op.Rem left right) (is_divide op.Rem (datum left x) (datum right y))
      (λ w. result_bits op.Rem w (datum left x) (datum right y)) n h (λ w. residue_below w (int_rem (left_of (datum left x) (datum right y)) (right_of (datum left x) (datum right y))))

  -- what the test of a rest gives
  abbrev tested : Bool → Evaluated ℕ
  tested b = and_then (or_fault BadAngle (if b then Some (pos 0) else None)) (λ units. Ok (bits_of_units units))

  tested_comes : (b : Bool) (at : ℕ) (cells : Cells) (to cell other : ℕ) (v : Evaluated ℕ) → cell ≤ other
      → tail code at cells p ≡ with_result (tested b) place (λ x. tail_with code p.fuel (suc at) (with_cell other x cells)) p
      → ((new : Cells) → KeepsBelow other cells new → Comes code place p (suc at) new to cell v)
      → Comes code place p at cells to cell (if b then v else Err BadAngle)
  tested_comes true at cells to cell other v le h g =
      let new = with_cell other (bits_of_units (pos 0)) cells in
      let kept = keeps_written other other (bits_of_units (pos 0)) cells (omega arith) in
      comes_from code place p at cells (suc at) new to cell v h (keeps_fewer other cell cells new le kept) (g new kept)
  tested_comes false at cells to cell other v le h g = record { out = h }

  exactly : (left right : ValueType) (x y : ℕ) → divided_exactly left right x y
      ≡ and_then (operated op.Rem left right x y) (λ rest. if nat_eq rest 0 then operated op.Div left right x y else Err BadAngle)
  unfolding divided_exactly
  exactly left right x y = refl

  pub exact_comes : (at : ℕ) (cells : Cells) (to cell : ℕ) (left right : ValueType) (x y : ℕ) → at + 3 ≡ to
      → StandsAt code place at (exact_code cell left right) → cells cell ≡ x → cells (cell + 1) ≡ y
      → Comes code place p at cells to cell (divided_exactly left right x y)
  exact_comes at cells to cell left right x y e h f g =
      let kind = or_bool (result_type op.Rem left right) in
      let value = operand (cell + 2) kind in
      let divided = operated op.Div left right x y in
      let last : ℕ → Evaluated ℕ = λ rest. if nat_eq rest 0 then divided else Err BadAngle in
      comes_same code place p at cells to cell (and_then (operated op.Rem left right x y) last) (divided_exactly left right x y)
      (sym (exactly left right x y))
      (comes_then code place p at cells (suc at) (cell + 2) to cell (operated op.Rem left right x y) last (omega arith)
      (binary_comes at cells (suc at) cell (cell + 1) (cell + 2) op.Rem left right x y refl (h.0, tt) f g)
      (λ new n is holds kept.
      let low : lowest kind (new (cell + 2)) ≡ n =
      ap (lowest kind) holds ∙ mod-eq_of_lt (rest_below left right x y n is) in
      tested_comes (nat_eq n 0) (suc at) new to cell (cell + 2) divided (omega arith)
      (tail_at code (suc at) (instr.AngleOp (cell + 2) (phase.NoRest value), place) h.1.0 new p
      ∙ ap (λ m. with_result (tested (nat_eq m 0)) place (λ z. tail_with code p.fuel (suc (suc at)) (with_cell (cell + 2) z new)) p) low)
      (λ newer kept_there.
      binary_comes (suc (suc at)) newer to cell (cell + 1) cell op.Div left right x y (omega arith) h.1.1
      (kept_there cell (omega arith) ∙ kept cell (omega arith) ∙ f)
      (kept_there (cell + 1) (omega arith) ∙ kept (cell + 1) (omega arith) ∙ g))))

  -- ---- `&&` and `||`

  pub logical_comes : (operator : Logical) (b : Bool) (at : ℕ) (cells : Cells) (to cell n x : ℕ) (w : Evaluated ℕ)
      → StandsAt code place at (logical_jumps operator cell at n) → is_true (cells cell) ≡ b → cells cell ≡ x → at + (jumps_of operator + n) ≡ to
      → Comes code place p (at + jumps_of operator) cells to cell w → Comes code place p at cells to cell (decided operator b x w)
  logical_comes logical.And true at cells to cell n x w h e f g c =
      comes_from code place p at cells (at + 2) cells to cell w
      (jump_if_at code at cell (at + 2) place h.0 (goes_ahead code at (at + 2) (omega arith)) cells p
      ∙ ap (λ b. choose b (tail code (at + 2) cells) (tail code (suc at) cells) p) e)
      (keeps_all cell cells) c
  logical_comes logical.And false at cells to cell n x w h e f g c =
      comes_from code place p at cells (at + 2 + n) cells to cell (Ok x)
      (jump_if_at code at cell (at + 2) place h.0 (goes_ahead code at (at + 2) (omega arith)) cells p
      ∙ ap (λ b. choose b (tail code (at + 2) cells) (tail code (suc at) cells) p) e
      ∙ jump_at code (suc at) (at + 2 + n) place h.1.0 (goes_ahead code (suc at) (at + 2 + n) (omega arith)) cells p)
      (keeps_all cell cells) (comes_at code place p (at + 2 + n) cells to cell x f (omega arith))
  logical_comes logical.Or true at cells to cell n x w h e f g c =
      comes_from code place p at cells (at + 1 + n) cells to cell (Ok x)
      (jump_if_at code at cell (at + 1 + n) place h.0 (goes_ahead code at (at + 1 + n) (omega arith)) cells p
      ∙ ap (λ b. choose b (tail code (at + 1 + n) cells) (tail code (suc at) cells) p) e)
      (keeps_all cell cells) (comes_at code place p (at + 1 + n) cells to cell x f (omega arith))
  logical_comes logical.Or false at cells to cell n x w h e f g c =
      let one : suc at ≡ at + 1 = omega arith in
      comes_from code place p at cells (at + 1) cells to cell w
      (jump_if_at code at cell (at + 1 + n) place h.0 (goes_ahead code at (at + 1 + n) (omega arith)) cells p
      ∙ ap (λ b. choose b (tail code (at + 1 + n) cells) (tail code (suc at) cells) p) e
      ∙ ap (λ m. tail code m cells p) one)
      (keeps_all cell cells) c
