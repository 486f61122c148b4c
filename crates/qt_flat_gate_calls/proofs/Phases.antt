-- The code of a phase lands: its units come to its cell, or the run ends in its first fault.
use Rattle.std.proofs.Common.{◌≡◌, ℕ, zero, suc, ◌+◌, ◌-◌, ◌*◌, ◌/◌, ◌%◌, ◌^◌, ◌<◌, ◌≤◌, Bool, true, false, nat_le, if◌then◌else◌, ℤ, pos, negsuc, ◌+ℤ◌, ◌*ℤ◌, neg_ℤ, Ok, Err, Some, None, List, [], ◌∷◌, ◌++◌, refl, ap, subst, ◌∙◌, arith}
use Rattle.std.specs.Prelude.{unsigned_abs}
use Rattle.std.specs.Int.RustNames.{int_div}
use Rattle.std.proofs.lemmas.Bool.{leb-true}
use Rattle.std.proofs.lemmas.Nat.{pow-add}
use Rattle.std.proofs.Math.Nat.{div-le_self, mod-eq_of_lt, mod-lt, mul-le-mul_right, one-le-pow}
use Rattle.qt_ring.proofs.RingLaws.{and_right}
use Rattle.qt_tree.specs.declared.place.Place.{Place}
use Rattle.qt_phase.specs.Phase.{IsPhase, divides}
use Rattle.qt_phase.specs.declared.phase.PhaseFault.TheVariants.{Range, NotExact}
use Rattle.qt_value.specs.Numbers.{residue, signed_number}
use Rattle.qt_value.specs.Types.{has_size}
use Rattle.qt_value.specs.declared.types.ValueType.{ValueType}
use Rattle.qt_value.specs.declared.types.ValueType.TheVariants as kind
use Rattle.qt_gate_calls.specs.Units.{KnownUnits, as_phase, exactly, of_one, of_two, sum_of, difference_of, negative_of, product_of, quotient_of}
use Rattle.qt_typed.specs.Types.{type_of}
use Rattle.qt_typed.specs.declared.expression.TypedExpr.{TypedExpr}
use Rattle.qt_typed.specs.declared.expression.TypedPhase.{TypedPhase, end_of-TypedPhase, more_of-TypedPhase}
use Rattle.qt_typed.specs.declared.expression.TypedPhase.TheVariants.{Fixed, Angle, Neg', Add', Sub', Times', Scaled', Over'}
use Rattle.qt_meaning.specs.Expressions.{angle_units, eval, phase}
use Rattle.qt_meaning.specs.Points.{Point, with_result}
use Rattle.qt_meaning.specs.Values.{BadAngle, Evaluated, and_then, or_fault, number_of}
use Rattle.qt_instructions.specs.declared.angle.AngleStep.TheVariants as step
use Rattle.qt_instructions.specs.declared.angle.AngleOperation.{AngleOperation}
use Rattle.qt_instructions.specs.declared.angle.AngleOperation.TheVariants as operation
use Rattle.qt_instructions.specs.declared.instruction.Instr.{Instr}
use Rattle.qt_instructions.specs.declared.instruction.Instr.TheVariants as instr
use Rattle.qt_instructions.specs.declared.parts.Parts.{Parts}
use Rattle.qt_code.specs.Cells.{Cells, bits_of_units, phase_result, units_by, units_in, with_cell}
use Rattle.qt_code.specs.Ranges.{is_angle}
use Rattle.qt_code.specs.Tail.{tail}
use Rattle.qt_code.proofs.Steps.{tail_at, tail_with}
use Rattle.qt_flat_code.specs.Lengths.{expression_length}
use Rattle.qt_flat_code.specs.Expressions.{expression_code, operand}
use Rattle.qt_flat_code.specs.Phases.{phase_code, phase_in, phase_length, step_to}
use Rattle.qt_flat_expressions.specs.Fits.{ExpressionFits}
use Rattle.qt_flat_expressions.specs.Lands.{StandsAt}
use Rattle.qt_flat_expressions.proofs.Coming.{cell_holds, keeps_written}
use Rattle.qt_flat_expressions.proofs.Expressions.{expression_comes}
use Rattle.qt_flat_expressions.proofs.Lengths.{Long, expression_long, joined}
use Rattle.qt_flat_expressions.proofs.Numbers.{IsSmall, residue_below, signed_back}
use Rattle.qt_flat_expressions.proofs.Sized.{type_sized}
use Rattle.qt_flat_expressions.proofs.Standing.{stands_behind, stands_first}
use Rattle.qt_flat_expressions.proofs.Stepping.{HasAt}
use Rattle.qt_flat_gate_calls.specs.Fits.{PhaseFits}
use Rattle.qt_flat_expressions.proofs.Arriving.{Gets, InCell, gets_here, gets_other, gets_then, gets_value}

-- ---- units in cells

-- the bits of a small number of units are read as it
pub number_back : (u : ℤ) → IsSmall u → number_of (kind.Int 64) (residue 64 u) ≡ u
unfolding number_of
number_back u h = ap (signed_number 64) (mod-eq_of_lt (residue_below u)) ∙ signed_back u h

units_written : (cell : ℕ) (u : ℤ) (cells : Cells) → IsSmall u → units_in cell (with_cell cell (bits_of_units u) cells) ≡ u
units_written cell u cells h = ap (number_of (kind.Int 64)) (cell_holds cell (bits_of_units u) cells) ∙ number_back u h

-- ---- phases are small

small_of : (u : ℤ) → IsPhase u → IsSmall u
small_of (pos x) h = let l : x ≤ 2 ^ 60 = h in omega arith
small_of (negsuc i) h = let l : suc i ≤ 2 ^ 60 = h in omega arith

abbrev pub AllSmall : KnownUnits → Type 0
AllSmall k = (u : ℤ) → k ≡ Some u → IsSmall u

abbrev if_phase : Bool → ℤ → KnownUnits
if_phase t u = exactly (if t then Ok u else Err Range)

phase_by : (t : Bool) (z u : ℤ) → nat_le (unsigned_abs z) (2 ^ 60) ≡ t → if_phase t z ≡ Some u → (z ≡ u) × IsPhase u
phase_by true z u e h =
    let s : z ≡ u = cc in
    (s, subst IsPhase s (leb-true (unsigned_abs z) (2 ^ 60) e))
phase_by false z u e h = absurd (cc)

phase_is : (z u : ℤ) → as_phase z ≡ Some u → (z ≡ u) × IsPhase u
phase_is z u h = phase_by (nat_le (unsigned_abs z) (2 ^ 60)) z u refl h

small_phase : (z : ℤ) → AllSmall (as_phase z)
small_phase z u h = small_of u (phase_is z u h).1

small_two : (f : ℤ → ℤ → KnownUnits) → ((x y : ℤ) → AllSmall (f x y)) → (a b : KnownUnits) → AllSmall (of_two f a b)
small_two f h None b u e = absurd (cc)
small_two f h (Some x) None u e = absurd (cc)
small_two f h (Some x) (Some y) u e = h x y u e

small_one : (f : ℤ → KnownUnits) (a : KnownUnits) → ((x : ℤ) → a ≡ Some x → AllSmall (f x)) → AllSmall (of_one f a)
small_one f None h u e = absurd (cc)
small_one f (Some x) h u e = h x refl u e

small_opposite : (x : ℤ) → IsPhase x → IsSmall (neg_ℤ x)
small_opposite (pos zero) h = omega arith
small_opposite (pos (suc x)) h = let l : suc x ≤ 2 ^ 60 = h in omega arith
small_opposite (negsuc i) h = let l : suc i ≤ 2 ^ 60 = h in omega arith

small_natural : (q : ℕ) → q ≤ 2 ^ 60 → IsSmall (neg_ℤ (pos q))
small_natural zero h = omega arith
small_natural (suc q) h = omega arith

small_quotient : (x k : ℤ) → IsPhase x → IsSmall (int_div x k)
small_quotient (pos x) (pos k) h = let l : x ≤ 2 ^ 60 = h in let d = div-le_self x k in omega arith
small_quotient (pos x) (negsuc k) h = let l : x ≤ 2 ^ 60 = h in let d = div-le_self x (suc k) in small_natural (x / suc k) (omega arith)
small_quotient (negsuc i) (pos k) h = let l : suc i ≤ 2 ^ 60 = h in let d = div-le_self (suc i) k in small_natural (suc i / k) (omega arith)
small_quotient (negsuc i) (negsuc k) h = let l : suc i ≤ 2 ^ 60 = h in let d = div-le_self (suc i) (suc k) in omega arith

quotient_by : (t : Bool) (z : ℤ) → IsSmall z → AllSmall (exactly (if t then Ok z else Err NotExact))
quotient_by true z h u e = let s : z ≡ u = cc in subst IsSmall s h
quotient_by false z h u e = absurd (cc)

pub small_sum : (a b : ℤ) → AllSmall (sum_of a b)
small_sum a b = small_two (λ x y. exactly _) (λ x y. small_phase (x +ℤ y)) (as_phase a) (as_phase b)

pub small_difference : (a b : ℤ) → AllSmall (difference_of a b)
small_difference a b = small_two (λ x y. exactly _) (λ x y. small_phase (x +ℤ neg_ℤ y)) (as_phase a) (as_phase b)

pub small_negative : (a : ℤ) → AllSmall (negative_of a)
small_negative a = small_one (λ x. Some (neg_ℤ x)) (as_phase a) (λ x e u f.
    let s : neg_ℤ x ≡ u = cc in
    let t = phase_is a x e in
    subst IsSmall s (small_opposite x t.1))

pub small_product : (k a : ℤ) → AllSmall (product_of k a)
small_product k a = small_one (λ x. exactly _) (as_phase a) (λ x e. small_phase (x *ℤ k))

pub small_over : (k a : ℤ) → AllSmall (quotient_of k a)
small_over k a = small_one (λ x. exactly _) (as_phase a) (λ x e. quotient_by (divides k x) (int_div x k) (small_quotient x k (phase_is a x e).1))

-- the units of an angle of n bits are below 2^33
small_angle : (of : ValueType) (bits : ℕ) → has_size of ≡ true → is_angle of ≡ true → IsSmall (angle_units of bits)
small_angle (kind.Angle n) bits h a =
    let l : n ≤ 32 = leb-true n 32 (and_right (nat_le 1 n) (nat_le n 32) h) in
    let b : bits % 2 ^ n < 2 ^ n = mod-lt bits (one-le-pow n 2 (omega arith)) in
    let e : 2 ^ (n + (33 - n)) ≡ 2 ^ n * 2 ^ (33 - n) = pow-add 2 n (33 - n) in
    let s : n + (33 - n) ≡ 33 = omega arith in
    let t : 2 ^ (n + (33 - n)) ≡ 2 ^ 33 = ap (λ m. 2 ^ m) s in
    let m : (bits % 2 ^ n) * 2 ^ (33 - n) ≤ 2 ^ n * 2 ^ (33 - n) = mul-le-mul_right (2 ^ (33 - n)) (omega arith) in
    omega arith
small_angle kind.Bool bits h a = absurd (cc)
small_angle (kind.Bit n) bits h a = absurd (cc)
small_angle (kind.Int n) bits h a = absurd (cc)
small_angle (kind.Uint n) bits h a = absurd (cc)
small_angle kind.Phase bits h a = absurd (cc)

-- ---- how long the code is

pub phase_long : (e : TypedPhase) (base cell at : ℕ) → Long (phase_code e base cell at) (phase_length e)
phase_long (Fixed units) base cell at = record { long = refl }
phase_long (Angle of) base cell at = joined _ _ _ _ (expression_long of base cell at) (record { long = refl })
phase_long (Neg' k (more_of-TypedPhase of end_of-TypedPhase)) base cell at = joined _ _ _ _ (phase_long of base cell at) (record { long = refl })
phase_long (Add' k (more_of-TypedPhase left end_of-TypedPhase) m (more_of-TypedPhase right end_of-TypedPhase)) base cell at =
    joined _ _ _ _ (phase_long left base cell at)
    (joined _ _ _ _ (phase_long right base (suc cell) (at + phase_length left)) (record { long = refl }))
phase_long (Sub' k (more_of-TypedPhase left end_of-TypedPhase) m (more_of-TypedPhase right end_of-TypedPhase)) base cell at =
    joined _ _ _ _ (phase_long left base cell at)
    (joined _ _ _ _ (phase_long right base (suc cell) (at + phase_length left)) (record { long = refl }))
phase_long (Times' k (more_of-TypedPhase of end_of-TypedPhase) number) base cell at =
    joined _ _ _ _ (phase_long of base cell at)
    (joined _ _ _ _ (expression_long number base (suc cell) (at + phase_length of)) (record { long = refl }))
phase_long (Scaled' number k (more_of-TypedPhase of end_of-TypedPhase)) base cell at =
    joined _ _ _ _ (expression_long number base cell at)
    (joined _ _ _ _ (phase_long of base (suc cell) (at + expression_length number)) (record { long = refl }))
phase_long (Over' k (more_of-TypedPhase of end_of-TypedPhase) number) base cell at =
    joined _ _ _ _ (phase_long of base cell at)
    (joined _ _ _ _ (expression_long number base (suc cell) (at + phase_length of)) (record { long = refl }))

-- ---- what a phase's cell holds

-- what stands for a phase is read as so many units
abbrev pub InUnits : TypedPhase → ℕ → ℤ → Cells → Type 0
InUnits e cell u new = units_by (phase_in e cell) new ≡ u

-- and is read in its own cell alone
pub units_same : (e : TypedPhase) (cell : ℕ) (old new : Cells) → new cell ≡ old cell
    → units_by (phase_in e cell) new ≡ units_by (phase_in e cell) old
units_same (Fixed units) cell old new h = refl
units_same (Angle of) cell old new h = ap (number_of (kind.Int 64)) h
units_same (Neg' k of) cell old new h = ap (number_of (kind.Int 64)) h
units_same (Add' k left m right) cell old new h = ap (number_of (kind.Int 64)) h
units_same (Sub' k left m right) cell old new h = ap (number_of (kind.Int 64)) h
units_same (Times' k of number) cell old new h = ap (number_of (kind.Int 64)) h
units_same (Scaled' number k of) cell old new h = ap (number_of (kind.Int 64)) h
units_same (Over' k of number) cell old new h = ap (number_of (kind.Int 64)) h

abbrev HasUnits : ℕ → ℤ → Cells → Type 0
HasUnits cell u new = units_in cell new ≡ u

-- the bits of so many units are written
abbrev pub Written : ℕ → Cells → ℤ → Cells → Type 0
Written cell cells u new = new ≡ with_cell cell (bits_of_units u) cells

pub some_of : (k : KnownUnits) (u : ℤ) → or_fault BadAngle k ≡ Ok u → k ≡ Some u
some_of (Some v) u e = cc
some_of None u e = absurd (cc)

module _ (code : Parts) (place : Place) (p : Point) where
  -- an instruction that reckons a phase
  pub angle_writes : (at cell to : ℕ) (cells : Cells) (of : AngleOperation) (k : KnownUnits) → HasAt code place at (instr.AngleOp cell of)
      → phase_result of cells ≡ k → suc at ≡ to → Gets code place p ℤ at cells to cell (Written cell cells) (or_fault BadAngle k)
  angle_writes at cell to cells of (Some u) h e t = record {
    out = record {
      new = with_cell cell (bits_of_units u) cells;
      holds = refl;
      kept = keeps_written cell cell (bits_of_units u) cells (omega arith);
      same = tail_at code at (instr.AngleOp cell of, place) h cells p
          ∙ ap (λ r. with_result (and_then (or_fault BadAngle r) (λ units. Ok (bits_of_units units))) place (λ x. tail_with code p.fuel (suc at) (with_cell cell x cells)) p) e
          ∙ ap (λ n. tail code n (with_cell cell (bits_of_units u) cells) p) t;
    };
  }
  angle_writes at cell to cells of None h e t = record {
    out = tail_at code at (instr.AngleOp cell of, place) h cells p
        ∙ ap (λ r. with_result (and_then (or_fault BadAngle r) (λ units. Ok (bits_of_units units))) place (λ x. tail_with code p.fuel (suc at) (with_cell cell x cells)) p) e;
  }

  angle_gets : (at cell to : ℕ) (cells : Cells) (of : AngleOperation) (k : KnownUnits) → HasAt code place at (instr.AngleOp cell of)
      → phase_result of cells ≡ k → AllSmall k → suc at ≡ to → Gets code place p ℤ at cells to cell (HasUnits cell) (or_fault BadAngle k)
  angle_gets at cell to cells of k h e s t =
      gets_other code place p at cells to cell (Written cell cells) (HasUnits cell) (or_fault BadAngle k)
      (λ new u is holds kept. ap (units_in cell) holds ∙ units_written cell u cells (s u (some_of k u is)))
      (angle_writes at cell to cells of k h e t)

  -- two parts, one after the other, and what is reckoned of them
  both_get : {A B : Type 0} (G : A → Cells → Type 0) (H : B → Cells → Type 0) (v : Evaluated A) (w : Evaluated B) (f : A → B → KnownUnits)
      (does : AngleOperation) (first second : List Instr) (n m cell at to : ℕ) (cells : Cells) → ((a : A) (b : B) → AllSmall (f a b))
      → ((old new : Cells) (a : A) → new cell ≡ old cell → G a old → G a new)
      → ((new : Cells) (a : A) (b : B) → G a new → H b new → phase_result does new ≡ f a b) → Long first n → Long second m
      → StandsAt code place at (first ++ (second ++ (instr.AngleOp cell does ∷ []))) → at + (n + (m + 1)) ≡ to
      → (StandsAt code place at first → Gets code place p A at cells (at + n) cell G v)
      → ((new : Cells) → StandsAt code place (at + n) second → Gets code place p B (at + n) new (at + n + m) (suc cell) H w)
      → Gets code place p ℤ at cells to cell (HasUnits cell) (and_then v (λ a. and_then w (λ b. or_fault BadAngle (f a b))))
  both_get G H v w f does first second n m cell at to cells small stable reads long longer h t one two =
      let last : List Instr = instr.AngleOp cell does ∷ [] in
      let later = stands_behind code place at first (second ++ last) n long.long h in
      gets_then code place p at cells (at + n) cell to cell G (HasUnits cell) v (λ a. and_then w (λ b. or_fault BadAngle (f a b))) (omega arith)
      (one (stands_first code place at first (second ++ last) h))
      (λ new a is holds kept.
      gets_then code place p (at + n) new (at + n + m) (suc cell) to cell H (HasUnits cell) w (λ b. or_fault BadAngle (f a b)) (omega arith)
      (two new (stands_first code place (at + n) second last later))
      (λ newer b it there keeps.
      angle_gets (at + n + m) cell to newer does (f a b) (stands_behind code place (at + n) second last m longer.long later).0
      (reads newer a b (stable new newer a (keeps cell (omega arith)) holds) there) (small a b) (omega (arith, t))))

  -- ---- phases

  module _ (base slots : ℕ) where
    value_gets : (e : TypedExpr) → ExpressionFits slots e → (cell at to : ℕ) (cells : Cells) → StandsAt code place at (expression_code e base cell at)
        → at + expression_length e ≡ to → Gets code place p ℕ at cells to cell (InCell code place p cell) (eval e base p.store)
    value_gets e fits cell at to cells h t =
        gets_value code place p at cells to cell (eval e base p.store) (expression_comes code place p base slots e fits cell at to cells h t)

    pub phase_gets : (e : TypedPhase) → PhaseFits slots e → (cell at to : ℕ) (cells : Cells) → StandsAt code place at (phase_code e base cell at)
        → at + phase_length e ≡ to → Gets code place p ℤ at cells to cell (InUnits e cell) (phase e base p.store)
    phase_gets (Fixed units) fits cell at to cells h t = gets_here code place p at cells to cell (InUnits (Fixed units) cell) units refl (omega (arith, t))
    phase_gets (Angle of) fits cell at to cells h t =
        let a = expression_code of base cell at in
        let last : List Instr = instr.AngleOp cell (operation.OfAngle (operand cell (type_of of))) ∷ [] in
        let mid = at + expression_length of in
        gets_then code place p at cells mid cell to cell (InCell code place p cell) (HasUnits cell) (eval of base p.store) (λ c. Ok (angle_units (type_of of) c)) (omega arith)
        (value_gets of fits.0 cell at mid cells (stands_first code place at a last h) refl)
        (λ new c is holds kept.
        angle_gets mid cell to new (operation.OfAngle (operand cell (type_of of))) (Some (angle_units (type_of of) c))
        (stands_behind code place at a last (expression_length of) (expression_long of base cell at).long h).0
        (ap (λ x. Some (angle_units (type_of of) x)) holds)
        (λ u s. let v : angle_units (type_of of) c ≡ u = cc in subst IsSmall v (small_angle (type_of of) c (type_sized slots of fits.0) fits.1))
        (omega (arith, t)))
    phase_gets (Neg' k (more_of-TypedPhase of end_of-TypedPhase)) fits cell at to cells h t =
        let a = phase_code of base cell at in
        let does = step.Neg (phase_in of cell) in
        let last : List Instr = step_to cell does ∷ [] in
        let mid = at + phase_length of in
        gets_then code place p at cells mid cell to cell (InUnits of cell) (HasUnits cell) (phase of base p.store) (λ x. or_fault BadAngle (negative_of x)) (omega arith)
        (phase_gets of fits cell at mid cells (stands_first code place at a last h) refl)
        (λ new x is holds kept.
        angle_gets mid cell to new (operation.Step does) (negative_of x)
        (stands_behind code place at a last (phase_length of) (phase_long of base cell at).long h).0
        (ap negative_of holds) (small_negative x) (omega (arith, t)))
    phase_gets (Add' k (more_of-TypedPhase left end_of-TypedPhase) m (more_of-TypedPhase right end_of-TypedPhase)) fits cell at to cells h t =
        both_get (InUnits left cell) (InUnits right (suc cell)) (phase left base p.store) (phase right base p.store) sum_of
        (operation.Step (step.Add (phase_in left cell) (phase_in right (suc cell)))) (phase_code left base cell at)
        (phase_code right base (suc cell) (at + phase_length left)) (phase_length left) (phase_length right) cell at to cells small_sum
        (λ old new x e holds. units_same left cell old new e ∙ holds) (λ new x y a b. ap (λ z. sum_of z (units_by (phase_in right (suc cell)) new)) a ∙ ap (sum_of x) b)
        (phase_long left base cell at) (phase_long right base (suc cell) (at + phase_length left)) h t
        (λ g. phase_gets left fits.0 cell at (at + phase_length left) cells g refl)
        (λ new g. phase_gets right fits.1 (suc cell) (at + phase_length left) (at + phase_length left + phase_length right) new g refl)
    phase_gets (Sub' k (more_of-TypedPhase left end_of-TypedPhase) m (more_of-TypedPhase right end_of-TypedPhase)) fits cell at to cells h t =
        both_get (InUnits left cell) (InUnits right (suc cell)) (phase left base p.store) (phase right base p.store) difference_of
        (operation.Step (step.Sub (phase_in left cell) (phase_in right (suc cell)))) (phase_code left base cell at)
        (phase_code right base (suc cell) (at + phase_length left)) (phase_length left) (phase_length right) cell at to cells small_difference
        (λ old new x e holds. units_same left cell old new e ∙ holds) (λ new x y a b. ap (λ z. difference_of z (units_by (phase_in right (suc cell)) new)) a ∙ ap (difference_of x) b)
        (phase_long left base cell at) (phase_long right base (suc cell) (at + phase_length left)) h t
        (λ g. phase_gets left fits.0 cell at (at + phase_length left) cells g refl)
        (λ new g. phase_gets right fits.1 (suc cell) (at + phase_length left) (at + phase_length left + phase_length right) new g refl)
    phase_gets (Times' k (more_of-TypedPhase of end_of-TypedPhase) number) fits cell at to cells h t =
        let kind = type_of number in
        both_get (InUnits of cell) (InCell code place p (suc cell)) (phase of base p.store) (eval number base p.store) (λ x n. product_of (number_of kind n) x)
        (operation.Product (phase_in of cell) (operand (suc cell) kind)) (phase_code of base cell at)
        (expression_code number base (suc cell) (at + phase_length of)) (phase_length of) (expression_length number) cell at to cells
        (λ x n. small_product (number_of kind n) x) (λ old new x e holds. units_same of cell old new e ∙ holds)
        (λ new x n a b. ap (λ z. product_of (number_of kind (new (suc cell))) z) a ∙ ap (λ z. product_of (number_of kind z) x) b)
        (phase_long of base cell at) (expression_long number base (suc cell) (at + phase_length of)) h t
        (λ g. phase_gets of fits.0 cell at (at + phase_length of) cells g refl)
        (λ new g. value_gets number fits.1 (suc cell) (at + phase_length of) (at + phase_length of + expression_length number) new g refl)
    phase_gets (Scaled' number k (more_of-TypedPhase of end_of-TypedPhase)) fits cell at to cells h t =
        let kind = type_of number in
        both_get (InCell code place p cell) (InUnits of (suc cell)) (eval number base p.store) (phase of base p.store) (λ n x. product_of (number_of kind n) x)
        (operation.Product (phase_in of (suc cell)) (operand cell kind)) (expression_code number base cell at)
        (phase_code of base (suc cell) (at + expression_length number)) (expression_length number) (phase_length of) cell at to cells
        (λ n x. small_product (number_of kind n) x) (λ old new x e holds. e ∙ holds)
        (λ new n x a b. ap (λ z. product_of (number_of kind z) (units_by (phase_in of (suc cell)) new)) a ∙ ap (λ z. product_of (number_of kind n) z) b)
        (expression_long number base cell at) (phase_long of base (suc cell) (at + expression_length number)) h t
        (λ g. value_gets number fits.1 cell at (at + expression_length number) cells g refl)
        (λ new g. phase_gets of fits.0 (suc cell) (at + expression_length number) (at + expression_length number + phase_length of) new g refl)
    phase_gets (Over' k (more_of-TypedPhase of end_of-TypedPhase) number) fits cell at to cells h t =
        let kind = type_of number in
        both_get (InUnits of cell) (InCell code place p (suc cell)) (phase of base p.store) (eval number base p.store) (λ x n. quotient_of (number_of kind n) x)
        (operation.Quotient (phase_in of cell) (operand (suc cell) kind)) (phase_code of base cell at)
        (expression_code number base (suc cell) (at + phase_length of)) (phase_length of) (expression_length number) cell at to cells
        (λ x n. small_over (number_of kind n) x) (λ old new x e holds. units_same of cell old new e ∙ holds)
        (λ new x n a b. ap (λ z. quotient_of (number_of kind (new (suc cell))) z) a ∙ ap (λ z. quotient_of (number_of kind z) x) b)
        (phase_long of base cell at) (expression_long number base (suc cell) (at + phase_length of)) h t
        (λ g. phase_gets of fits.0 cell at (at + phase_length of) cells g refl)
        (λ new g. value_gets number fits.1 (suc cell) (at + phase_length of) (at + phase_length of + expression_length number) new g refl)
