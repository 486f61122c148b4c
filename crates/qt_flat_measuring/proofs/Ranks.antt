-- How many choices stand before an instruction, and pieces of code without any.
use Rattle.std.proofs.Common.{◌≡◌, ℕ, zero, suc, ◌+◌, Option, Some, None, List, [], ◌∷◌, ◌++◌, length, slice_get, refl, sym, ap, ◌∙◌, arith}
use Rattle.std.specs.List.{zip}
use Rattle.qt_tree.specs.declared.place.Place.{Place}
use Rattle.qt_value.specs.declared.types.ValueType.{ValueType}
use Rattle.qt_value.specs.declared.types.ValueType.TheVariants as kind
use Rattle.qt_typed.specs.Types.{type_of}
use Rattle.qt_typed.specs.declared.expression.Logical.{Logical}
use Rattle.qt_typed.specs.declared.expression.Logical.TheVariants as logical
use Rattle.qt_typed.specs.declared.expression.TypedExpr.{TypedExpr, Row_of-TypedExpr, end_of-TypedExpr, more_of-TypedExpr}
use Rattle.qt_typed.specs.declared.expression.TypedExpr.TheVariants.{Constant, Slot, Element', Bit', Slice', Convert', Unary', Binary', ExactQuotient', Logical'}
use Rattle.qt_instructions.specs.declared.instruction.Instr.{Instr}
use Rattle.qt_instructions.specs.declared.instruction.Instr.TheVariants as instr
use Rattle.qt_instructions.specs.declared.parts.Parts.{Parts}
use Rattle.qt_code.specs.Tail.{choices_before, choices_in, lines}
use Rattle.qt_flat_code.specs.Lengths.{expression_length, jumps_of}
use Rattle.qt_flat_code.specs.Expressions.{copied_code, every, expression_code, index_code, logical_jumps, operand, place_code, slice_code}
use Rattle.qt_flat_expressions.specs.Lands.{StandsAt}

-- ---- ranks

none_before : (is : List Instr) → choices_before zero is ≡ 0
none_before [] = refl
none_before (i ∷ is) = refl

abbrev choices_at : Option (Instr × Place) → ℕ
choices_at None = 0
choices_at (Some l) = choices_in l.0

rank_in : (is : List Instr) (ps : List Place) (at : ℕ) (i : Instr) (place : Place) → slice_get (zip is ps) at ≡ Some (i, place)
    → choices_before (suc at) is ≡ choices_before at is + choices_in i
rank_in [] ps at i place h = absurd (cc)
rank_in (x ∷ is) [] at i place h = absurd (cc)
rank_in (x ∷ is) (p ∷ ps) zero i place h =
    let s : choices_in x ≡ choices_in i = ap choices_at h in
    let n : choices_before zero is ≡ 0 = none_before is in
    omega arith
rank_in (x ∷ is) (p ∷ ps) (suc at) i place h =
    let r : choices_before (suc at) is ≡ choices_before at is + choices_in i = rank_in is ps at i place h in
    omega arith

pub rank_behind : (code : Parts) (place : Place) (at : ℕ) (i : Instr) → slice_get (lines code) at ≡ Some (i, place)
    → choices_before (suc at) code.instructions ≡ choices_before at code.instructions + choices_in i
rank_behind code place at i h = rank_in code.instructions code.places at i place h

-- ---- pieces without choices

abbrev pub HasNoChoice : List Instr → Type 0
HasNoChoice [] = Unit {0}
HasNoChoice (i ∷ is) = (choices_in i ≡ 0) × HasNoChoice is

pub record IsFree (is : List Instr) : Type 0 where
  pub free : HasNoChoice is

both_free : (a b : List Instr) → HasNoChoice a → HasNoChoice b → HasNoChoice (a ++ b)
both_free [] b h g = g
both_free (i ∷ a) b h g = (h.0, both_free a b h.1 g)

pub free_joined : (a b : List Instr) → IsFree a → IsFree b → IsFree (a ++ b)
free_joined a b h g = record { free = both_free a b h.free g.free }

rank_kept : (code : Parts) (place : Place) (at : ℕ) (is : List Instr) (n m : ℕ) → HasNoChoice is → StandsAt code place at is
    → length is ≡ n → choices_before at code.instructions ≡ m → choices_before (at + n) code.instructions ≡ m
rank_kept code place at [] n m h g l e =
    let s : at + n ≡ at = omega (arith, l) in
    ap (λ k. choices_before k code.instructions) s ∙ e
rank_kept code place at (i ∷ is) n m h g l e =
    let r = rank_behind code place at i g.0 in
    let f : choices_in i ≡ 0 = h.0 in
    let t : suc at + length is ≡ at + n = omega (arith, l) in
    ap (λ k. choices_before k code.instructions) (sym t) ∙ rank_kept code place (suc at) is (length is) m h.1 g.1 refl (omega arith)

-- behind a piece without choices stand as many as before it
pub rank_after : (code : Parts) (place : Place) (at : ℕ) (is : List Instr) (n m : ℕ) → IsFree is → StandsAt code place at is
    → length is ≡ n → choices_before at code.instructions ≡ m → choices_before (at + n) code.instructions ≡ m
rank_after code place at is n m h g l e = rank_kept code place at is n m h.free g l e

-- ---- expressions

copied_free : (from : ℕ) (of : ValueType) (read : ℕ → ℕ) (cell : ℕ) (to : ValueType) (write : ℕ → ℕ) (used i count : ℕ)
    → HasNoChoice (copied_code from of read cell to write used i count)
copied_free from of read cell to write used i zero = tt
copied_free from of read cell to write used i (suc count) = (refl, (refl, (refl, (refl, copied_free from of read cell to write used (suc i) count))))

slice_free : (cell : ℕ) (of : ValueType) (start step count : ℕ) → IsFree (slice_code cell of start step count)
slice_free cell of start step count =
    let copied = copied_code cell of (every start step) (cell + 1) (kind.Bit count) (λ i. i) (cell + 2) 0 count in
    let last : List Instr = instr.Cast cell (operand (cell + 1) (kind.Bit count)) (kind.Bit count) ∷ [] in
    record {
      free = (refl, both_free copied last (copied_free cell of (every start step) (cell + 1) (kind.Bit count) (λ i. i) (cell + 2) 0 count) (refl, tt));
    }

jumps_free : (operator : Logical) (cell at n : ℕ) → IsFree (logical_jumps operator cell at n)
jumps_free logical.And cell at n = record { free = (refl, (refl, tt)) }
jumps_free logical.Or cell at n = record { free = (refl, tt) }

mutual
  pub expression_free : (e : TypedExpr) (base cell at : ℕ) → IsFree (expression_code e base cell at)
  expression_free (Constant value) base cell at = record { free = (refl, tt) }
  expression_free (Slot kind slot) base cell at = record { free = (refl, tt) }
  expression_free (Element' kind slot lengths k indexes) base cell at = record {
    free = (refl, (free_joined _ _ (place_free lengths (base + slot) indexes base cell (suc at)) (record { free = (refl, tt) })).free);
  }
  expression_free (Bit' k (more_of-TypedExpr of end_of-TypedExpr) m (more_of-TypedExpr index end_of-TypedExpr)) base cell at =
      free_joined _ _ (expression_free of base cell at)
      (free_joined _ _ (expression_free index base (suc cell) (at + expression_length of)) (record { free = (refl, tt) }))
  expression_free (Slice' k (more_of-TypedExpr of end_of-TypedExpr) start step count) base cell at =
      free_joined _ _ (expression_free of base cell at) (slice_free cell (type_of of) start step count)
  expression_free (Convert' to k (more_of-TypedExpr of end_of-TypedExpr)) base cell at =
      free_joined _ _ (expression_free of base cell at) (record { free = (refl, tt) })
  expression_free (Unary' operator k (more_of-TypedExpr of end_of-TypedExpr)) base cell at =
      free_joined _ _ (expression_free of base cell at) (record { free = (refl, tt) })
  expression_free (Binary' operator k (more_of-TypedExpr left end_of-TypedExpr) m (more_of-TypedExpr right end_of-TypedExpr)) base cell at =
      free_joined _ _ (expression_free left base cell at)
      (free_joined _ _ (expression_free right base (suc cell) (at + expression_length left)) (record { free = (refl, tt) }))
  expression_free (ExactQuotient' k (more_of-TypedExpr left end_of-TypedExpr) m (more_of-TypedExpr right end_of-TypedExpr)) base cell at =
      free_joined _ _ (expression_free left base cell at)
      (free_joined _ _ (expression_free right base (suc cell) (at + expression_length left)) (record { free = (refl, (refl, (refl, tt))) }))
  expression_free (Logical' operator k (more_of-TypedExpr left end_of-TypedExpr) m (more_of-TypedExpr right end_of-TypedExpr)) base cell at =
      free_joined _ _ (expression_free left base cell at)
      (free_joined _ _ (jumps_free operator cell (at + expression_length left) (expression_length right))
      (expression_free right base cell (at + expression_length left + jumps_of operator)))

  pub place_free : {m : _} (lengths : List ℕ) (first : ℕ) (indexes : Row_of-TypedExpr m) (base cell at : ℕ)
      → IsFree (place_code lengths first indexes base cell at)
  place_free [] first indexes base cell at = record { free = tt }
  place_free (n ∷ lengths) first end_of-TypedExpr base cell at = record { free = tt }
  place_free (n ∷ lengths) first (more_of-TypedExpr index rest) base cell at =
      free_joined _ _ (expression_free index base (suc cell) at)
      (free_joined (index_code cell first (type_of index) n) _ (record { free = (refl, (refl, (refl, (refl, (refl, (refl, (refl, tt))))))) })
      (place_free lengths first rest base cell (at + expression_length index + 7)))
