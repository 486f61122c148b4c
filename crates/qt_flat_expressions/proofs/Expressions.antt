-- The code of an expression lands: its value comes to its cell, or the run ends in its first fault.
use Rattle.std.proofs.Common.{◌≡◌, ℕ, suc, ◌+◌, ◌*◌, ◌^◌, ◌<◌, ◌≤◌, Ok, Err, List, [], ◌∷◌, ◌++◌, refl, ap, subst, ◌∙◌, arith}
use Rattle.std.specs.Int.{bit_at}
use Rattle.qt_ring.proofs.RingLaws.{and_left}
use Rattle.qt_tree.specs.declared.place.Place.{Place}
use Rattle.qt_value.specs.Types.{has_size, is_whole, width_of}
use Rattle.qt_value.specs.declared.types.ValueType.{ValueType}
use Rattle.qt_typed.specs.Types.{type_of}
use Rattle.qt_typed.specs.declared.expression.TypedExpr.{TypedExpr, Row_of-TypedExpr, end_of-TypedExpr, more_of-TypedExpr}
use Rattle.qt_typed.specs.declared.expression.TypedExpr.TheVariants.{Constant, Slot, Element', Bit', Slice', Convert', Unary', Binary', ExactQuotient', Logical'}
use Rattle.qt_meaning.specs.Distribution.{element_count}
use Rattle.qt_meaning.specs.Expressions.{decided, element, eval}
use Rattle.qt_meaning.specs.Points.{Point, with_result}
use Rattle.qt_meaning.specs.Values.{Evaluated, and_then, converted_to, divided_exactly, is_true, operated, operated_alone, place_in, slice_of, slot_at}
use Rattle.qt_instructions.specs.declared.instruction.Operation.TheVariants as operation
use Rattle.qt_instructions.specs.declared.instruction.Instr.{Instr}
use Rattle.qt_instructions.specs.declared.instruction.Instr.TheVariants as instr
use Rattle.qt_instructions.specs.declared.parts.Parts.{Parts}
use Rattle.qt_code.specs.Cells.{Cells, with_cell}
use Rattle.qt_code.specs.Tail.{tail}
use Rattle.qt_code.proofs.Steps.{tail_at, tail_with}
use Rattle.qt_flat_code.specs.Lengths.{expression_length, jumps_of, place_length}
use Rattle.qt_flat_code.specs.Expressions.{binary, exact_code, expression_code, index_code, logical_jumps, operand, place_code, place_kind, slice_code}
use Rattle.qt_flat_expressions.specs.Fits.{ExpressionFits, HasNoEmptyDimension, IndexesFit}
use Rattle.qt_flat_expressions.specs.Lands.{StandsAt}
use Rattle.qt_flat_expressions.proofs.Coming.{Comes, cell_holds, cell_keeps, comes_at, comes_from, comes_then, comes_written, comes_same}
use Rattle.qt_flat_expressions.proofs.Indexes.{index_comes}
use Rattle.qt_flat_expressions.proofs.Lengths.{expression_long, jumps_long, place_long}
use Rattle.qt_flat_expressions.proofs.Operators.{apply_comes, binary_comes, exact_comes, logical_comes}
use Rattle.qt_flat_expressions.proofs.Places.{whole_place, written}
use Rattle.qt_flat_expressions.proofs.Rooms.{element_below, left_of, room_here, room_left}
use Rattle.qt_flat_expressions.proofs.Sized.{narrow, type_sized}
use Rattle.qt_flat_expressions.proofs.Slices.{slice_comes}
use Rattle.qt_flat_expressions.proofs.Standing.{stands_behind, stands_first}
use Rattle.qt_flat_expressions.proofs.Stepping.{get_step, load_step}

pub then_joined : (v : Evaluated ℕ) (f : ℕ → ℕ) (rest : ℕ → Evaluated ℕ) → and_then (and_then v (λ j. Ok (f j))) rest ≡ and_then v (λ j. rest (f j))
then_joined (Ok j) f rest = refl
then_joined (Err fault) f rest = refl

pub place_after : (v : Evaluated ℕ) (n : ℕ) → ((j : ℕ) → v ≡ Ok j → j < n) → (before x : ℕ) (lengths : List ℕ)
    → and_then v (λ j. Ok (before * n + j)) ≡ Ok x → left_of x lengths ≤ left_of before (n ∷ lengths)
place_after (Ok j) n below before x lengths e =
    let same : before * n + j ≡ x = cc in
    subst (λ y. left_of y lengths ≤ left_of before (n ∷ lengths)) same (room_left before n j lengths (below j refl))
place_after (Err fault) n below before x lengths e = cc

module _ (code : Parts) (place : Place) (p : Point) where
  -- ---- values that are read

  pub loaded_comes : (at cell bits : ℕ) (is : List Instr) (to : ℕ) (cells : Cells) → StandsAt code place at (instr.Load cell bits ∷ is) → suc at ≡ to
      → Comes code place p at cells to cell (Ok bits)
  loaded_comes at cell bits is to cells h e =
      comes_written code place p at cells to cell (Ok bits) e (load_step code place p at cell bits cells h.0)

  pub got_comes : (at cell slot to : ℕ) (is : List Instr) (cells : Cells) → StandsAt code place at (instr.Get cell slot ∷ is) → suc at ≡ to
      → Comes code place p at cells to cell (Ok (slot_at p.store slot))
  got_comes at cell slot to is cells h e =
      comes_written code place p at cells to cell (Ok (slot_at p.store slot)) e (get_step code place p at cell slot cells h.0)

  -- one of so many slots, whose place stands in a cell
  pub element_got : (at cell from first count n to : ℕ) (is : List Instr) (cells : Cells)
      → StandsAt code place at (instr.GetAt cell first count (operand from place_kind) ∷ is) → cells from ≡ n → n < count → count < 2 ^ 63
      → suc at ≡ to → Comes code place p at cells to cell (Ok (slot_at p.store (first + n)))
  element_got at cell from first count n to is cells h e l b t =
      comes_written code place p at cells to cell (Ok (slot_at p.store (first + n))) t
      (tail_at code at (instr.GetAt cell first count (operand from place_kind), place) h.0 cells p
      ∙ ap (λ x. with_result (place_in count place_kind x) place (λ m. tail_with code p.fuel (suc at) (with_cell cell (slot_at p.store (first + m)) cells)) p) e
      ∙ ap (λ r. with_result r place (λ m. tail_with code p.fuel (suc at) (with_cell cell (slot_at p.store (first + m)) cells)) p)
      (whole_place count n l b))

  cast_comes : (at cell to x : ℕ) (of kind : ValueType) (cells : Cells) → StandsAt code place at (instr.Cast cell (operand cell of) kind ∷ [])
      → cells cell ≡ x → suc at ≡ to → Comes code place p at cells to cell (Ok (converted_to kind of x))
  cast_comes at cell to x of kind cells h e t =
      comes_written code place p at cells to cell (Ok (converted_to kind of x)) t
      (tail_at code at (instr.Cast cell (operand cell of) kind, place) h.0 cells p
      ∙ ap (λ y. tail code (suc at) (with_cell cell (converted_to kind of y) cells) p) e)

  bit_then : (v : Evaluated ℕ) (at cell x : ℕ) (cells : Cells)
      → with_result v place (λ n. tail_with code p.fuel (suc at) (with_cell cell (bit_at x n) cells)) p
      ≡ with_result (and_then v (λ n. Ok (bit_at x n))) place (λ y. tail_with code p.fuel (suc at) (with_cell cell y cells)) p
  bit_then (Ok n) at cell x cells = refl
  bit_then (Err fault) at cell x cells = refl

  bit_comes : (at cell to x i : ℕ) (of by : ValueType) (cells : Cells)
      → StandsAt code place at (instr.BitGet cell (operand cell of) (operand (suc cell) by) ∷ []) → cells cell ≡ x → cells (suc cell) ≡ i
      → suc at ≡ to → Comes code place p at cells to cell (and_then (place_in (width_of of) by i) (λ n. Ok (bit_at x n)))
  bit_comes at cell to x i of by cells h e f t =
      comes_written code place p at cells to cell (and_then (place_in (width_of of) by i) (λ n. Ok (bit_at x n))) t
      (tail_at code at (instr.BitGet cell (operand cell of) (operand (suc cell) by), place) h.0 cells p
      ∙ ap (λ j. with_result (place_in (width_of of) by j) place (λ n. tail_with code p.fuel (suc at) (with_cell cell (bit_at (cells cell) n) cells)) p) f
      ∙ ap (λ y. with_result (place_in (width_of of) by i) place (λ n. tail_with code p.fuel (suc at) (with_cell cell (bit_at y n) cells)) p) e
      ∙ bit_then (place_in (width_of of) by i) at cell x cells)

  -- both operands, one after the other, and what is made of them
  both_come : (at mid behind to cell : ℕ) (cells : Cells) (left right : Evaluated ℕ) (v : ℕ → ℕ → Evaluated ℕ)
      → Comes code place p at cells mid cell left → ((new : Cells) → Comes code place p mid new behind (suc cell) right)
      → ((new : Cells) (x y : ℕ) → new cell ≡ x → new (suc cell) ≡ y → Comes code place p behind new to cell (v x y))
      → Comes code place p at cells to cell (and_then left (λ x. and_then right (v x)))
  both_come at mid behind to cell cells left right v first second last =
      comes_then code place p at cells mid cell to cell left (λ x. and_then right (v x)) (omega arith) first
      (λ new x is holds kept.
      comes_then code place p mid new behind (suc cell) to cell right (v x) (omega arith) (second new)
      (λ newer y it there keeps. last newer x y (keeps cell (omega arith) ∙ holds) there))

  -- ---- expressions

  module _ (base slots : ℕ) where
    mutual
      pub expression_comes : (e : TypedExpr) → ExpressionFits slots e → (cell at to : ℕ) (cells : Cells)
          → StandsAt code place at (expression_code e base cell at) → at + expression_length e ≡ to
          → Comes code place p at cells to cell (eval e base p.store)
      expression_comes (Constant value) fits cell at to cells h t = loaded_comes at cell value.bits [] to cells h (omega (arith, t))
      expression_comes (Slot kind slot) fits cell at to cells h t = got_comes at cell (base + slot) to [] cells h (omega (arith, t))
      expression_comes (Element' kind slot lengths k indexes) fits cell at to cells h t =
          let places = place_code lengths (base + slot) indexes base cell (suc at) in
          let get : List Instr = instr.GetAt cell (base + slot) (element_count lengths) (operand cell place_kind) ∷ [] in
          let first = with_cell cell 0 cells in
          let mid = suc at + place_length lengths indexes in
          let bound : element_count lengths < 2 ^ 32 = fits.1.2 in
          comes_from code place p at cells (suc at) first to cell _
          (load_step code place p at cell 0 cells h.0)
          (λ other l. cell_keeps cell 0 cells other l)
          (comes_then code place p (suc at) first mid cell to cell (element lengths 0 indexes base p.store)
          (λ n. Ok (slot_at p.store (base + slot + n))) (omega arith)
          (place_comes lengths slot indexes fits.1.0 fits.2 0 cell (suc at) mid first (omega arith)
          (stands_first code place (suc at) places get h.1) (cell_holds cell 0 cells) refl)
          (λ new n is holds kept.
          let below = element_below slots lengths 0 indexes base p.store n fits.2 is in
          element_got mid cell cell (base + slot) (element_count lengths) n to [] new
          (stands_behind code place (suc at) places get (place_length lengths indexes) (place_long lengths (base + slot) indexes base cell (suc at)).long h.1)
          holds (omega arith) (omega arith) (omega (arith, t))))
      expression_comes (Bit' k (more_of-TypedExpr of end_of-TypedExpr) m (more_of-TypedExpr index end_of-TypedExpr)) fits cell at to cells h t =
          let a = expression_code of base cell at in
          let mid = at + expression_length of in
          let b = expression_code index base (suc cell) mid in
          let last : List Instr = instr.BitGet cell (operand cell (type_of of)) (operand (suc cell) (type_of index)) ∷ [] in
          let behind = mid + expression_length index in
          let later = stands_behind code place at a (b ++ last) (expression_length of) (expression_long of base cell at).long h in
          comes_then code place p at cells mid cell to cell (eval of base p.store)
          (λ x. and_then (eval index base p.store) (λ i. and_then (place_in (width_of (type_of of)) (type_of index) i) (λ n. Ok (bit_at x n))))
          (omega arith)
          (expression_comes of fits.0 cell at mid cells (stands_first code place at a (b ++ last) h) refl)
          (λ new x is holds kept.
          comes_then code place p mid new behind (suc cell) to cell (eval index base p.store)
          (λ i. and_then (place_in (width_of (type_of of)) (type_of index) i) (λ n. Ok (bit_at x n))) (omega arith)
          (expression_comes index fits.1 (suc cell) mid behind new (stands_first code place mid b last later) refl)
          (λ newer i it there keeps.
          bit_comes behind cell to x i (type_of of) (type_of index) newer
          (stands_behind code place mid b last (expression_length index) (expression_long index base (suc cell) mid).long later)
          (keeps cell (omega arith) ∙ holds) there (omega (arith, t))))
      expression_comes (Slice' k (more_of-TypedExpr of end_of-TypedExpr) start step count) fits cell at to cells h t =
          let a = expression_code of base cell at in
          let mid = at + expression_length of in
          let b = slice_code cell (type_of of) start step count in
          comes_then code place p at cells mid cell to cell (eval of base p.store) (λ x. Ok (slice_of x start step count)) (omega arith)
          (expression_comes of fits.0 cell at mid cells (stands_first code place at a b h) refl)
          (λ new x is holds kept.
          slice_comes code place p mid cell (type_of of) start step count x to new fits.1
          (narrow (type_of of) (type_sized slots of fits.0))
          (stands_behind code place at a b (expression_length of) (expression_long of base cell at).long h) holds (omega (arith, t)))
      expression_comes (Convert' kind k (more_of-TypedExpr of end_of-TypedExpr)) fits cell at to cells h t =
          let a = expression_code of base cell at in
          let mid = at + expression_length of in
          let b : List Instr = instr.Cast cell (operand cell (type_of of)) kind ∷ [] in
          comes_then code place p at cells mid cell to cell (eval of base p.store) (λ x. Ok (converted_to kind (type_of of) x)) (omega arith)
          (expression_comes of fits.0 cell at mid cells (stands_first code place at a b h) refl)
          (λ new x is holds kept.
          cast_comes mid cell to x (type_of of) kind new
          (stands_behind code place at a b (expression_length of) (expression_long of base cell at).long h) holds (omega (arith, t)))
      expression_comes (Unary' operator k (more_of-TypedExpr of end_of-TypedExpr)) fits cell at to cells h t =
          let a = expression_code of base cell at in
          let mid = at + expression_length of in
          let o = operation.Unary operator (operand cell (type_of of)) in
          let b : List Instr = instr.Apply cell o ∷ [] in
          comes_then code place p at cells mid cell to cell (eval of base p.store) (λ x. Ok (operated_alone operator (type_of of) x)) (omega arith)
          (expression_comes of fits.0 cell at mid cells (stands_first code place at a b h) refl)
          (λ new x is holds kept.
          apply_comes code place p mid new to cell o (Ok (operated_alone operator (type_of of) x)) (omega (arith, t))
          (stands_behind code place at a b (expression_length of) (expression_long of base cell at).long h)
          (ap (λ y. Ok (operated_alone operator (type_of of) y)) holds))
      expression_comes (Binary' operator k (more_of-TypedExpr left end_of-TypedExpr) m (more_of-TypedExpr right end_of-TypedExpr)) fits cell at
          to cells h t =
          let a = expression_code left base cell at in
          let mid = at + expression_length left in
          let b = expression_code right base (suc cell) mid in
          let last : List Instr = binary cell operator (operand cell (type_of left)) (operand (suc cell) (type_of right)) ∷ [] in
          let behind = mid + expression_length right in
          let later = stands_behind code place at a (b ++ last) (expression_length left) (expression_long left base cell at).long h in
          let end = stands_behind code place mid b last (expression_length right) (expression_long right base (suc cell) mid).long later in
          both_come at mid behind to cell cells (eval left base p.store) (eval right base p.store) (operated operator (type_of left) (type_of right))
          (expression_comes left fits.0 cell at mid cells (stands_first code place at a (b ++ last) h) refl)
          (λ new. expression_comes right fits.1 (suc cell) mid behind new (stands_first code place mid b last later) refl)
          (λ new x y holds there.
          binary_comes code place p behind new to cell (suc cell) cell operator (type_of left) (type_of right) x y (omega (arith, t)) end holds there)
      expression_comes (ExactQuotient' k (more_of-TypedExpr left end_of-TypedExpr) m (more_of-TypedExpr right end_of-TypedExpr)) fits cell at
          to cells h t =
          let a = expression_code left base cell at in
          let mid = at + expression_length left in
          let b = expression_code right base (suc cell) mid in
          let last = exact_code cell (type_of left) (type_of right) in
          let behind = mid + expression_length right in
          let later = stands_behind code place at a (b ++ last) (expression_length left) (expression_long left base cell at).long h in
          let end = stands_behind code place mid b last (expression_length right) (expression_long right base (suc cell) mid).long later in
          let one : cell + 1 ≡ suc cell = omega arith in
          both_come at mid behind to cell cells (eval left base p.store) (eval right base p.store) (divided_exactly (type_of left) (type_of right))
          (expression_comes left fits.0 cell at mid cells (stands_first code place at a (b ++ last) h) refl)
          (λ new. expression_comes right fits.1 (suc cell) mid behind new (stands_first code place mid b last later) refl)
          (λ new x y holds there.
          exact_comes code place p behind new to cell (type_of left) (type_of right) x y (omega (arith, t)) end holds (ap new one ∙ there))
      expression_comes (Logical' operator k (more_of-TypedExpr left end_of-TypedExpr) m (more_of-TypedExpr right end_of-TypedExpr)) fits cell at
          to cells h t =
          let a = expression_code left base cell at in
          let mid = at + expression_length left in
          let jumps = logical_jumps operator cell mid (expression_length right) in
          let behind = mid + jumps_of operator in
          let b = expression_code right base cell behind in
          let later = stands_behind code place at a (jumps ++ b) (expression_length left) (expression_long left base cell at).long h in
          comes_then code place p at cells mid cell to cell (eval left base p.store)
          (λ x. decided operator (is_true x) x (eval right base p.store)) (omega arith)
          (expression_comes left fits.0 cell at mid cells (stands_first code place at a (jumps ++ b) h) refl)
          (λ new x is holds kept.
          logical_comes code place p operator (is_true x) mid new to cell (expression_length right) x (eval right base p.store)
          (stands_first code place mid jumps b later) (ap is_true holds) holds (omega (arith, t))
          (expression_comes right fits.1 cell behind to new
          (stands_behind code place mid jumps b (jumps_of operator) (jumps_long operator cell mid (expression_length right)).long later)
          (omega (arith, t))))

      -- the place of an element behind those that the indexes before leave out
      pub place_comes : {m : _} (lengths : List ℕ) (slot : ℕ) (indexes : Row_of-TypedExpr m) → HasNoEmptyDimension lengths
          → IndexesFit slots lengths indexes → (before cell at to : ℕ) (cells : Cells) → left_of before lengths < 2 ^ 32
          → StandsAt code place at (place_code lengths (base + slot) indexes base cell at) → cells cell ≡ before
          → at + place_length lengths indexes ≡ to → Comes code place p at cells to cell (element lengths before indexes base p.store)
      place_comes [] slot indexes some fits before cell at to cells l h e t =
          comes_at code place p at cells to cell before e (omega (arith, t))
      place_comes (n ∷ lengths) slot end_of-TypedExpr some fits before cell at to cells l h e t = absurd fits
      place_comes (n ∷ lengths) slot (more_of-TypedExpr index rest) some fits before cell at to cells l h e t =
          let a = expression_code index base (suc cell) at in
          let mid = at + expression_length index in
          let b = index_code cell (base + slot) (type_of index) n in
          let behind = mid + 7 in
          let c = place_code lengths (base + slot) rest base cell behind in
          let later = stands_behind code place at a (b ++ c) (expression_length index) (expression_long index base (suc cell) at).long h in
          let room = room_here before n lengths some l in
          let whole = and_left (is_whole (type_of index)) (has_size (type_of index)) fits.1 in
          let one : cell + 1 ≡ suc cell = omega arith in
          comes_then code place p at cells mid (suc cell) to cell (eval index base p.store)
          (λ i. and_then (place_in n (type_of index) i) (λ j. element lengths (before * n + j) rest base p.store)) (omega arith)
          (expression_comes index fits.0 (suc cell) at mid cells (stands_first code place at a (b ++ c) h) refl)
          (λ new i is holds kept.
          comes_same code place p mid new to cell _ _ (then_joined (place_in n (type_of index) i) (λ j. before * n + j)
          (λ j. element lengths j rest base p.store))
          (comes_then code place p mid new behind cell to cell (and_then (place_in n (type_of index) i) (λ j. Ok (before * n + j)))
          (λ j. element lengths j rest base p.store) (omega arith)
          (index_comes code place p mid cell (base + slot) (type_of index) n i before behind new room whole
          (stands_first code place mid b c later) (kept cell (omega arith) ∙ e) (ap new one ∙ holds) refl)
          (λ newer j it there keeps.
          let fewer = place_after (place_in n (type_of index) i) n (λ x y. (written n (type_of index) i x y).below) before j lengths it in
          place_comes lengths slot rest some.1 fits.2 j cell behind to newer (omega arith)
          (stands_behind code place mid b c 7 refl later) there (omega (arith, t)))))
