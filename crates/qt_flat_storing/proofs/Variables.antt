-- A variable of a target: the place of an element comes to a cell, and by it the variable is got and put.
use Rattle.std.proofs.Common.{◌≡◌, ℕ, suc, ◌+◌, ◌*◌, ◌^◌, ◌<◌, Ok, Err, List, [], ◌∷◌, ◌++◌, slice_set, refl, ap, ◌∙◌, arith}
use Rattle.qt_ring.proofs.RingLaws.{and_left}
use Rattle.qt_tree.specs.declared.place.Place.{Place}
use Rattle.qt_value.specs.Types.{has_size, is_whole}
use Rattle.qt_typed.specs.Types.{type_of}
use Rattle.qt_typed.specs.declared.expression.TypedExpr.{TypedExpr}
use Rattle.qt_typed.specs.declared.expression.TypedVariable.{TypedVariable}
use Rattle.qt_typed.specs.declared.expression.TypedVariable.TheVariants as variable
use Rattle.qt_meaning.specs.Distribution.{element_count}
use Rattle.qt_meaning.specs.Expressions.{eval}
use Rattle.qt_meaning.specs.Places.{element_of, slot_of}
use Rattle.qt_meaning.specs.Points.{Point, with_result, with_store}
use Rattle.qt_meaning.specs.Values.{Evaluated, and_then, place_in, slot_at}
use Rattle.qt_instructions.specs.declared.instruction.Instr.TheVariants as instr
use Rattle.qt_instructions.specs.declared.parts.Parts.{Parts}
use Rattle.qt_code.specs.Cells.{Cells, with_cell}
use Rattle.qt_code.specs.Tail.{tail}
use Rattle.qt_code.proofs.Steps.{tail_at, tail_with}
use Rattle.qt_flat_code.specs.Lengths.{expression_length, indexes_length, variable_length}
use Rattle.qt_flat_code.specs.Expressions.{expression_code, index_code, operand, place_kind}
use Rattle.qt_flat_code.specs.Storing.{get, indexes_code, put, variable_code}
use Rattle.qt_flat_expressions.specs.Fits.{HasNoEmptyDimension}
use Rattle.qt_flat_expressions.specs.Lands.{StandsAt}
use Rattle.qt_flat_expressions.proofs.Coming.{Comes, cell_holds, cell_keeps, comes_at, comes_same, comes_then}
use Rattle.qt_flat_expressions.proofs.Expressions.{expression_comes, place_after, then_joined}
use Rattle.qt_flat_expressions.proofs.Indexes.{index_comes}
use Rattle.qt_flat_expressions.proofs.Lengths.{Long, expression_long, joined}
use Rattle.qt_flat_expressions.proofs.Places.{whole_place, written}
use Rattle.qt_flat_expressions.proofs.Rooms.{left_of, room_here, room_left}
use Rattle.qt_flat_expressions.proofs.Standing.{stands_behind, stands_first}
use Rattle.qt_flat_expressions.proofs.Stepping.{HasAt, get_step, load_step}
use Rattle.qt_flat_storing.specs.Fits.{AllIndexesFit, VariableFits}
use Rattle.qt_flat_expressions.proofs.Arriving.{Gets, InCell, gets_from, gets_here, gets_then, gets_value}

-- ---- lengths

pub indexes_long : (lengths : List ℕ) (first : ℕ) (indexes : List TypedExpr) (base cell at : ℕ)
    → Long (indexes_code lengths first indexes base cell at) (indexes_length lengths indexes)
indexes_long [] first indexes base cell at = record { long = refl }
indexes_long (n ∷ lengths) first [] base cell at = record { long = refl }
indexes_long (n ∷ lengths) first (index ∷ rest) base cell at =
    joined _ _ _ _ (expression_long index base (suc cell) at)
    (joined (index_code cell first (type_of index) n) _ 7 _ (record { long = refl })
    (indexes_long lengths first rest base cell (at + expression_length index + 7)))

pub variable_long : (v : TypedVariable) (base cell at : ℕ) → Long (variable_code v base cell at) (variable_length v)
variable_long (variable.Slot kind slot) base cell at = record { long = refl }
variable_long (variable.Element kind slot lengths indexes) base cell at =
    let h = indexes_long lengths (base + slot) indexes base cell (suc at) in
    record { long = omega (arith, h.long) }

-- ---- the place of an element is that of one

pub element_of_below : (slots : ℕ) (lengths : List ℕ) (before : ℕ) (indexes : List TypedExpr) (base : ℕ) (store : List ℕ) (place : ℕ)
    → AllIndexesFit slots lengths indexes → element_of lengths before indexes base store ≡ Ok place → place < left_of before lengths
element_of_below slots [] before [] base store place fits e = let same : before ≡ place = cc in omega arith
element_of_below slots [] before (index ∷ rest) base store place fits e = absurd fits
element_of_below slots (n ∷ lengths) before [] base store place fits e = absurd fits
element_of_below slots (n ∷ lengths) before (index ∷ rest) base store place fits e =
    by_value (eval index base store) e (λ j. element_of_below slots lengths (before * n + j) rest base store place fits.2)
  where
    by_place : (v : Evaluated ℕ) → ((j : ℕ) → v ≡ Ok j → j < n) → and_then v (λ j. element_of lengths (before * n + j) rest base store) ≡ Ok place
        → ((j : ℕ) → element_of lengths (before * n + j) rest base store ≡ Ok place → place < left_of (before * n + j) lengths)
        → place < left_of before (n ∷ lengths)
    by_place (Ok j) below g ih =
        let more = room_left before n j lengths (below j refl) in
        let l = ih j g in
        omega arith
    by_place (Err fault) below g ih = cc

    by_value : (v : Evaluated ℕ)
        → and_then v (λ i. and_then (place_in n (type_of index) i) (λ j. element_of lengths (before * n + j) rest base store)) ≡ Ok place
        → ((j : ℕ) → element_of lengths (before * n + j) rest base store ≡ Ok place → place < left_of (before * n + j) lengths)
        → place < left_of before (n ∷ lengths)
    by_value (Ok i) g ih = by_place (place_in n (type_of index) i) (λ j same. (written n (type_of index) i j same).below) g ih
    by_value (Err fault) g ih = cc

-- ---- where a variable is

-- the slot of a variable; that of an element by its place in a cell
abbrev pub PlaceIn : TypedVariable → ℕ → ℕ → ℕ → Cells → Type 0
PlaceIn (variable.Slot kind slot) base cell s new = base + slot ≡ s
PlaceIn (variable.Element kind slot lengths indexes) base cell s new =
    (place : ℕ) × (new cell ≡ place) × (place < element_count lengths) × (base + slot + place ≡ s)

-- it rests on that cell alone
pub place_kept : (v : TypedVariable) (base cell s : ℕ) (old new : Cells) → new cell ≡ old cell → PlaceIn v base cell s old → PlaceIn v base cell s new
place_kept (variable.Slot kind slot) base cell s old new e h = h
place_kept (variable.Element kind slot lengths indexes) base cell s old new e h = (h.0, e ∙ h.1, h.2, h.3)

module _ (code : Parts) (place : Place) (p : Point) (base slots : ℕ) where
  all_indexes_come : (lengths : List ℕ) (slot : ℕ) (indexes : List TypedExpr) → HasNoEmptyDimension lengths
      → AllIndexesFit slots lengths indexes → (before cell at to : ℕ) (cells : Cells) → left_of before lengths < 2 ^ 32
      → StandsAt code place at (indexes_code lengths (base + slot) indexes base cell at) → cells cell ≡ before
      → at + indexes_length lengths indexes ≡ to → Comes code place p at cells to cell (element_of lengths before indexes base p.store)
  all_indexes_come [] slot [] some fits before cell at to cells l h e t = comes_at code place p at cells to cell before e (omega (arith, t))
  all_indexes_come [] slot (index ∷ rest) some fits before cell at to cells l h e t = absurd fits
  all_indexes_come (n ∷ lengths) slot [] some fits before cell at to cells l h e t = absurd fits
  all_indexes_come (n ∷ lengths) slot (index ∷ rest) some fits before cell at to cells l h e t =
      let a = expression_code index base (suc cell) at in
      let mid = at + expression_length index in
      let b = index_code cell (base + slot) (type_of index) n in
      let behind = mid + 7 in
      let c = indexes_code lengths (base + slot) rest base cell behind in
      let later = stands_behind code place at a (b ++ c) (expression_length index) (expression_long index base (suc cell) at).long h in
      let room = room_here before n lengths some l in
      let whole = and_left (is_whole (type_of index)) (has_size (type_of index)) fits.1 in
      let one : cell + 1 ≡ suc cell = omega arith in
      comes_then code place p at cells mid (suc cell) to cell (eval index base p.store)
      (λ i. and_then (place_in n (type_of index) i) (λ j. element_of lengths (before * n + j) rest base p.store)) (omega arith)
      (expression_comes code place p base slots index fits.0 (suc cell) at mid cells (stands_first code place at a (b ++ c) h) refl)
      (λ new i is holds kept.
      comes_same code place p mid new to cell _ _ (then_joined (place_in n (type_of index) i) (λ j. before * n + j)
      (λ j. element_of lengths j rest base p.store))
      (comes_then code place p mid new behind cell to cell (and_then (place_in n (type_of index) i) (λ j. Ok (before * n + j)))
      (λ j. element_of lengths j rest base p.store) (omega arith)
      (index_comes code place p mid cell (base + slot) (type_of index) n i before behind new room whole
      (stands_first code place mid b c later) (kept cell (omega arith) ∙ e) (ap new one ∙ holds) refl)
      (λ newer j it there keeps.
      let fewer = place_after (place_in n (type_of index) i) n (λ x y. (written n (type_of index) i x y).below) before j lengths it in
      all_indexes_come lengths slot rest some.1 fits.2 j cell behind to newer (omega arith)
      (stands_behind code place mid b c 7 refl later) there (omega (arith, t)))))

  pub variable_gets : (v : TypedVariable) → VariableFits slots v → (cell at to : ℕ) (cells : Cells) → StandsAt code place at (variable_code v base cell at)
      → at + variable_length v ≡ to → Gets code place p ℕ at cells to cell (PlaceIn v base cell) (slot_of v base p.store)
  variable_gets (variable.Slot kind slot) fits cell at to cells h t =
      gets_here code place p at cells to cell (PlaceIn (variable.Slot kind slot) base cell) (base + slot) refl (omega (arith, t))
  variable_gets (variable.Element kind slot lengths indexes) fits cell at to cells h t =
      let v = variable.Element kind slot lengths indexes in
      let first = with_cell cell 0 cells in
      let mid = suc at + indexes_length lengths indexes in
      let bound : element_count lengths < 2 ^ 32 = fits.1.2 in
      gets_from code place p at cells (suc at) first to cell (PlaceIn v base cell) _
      (load_step code place p at cell 0 cells h.0)
      (λ other l. cell_keeps cell 0 cells other l)
      (gets_then code place p (suc at) first mid cell to cell (InCell code place p cell) (PlaceIn v base cell)
      (element_of lengths 0 indexes base p.store) (λ n. Ok (base + slot + n)) (omega arith)
      (gets_value code place p (suc at) first mid cell (element_of lengths 0 indexes base p.store)
      (all_indexes_come lengths slot indexes fits.1.0 fits.2 0 cell (suc at) mid first (omega arith) h.1 (cell_holds cell 0 cells) refl))
      (λ new n is holds kept.
      let below = element_of_below slots lengths 0 indexes base p.store n fits.2 is in
      gets_here code place p mid new to cell (PlaceIn v base cell) (base + slot + n) (n, holds, omega arith, refl) (omega (arith, t))))

  pub get_variable : (v : TypedVariable) → VariableFits slots v → (from cell at s : ℕ) (cells : Cells) → HasAt code place at (get v base from cell)
      → PlaceIn v base from s cells → tail code at cells p ≡ tail code (suc at) (with_cell cell (slot_at p.store s) cells) p
  get_variable (variable.Slot kind slot) fits from cell at s cells h e =
      get_step code place p at cell (base + slot) cells h ∙ ap (λ n. tail code (suc at) (with_cell cell (slot_at p.store n) cells) p) e
  get_variable (variable.Element kind slot lengths indexes) fits from cell at s cells h e =
      let count = element_count lengths in
      let first = base + slot in
      let bound : count < 2 ^ 32 = fits.1.2 in
      tail_at code at (instr.GetAt cell first count (operand from place_kind), place) h cells p
      ∙ ap (λ x. with_result (place_in count place_kind x) place (λ m. tail_with code p.fuel (suc at) (with_cell cell (slot_at p.store (first + m)) cells)) p) e.1
      ∙ ap (λ r. with_result r place (λ m. tail_with code p.fuel (suc at) (with_cell cell (slot_at p.store (first + m)) cells)) p)
      (whole_place count e.0 e.2 (omega arith))
      ∙ ap (λ n. tail code (suc at) (with_cell cell (slot_at p.store n) cells) p) e.3

  pub put_variable : (v : TypedVariable) → VariableFits slots v → (from cell at s x : ℕ) (cells : Cells) → HasAt code place at (put v base from cell)
      → PlaceIn v base from s cells → cells cell ≡ x
      → tail code at cells p ≡ tail code (suc at) cells (record p { store = slice_set p.store s x })
  put_variable (variable.Slot kind slot) fits from cell at s x cells h e f =
      tail_at code at (instr.Put (base + slot) cell, place) h cells p
      ∙ ap (λ n. tail code (suc at) cells (record p { store = slice_set p.store n (cells cell) })) e
      ∙ ap (λ y. tail code (suc at) cells (record p { store = slice_set p.store s y })) f
  put_variable (variable.Element kind slot lengths indexes) fits from cell at s x cells h e f =
      let count = element_count lengths in
      let first = base + slot in
      let bound : count < 2 ^ 32 = fits.1.2 in
      tail_at code at (instr.PutAt first count (operand from place_kind) cell, place) h cells p
      ∙ ap (λ y. with_result (place_in count place_kind y) place (λ m q. tail_with code p.fuel (suc at) cells (with_store (λ st. slice_set st (first + m) (cells cell)) q)) p) e.1
      ∙ ap (λ r. with_result r place (λ m q. tail_with code p.fuel (suc at) cells (with_store (λ st. slice_set st (first + m) (cells cell)) q)) p)
      (whole_place count e.0 e.2 (omega arith))
      ∙ ap (λ n. tail code (suc at) cells (record p { store = slice_set p.store n (cells cell) })) e.3
      ∙ ap (λ y. tail code (suc at) cells (record p { store = slice_set p.store s y })) f
