-- Lists by the places of their elements.
use Rattle.std.proofs.Common.{◌≡◌, ◌≢◌, ℕ, zero, suc, ◌<◌, cond, List, [], ◌∷◌, get_or, length, set, inl, inr, refl, sym, ap, subst, ◌∙◌, arith}
use Rattle.std.proofs.lemmas.Bool.Decides.{eqb_tells}
use Rattle.qt_gate_calls.specs.Primitives.{nth_or}
use Rattle.qt_meaning.specs.Values.{slot_at}
use Rattle.qt_code.specs.Cells.{with_cell}
use Rattle.qt_machine.specs.declared.write.Write.{Write}
use Rattle.qt_machine.specs.declared.write.Write.TheVariants.{Cell}
use Rattle.qt_machine.specs.Writes.{IsInside, held, written_cells}

pub cell_found : (cells : List ℕ) (cell : ℕ) → get_or cells cell 0 ≡ slot_at cells cell
cell_found [] cell = refl
cell_found (x ∷ xs) zero = refl
cell_found (x ∷ xs) (suc cell) = cell_found xs cell

pub number_found : (qs : List ℕ) (place : ℕ) → get_or qs place 0 ≡ nth_or 0 place qs
number_found [] place = refl
number_found (q ∷ qs) zero = refl
number_found (q ∷ qs) (suc place) = number_found qs place

held_same : (cells : List ℕ) (cell bits : ℕ) → cell < length cells → held (set cells cell bits) cell ≡ bits
held_same [] cell bits h = absurd (omega arith)
held_same (x ∷ xs) zero bits h = refl
held_same (x ∷ xs) (suc cell) bits h = held_same xs cell bits (omega arith)

held_other : (cells : List ℕ) (cell bits other : ℕ) → cell ≢ other → held (set cells cell bits) other ≡ held cells other
held_other [] cell bits other n = refl
held_other (x ∷ xs) zero bits zero n = absurd (n refl)
held_other (x ∷ xs) zero bits (suc other) n = refl
held_other (x ∷ xs) (suc cell) bits zero n = refl
held_other (x ∷ xs) (suc cell) bits (suc other) n = held_other xs cell bits other (λ e. n (ap suc e))

written_at : (cells : List ℕ) (cell bits : ℕ) → cell < length cells → (other : ℕ) → held (set cells cell bits) other ≡ with_cell cell bits (held cells) other
written_at cells cell bits h other = elim (eqb_tells cell other) [
  | inl e ↦ ap (held (set cells cell bits)) (sym e.1) ∙ held_same cells cell bits h ∙ sym (ap (λ t. cond t bits (held cells other)) e.0)
  | inr n ↦ held_other cells cell bits other n.1 ∙ sym (ap (λ t. cond t bits (held cells other)) n.0)
]

pub cell_written : (cells : List ℕ) (cell bits : ℕ) → cell < length cells → held (set cells cell bits) ≡ with_cell cell bits (held cells)
cell_written cells cell bits h = λ i other. written_at cells cell bits h other i

pub cell_put : (cells : List ℕ) (slots : ℕ) (w : Write) (cell bits : ℕ) → w ≡ Cell cell bits → IsInside (length cells) slots w
    → held (set cells cell bits) ≡ written_cells w (held cells)
cell_put cells slots w cell bits e h =
    let inside : cell < length cells = subst (IsInside (length cells) slots) e h in
    cell_written cells cell bits inside ∙ ap (λ (v : Write). written_cells v (held cells)) (sym e)
