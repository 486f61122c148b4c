-- Pieces of code that bring something to work cells, one after another.
use Rattle.std.proofs.Common.{◌≡◌, ℕ, ◌≤◌, Ok, Err, refl, ap, subst, ◌∙◌}
use Rattle.qt_tree.specs.declared.place.Place.{Place}
use Rattle.qt_meaning.specs.Points.{Faulted, Point, leaf}
use Rattle.qt_meaning.specs.Values.{Evaluated, and_then}
use Rattle.qt_instructions.specs.declared.parts.Parts.{Parts}
use Rattle.qt_code.specs.Cells.{Cells}
use Rattle.qt_code.specs.Tail.{tail}
use Rattle.qt_flat_expressions.specs.Lands.{KeepsBelow, Reaches}
use Rattle.qt_flat_expressions.proofs.Coming.{Comes, keeps_all, keeps_both, keeps_fewer}

module _ (code : Parts) (place : Place) (p : Point) where
  -- the run comes to an instruction, with cells of which something holds, and which are as before below a number
  pub record Arrives (at : ℕ) (cells : Cells) (to below : ℕ) (Holds : Cells → Type 0) : Type 0 where
    pub new : Cells
    pub holds : Holds new
    pub kept : KeepsBelow below cells new
    pub same : tail code at cells p ≡ tail code to new p

  abbrev pub Arrival : {A : Type 0} → ℕ → Cells → ℕ → ℕ → (A → Cells → Type 0) → Evaluated A → Type 0
  Arrival at cells to below Holds (Ok a) = Arrives at cells to below (Holds a)
  Arrival at cells to below Holds (Err fault) = tail code at cells p ≡ leaf (Faulted fault place) p

  -- or it ends in the fault; a record, so that its arguments are found
  pub record Gets (A : Type 0) (at : ℕ) (cells : Cells) (to below : ℕ) (Holds : A → Cells → Type 0) (v : Evaluated A) : Type 0 where
    pub out : Arrival at cells to below Holds v

  pub gets_here : {A : Type 0} (at : ℕ) (cells : Cells) (to below : ℕ) (H : A → Cells → Type 0) (a : A) → H a cells → at ≡ to
      → Gets A at cells to below H (Ok a)
  gets_here at cells to below H a h e = record {
    out = record { new = cells; holds = h; kept = keeps_all below cells; same = ap (λ n. tail code n cells p) e };
  }

  pub gets_from : {A : Type 0} (at : ℕ) (cells : Cells) (mid : ℕ) (new : Cells) (to below : ℕ) (H : A → Cells → Type 0) (v : Evaluated A)
      → tail code at cells p ≡ tail code mid new p → KeepsBelow below cells new → Gets A mid new to below H v → Gets A at cells to below H v
  gets_from at cells mid new to below H (Ok a) e k g =
      let r : Arrives mid new to below (H a) = g.out in
      record { out = record { new = r.new; holds = r.holds; kept = keeps_both below cells new r.new k r.kept; same = e ∙ r.same } }
  gets_from at cells mid new to below H (Err fault) e k g = record { out = e ∙ g.out }

  -- one after the other
  pub gets_then : {A B : Type 0} (at : ℕ) (cells : Cells) (mid c to d : ℕ) (G : A → Cells → Type 0) (H : B → Cells → Type 0) (v : Evaluated A)
      (rest : A → Evaluated B) → d ≤ c → Gets A at cells mid c G v
      → ((new : Cells) (a : A) → v ≡ Ok a → G a new → KeepsBelow c cells new → Gets B mid new to d H (rest a))
      → Gets B at cells to d H (and_then v rest)
  gets_then at cells mid c to d G H (Ok a) rest le g h =
      let r : Arrives at cells mid c (G a) = g.out in
      gets_from at cells mid r.new to d H (rest a) r.same (keeps_fewer c d cells r.new le r.kept) (h r.new a refl r.holds r.kept)
  gets_then at cells mid c to d G H (Err fault) rest le g h = record { out = g.out }

  -- with fewer cells as before
  pub gets_fewer : {A : Type 0} (at : ℕ) (cells : Cells) (to c d : ℕ) (H : A → Cells → Type 0) (v : Evaluated A) → d ≤ c
      → Gets A at cells to c H v → Gets A at cells to d H v
  gets_fewer at cells to c d H (Ok a) le g =
      let r : Arrives at cells to c (H a) = g.out in
      record { out = record { new = r.new; holds = r.holds; kept = keeps_fewer c d cells r.new le r.kept; same = r.same } }
  gets_fewer at cells to c d H (Err fault) le g = record { out = g.out }

  pub gets_same : {A : Type 0} (at : ℕ) (cells : Cells) (to below : ℕ) (H : A → Cells → Type 0) (v w : Evaluated A) → v ≡ w
      → Gets A at cells to below H v → Gets A at cells to below H w
  gets_same at cells to below H v w e g = subst (λ u. Gets _ at cells to below H u) e g

  -- of the cells something else holds as well
  pub gets_other : {A : Type 0} (at : ℕ) (cells : Cells) (to below : ℕ) (G H : A → Cells → Type 0) (v : Evaluated A)
      → ((new : Cells) (a : A) → v ≡ Ok a → G a new → KeepsBelow below cells new → H a new)
      → Gets A at cells to below G v → Gets A at cells to below H v
  gets_other at cells to below G H (Ok a) f g =
      let r : Arrives at cells to below (G a) = g.out in
      record { out = record { new = r.new; holds = f r.new a refl r.holds r.kept; kept = r.kept; same = r.same } }
  gets_other at cells to below G H (Err fault) f g = record { out = g.out }

  -- a value in a cell
  abbrev pub InCell : ℕ → ℕ → Cells → Type 0
  InCell cell x new = new cell ≡ x

  pub gets_value : (at : ℕ) (cells : Cells) (to cell : ℕ) (v : Evaluated ℕ) → Comes code place p at cells to cell v
      → Gets ℕ at cells to cell (InCell cell) v
  gets_value at cells to cell (Ok x) c =
      let r : Reaches code p at cells p to cell x = c.out in
      record { out = record { new = r.new; holds = r.holds; kept = r.kept; same = r.same } }
  gets_value at cells to cell (Err fault) c = record { out = c.out }
