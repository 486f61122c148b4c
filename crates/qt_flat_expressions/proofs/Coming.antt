-- How pieces that land are put together.
use Rattle.std.proofs.Common.{◌≡◌, ℕ, suc, ◌<◌, ◌≤◌, nat_eq, true, false, if◌then◌else◌, Ok, Err, refl, ap, subst, ◌∙◌, arith, rules}
use Rattle.qt_tree.specs.declared.place.Place.{Place}
use Rattle.qt_meaning.specs.Points.{Point, Run, with_result}
use Rattle.qt_meaning.specs.Values.{Evaluated, and_then}
use Rattle.qt_instructions.specs.declared.parts.Parts.{Parts}
use Rattle.qt_code.specs.Cells.{Cells, with_cell}
use Rattle.qt_code.specs.Tail.{tail}
use Rattle.qt_code.proofs.Steps.{tail_with}
use Rattle.qt_flat_expressions.specs.Lands.{KeepsBelow, Outcome, Reaches}

-- ---- cells

same_self : (c : ℕ) → nat_eq c c ≡ true
same_self c = search rules

not_same : (c d : ℕ) → d < c → nat_eq c d ≡ false
not_same c d h = grind arith

pub cell_holds : (cell bits : ℕ) (cells : Cells) → with_cell cell bits cells cell ≡ bits
cell_holds cell bits cells = ap (λ b. if b then bits else cells cell) (same_self cell)

pub cell_keeps : (cell bits : ℕ) (cells : Cells) (other : ℕ) → other < cell → with_cell cell bits cells other ≡ cells other
cell_keeps cell bits cells other h = ap (λ b. if b then bits else cells other) (not_same cell other h)

pub keeps_fewer : (c d : ℕ) (old new : Cells) → d ≤ c → KeepsBelow c old new → KeepsBelow d old new
keeps_fewer c d old new le h = λ other lt. h other (omega arith)

pub keeps_all : (c : ℕ) (cells : Cells) → KeepsBelow c cells cells
keeps_all c cells = λ other lt. refl

pub keeps_written : (c cell bits : ℕ) (cells : Cells) → c ≤ cell → KeepsBelow c cells (with_cell cell bits cells)
keeps_written c cell bits cells le = λ other lt. cell_keeps cell bits cells other (omega arith)

pub keeps_both : (c : ℕ) (old mid new : Cells) → KeepsBelow c old mid → KeepsBelow c mid new → KeepsBelow c old new
keeps_both c old mid new h g = λ other lt. g other lt ∙ h other lt

-- ---- outcomes from a point

module _ (code : Parts) (place : Place) (p : Point) where
  -- a record, so that its arguments are found
  pub record Comes (at : ℕ) (cells : Cells) (to cell : ℕ) (v : Evaluated ℕ) : Type 0 where
    pub out : Outcome code place p at cells to cell v

  pub comes_at : (at : ℕ) (cells : Cells) (to cell value : ℕ) → cells cell ≡ value → at ≡ to → Comes at cells to cell (Ok value)
  comes_at at cells to cell value h e = record {
    out = record {
      new = cells;
      holds = h;
      kept = keeps_all cell cells;
      same = ap (λ n. tail code n cells p) e;
    };
  }

  -- after a step
  pub comes_from : (at : ℕ) (cells : Cells) (mid : ℕ) (new : Cells) (to cell : ℕ) (v : Evaluated ℕ) → tail code at cells p ≡ tail code mid new p
      → KeepsBelow cell cells new → Comes mid new to cell v → Comes at cells to cell v
  comes_from at cells mid new to cell (Ok value) e k c =
      let r : Reaches code p mid new p to cell value = c.out in
      record { out = record { new = r.new; holds = r.holds; kept = keeps_both cell cells new r.new k r.kept; same = e ∙ r.same } }
  comes_from at cells mid new to cell (Err fault) e k c = record { out = e ∙ c.out }

  -- one after the other
  pub comes_then : (at : ℕ) (cells : Cells) (mid c to d : ℕ) (v : Evaluated ℕ) (rest : ℕ → Evaluated ℕ) → d ≤ c → Comes at cells mid c v
      → ((new : Cells) (x : ℕ) → v ≡ Ok x → new c ≡ x → KeepsBelow c cells new → Comes mid new to d (rest x))
      → Comes at cells to d (and_then v rest)
  comes_then at cells mid c to d (Ok x) rest le h g =
      let r : Reaches code p at cells p mid c x = h.out in
      comes_from at cells mid r.new to d (rest x) r.same (keeps_fewer c d cells r.new le r.kept) (g r.new x refl r.holds r.kept)
  comes_then at cells mid c to d (Err fault) rest le h g = record { out = h.out }

  -- an instruction that writes a result
  pub comes_written : (at : ℕ) (cells : Cells) (to cell : ℕ) (v : Evaluated ℕ) → suc at ≡ to
      → tail code at cells p ≡ with_result v place (λ x. tail_with code p.fuel (suc at) (with_cell cell x cells)) p → Comes at cells to cell v
  comes_written at cells to cell (Ok x) e h = record {
    out = record {
      new = with_cell cell x cells;
      holds = cell_holds cell x cells;
      kept = keeps_written cell cell x cells (omega arith);
      same = h ∙ ap (λ n. tail code n (with_cell cell x cells) p) e;
    };
  }
  comes_written at cells to cell (Err fault) e h = record { out = h }

  pub comes_same : (at : ℕ) (cells : Cells) (to cell : ℕ) (v w : Evaluated ℕ) → v ≡ w → Comes at cells to cell v → Comes at cells to cell w
  comes_same at cells to cell v w e c = subst (λ u. Comes at cells to cell u) e c

  pub comes_before : (at : ℕ) (cells : Cells) (to n cell : ℕ) (v : Evaluated ℕ) → to ≡ n → Comes at cells to cell v → Comes at cells n cell v
  comes_before at cells to n cell v e c = subst (λ m. Comes at cells m cell v) e c

-- what follows a value, as a run
pub comes_followed : (code : Parts) (place : Place) (p : Point) (at : ℕ) (cells : Cells) (to cell : ℕ) (v : Evaluated ℕ) (next : ℕ → Run)
    → Outcome code place p at cells to cell v
    → ((new : Cells) (x : ℕ) → v ≡ Ok x → new cell ≡ x → KeepsBelow cell cells new → tail code to new p ≡ next x p)
    → tail code at cells p ≡ with_result v place next p
comes_followed code place p at cells to cell (Ok x) next r g = r.same ∙ g r.new x refl r.holds r.kept
comes_followed code place p at cells to cell (Err fault) next r g = r
