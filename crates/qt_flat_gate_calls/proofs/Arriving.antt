-- What follows pieces of code that bring something to work cells.
use Rattle.std.proofs.Common.{◌≡◌, ℕ, Ok, Err, refl}
use Rattle.qt_tree.specs.declared.place.Place.{Place}
use Rattle.qt_meaning.specs.Points.{Point, Run, then_do, with_result}
use Rattle.qt_meaning.specs.Values.{Evaluated}
use Rattle.qt_instructions.specs.declared.parts.Parts.{Parts}
use Rattle.qt_code.specs.Cells.{Cells}
use Rattle.qt_code.specs.Tail.{tail}
use Rattle.qt_flat_expressions.specs.Lands.{KeepsBelow}
use Rattle.qt_flat_expressions.proofs.Arriving.{Arrives, Gets}
use Rattle.qt_gate_call_laws.specs.Seen.{LookAlike}
use Rattle.qt_gate_call_laws.proofs.Leaves.{alike, alike_then}

module _ (code : Parts) (place : Place) (p : Point) where
  -- what follows, as a run
  pub gets_followed : {A : Type 0} (at : ℕ) (cells : Cells) (to below : ℕ) (H : A → Cells → Type 0) (v : Evaluated A) (run : A → Run) (next : Run)
      → Gets code place p A at cells to below H v
      → ((new : Cells) (a : A) → v ≡ Ok a → H a new → KeepsBelow below cells new → LookAlike (tail code to new p) (then_do (run a) next p))
      → LookAlike (tail code at cells p) (then_do (with_result v place run) next p)
  gets_followed at cells to below H (Ok a) run next g h =
      let r : Arrives code place p at cells to below (H a) = g.out in
      alike_then (alike _ _ r.same) (h r.new a refl r.holds r.kept)
  gets_followed at cells to below H (Err fault) run next g h = alike _ _ g.out
