-- What follows both outcomes of a qubit.
use Rattle.std.proofs.Common.{◌≡◌, ℕ, suc, Bool, true, false, Ok, Err, List, [], ◌∷◌, ◌++◌, map, refl, sym, ap, ◌∙◌}
use Rattle.std.specs.List.{flat_map}
use Rattle.std.proofs.lemmas.List.Concat.{flat_map-append}
use Rattle.qt_tree.specs.declared.place.Place.{Place}
use Rattle.qt_ring.specs.Places.{digit}
use Rattle.qt_ring.specs.State.{State, flip, project, vanishes}
use Rattle.qt_ring.proofs.States.{flip_has_all, qubits-flip, qubits-project}
use Rattle.qt_ring.proofs.Totals.{project_has_all}
use Rattle.qt_meaning.specs.Measuring.{chose, measured, outcome, reset, unless}
use Rattle.qt_meaning.specs.Points.{Leaf, On, Point, Run, go_on, leaf, then_do, with_result, with_store}
use Rattle.qt_meaning.specs.Values.{Evaluated}
use Rattle.qt_instructions.specs.declared.reference.QubitRef.{QubitRef}
use Rattle.qt_instructions.specs.declared.instruction.Instr.TheVariants as instr
use Rattle.qt_instructions.specs.declared.instruction.Store.{Store}
use Rattle.qt_instructions.specs.declared.parts.Parts.{Parts}
use Rattle.qt_code.specs.Cells.{Cells, no_cells, place_of_store, qubit_of}
use Rattle.qt_code.specs.Tail.{choices_before, stored_at, tail}
use Rattle.qt_code.proofs.Steps.{tail_at, tail_with}
use Rattle.qt_gate_call_laws.specs.Seen.{LookAlike, seen}
use Rattle.qt_gate_call_laws.proofs.Leaves.{alike, alike_then, on_then}
use Rattle.qt_flat_expressions.proofs.Stepping.{HasAt}
use Rattle.qt_flat_gate_calls.specs.Landing.{GoesOn, IsWhole}

-- ---- lists of leaves

map-append : (a b : List Leaf) → map seen (a ++ b) ≡ map seen a ++ map seen b
map-append [] b = refl
map-append (l ∷ a) b = ap (λ t. seen l ∷ t) (map-append a b)

both_alike : (a b c d : List Leaf) → LookAlike a b → LookAlike c d → LookAlike (a ++ c) (b ++ d)
both_alike a b c d l m = record {
  same = map-append a c ∙ ap (λ t. t ++ map seen c) l.same ∙ ap (λ t. map seen b ++ t) m.same ∙ sym (map-append b d);
}

abbrev followed : Run → List Leaf → List Leaf
followed next ls = flat_map (λ l. go_on next l.signal l.point) ls

followed_both : (first next : Run) (a b : List Leaf) → LookAlike (followed first a) (followed next a) → LookAlike (followed first b) (followed next b)
    → LookAlike (followed first (a ++ b)) (followed next (a ++ b))
followed_both first next a b l m =
    alike_then (alike _ _ (flat_map-append (λ k. go_on first k.signal k.point) a b))
    (alike_then (both_alike _ _ _ _ l m) (alike _ _ (sym (flat_map-append (λ k. go_on next k.signal k.point) a b))))

-- one outcome, where there is one
branch : (none : Bool) (f : Point → Point) (r : Point) (first next : Run) → LookAlike (first (f r)) (next (f r))
    → LookAlike (followed first (unless none (λ s. leaf On (f s)) r)) (followed next (unless none (λ s. leaf On (f s)) r))
branch true f r first next l = alike _ _ refl
branch false f r first next l = alike_then (alike _ _ (on_then first (f r))) (alike_then l (alike _ _ (sym (on_then next (f r)))))

-- ---- states

project_whole : (n q : ℕ) (b : Bool) (s : State) → IsWhole n s → IsWhole n (project q b s)
project_whole n q b s w = (qubits-project q b s ∙ w.0, project_has_all q b s)

flip_whole : (n q : ℕ) (s : State) → IsWhole n s → IsWhole n (flip q s)
flip_whole n q s w = (qubits-flip q s ∙ w.0, flip_has_all q s)

-- ---- choices

module _ (code : Parts) (place : Place) (at : ℕ) (next : Run) (cells : Cells) (p : Point) (whole : IsWhole code.qubits p.state)
    (goes : GoesOn code p.fuel (suc at) next) where
  abbrev behind : Run
  behind = tail_with code p.fuel (suc at) no_cells

  abbrev projected : ℕ → Bool → Point
  projected q b = record p { state = project q b p.state }

  -- both outcomes of a measurement
  measured_goes : (number q : ℕ) (keep : ℕ → List ℕ → List ℕ)
      → LookAlike (then_do (measured place number q keep) behind p) (then_do (measured place number q keep) next p)
  measured_goes number q keep =
      followed_both behind next (outcome q false (λ r. leaf On (chose place number false (with_store (keep (digit false)) r))) p)
      (outcome q true (λ r. leaf On (chose place number true (with_store (keep (digit true)) r))) p)
      (branch (vanishes (project q false p.state)) (λ r. chose place number false (with_store (keep (digit false)) r)) (projected q false) behind next
      (goes no_cells (chose place number false (with_store (keep (digit false)) (projected q false))) refl (project_whole code.qubits q false p.state whole)))
      (branch (vanishes (project q true p.state)) (λ r. chose place number true (with_store (keep (digit true)) r)) (projected q true) behind next
      (goes no_cells (chose place number true (with_store (keep (digit true)) (projected q true))) refl (project_whole code.qubits q true p.state whole)))

  reset_goes : (number q : ℕ) → LookAlike (then_do (reset place number q) behind p) (then_do (reset place number q) next p)
  reset_goes number q =
      followed_both behind next (outcome q false (λ r. leaf On (chose place number false r)) p)
      (outcome q true (λ r. leaf On (chose place number true (record r { state = flip q r.state }))) p)
      (branch (vanishes (project q false p.state)) (λ r. chose place number false r) (projected q false) behind next
      (goes no_cells (chose place number false (projected q false)) refl (project_whole code.qubits q false p.state whole)))
      (branch (vanishes (project q true p.state)) (λ r. chose place number true (record r { state = flip q r.state })) (projected q true) behind next
      (goes no_cells (chose place number true (record (projected q true) { state = flip q (project q true p.state) })) refl
      (flip_whole code.qubits q (project q true p.state) (project_whole code.qubits q true p.state whole))))

  -- the instructions
  pub reset_does : (r : QubitRef) (before : ℕ) (v : Evaluated ℕ) → HasAt code place at (instr.Reset r) → choices_before at code.instructions ≡ before
      → qubit_of code.qubits r cells ≡ v
      → LookAlike (tail code at cells p) (then_do (with_result v place (λ q. reset place (suc before) q)) next p)
  reset_does r before v h b e =
      alike_then
      (alike _ _ (tail_at code at (instr.Reset r, place) h cells p
      ∙ ap (λ u. with_result u place (λ q. then_do (reset place (suc (choices_before at code.instructions)) q) behind) p) e
      ∙ ap (λ n. with_result v place (λ q. then_do (reset place (suc n) q) behind) p) b))
      (by v)
    where
      by : (u : Evaluated ℕ) → LookAlike (with_result u place (λ q. then_do (reset place (suc before) q) behind) p)
          (then_do (with_result u place (λ q. reset place (suc before) q)) next p)
      by (Ok q) = reset_goes (suc before) q
      by (Err fault) = alike _ _ refl

  pub measure_does : (r : QubitRef) (to : Store) (n before : ℕ) (v : Evaluated ℕ) → HasAt code place at (instr.Measure r to)
      → choices_before at code.instructions ≡ before → qubit_of code.qubits r cells ≡ v → place_of_store to cells ≡ Ok n
      → LookAlike (tail code at cells p) (then_do (with_result v place (λ q. measured place (suc before) q (stored_at to n))) next p)
  measure_does r to n before v h b e f =
      alike_then
      (alike _ _ (tail_at code at (instr.Measure r to, place) h cells p
      ∙ ap (λ u. with_result u place (λ q. with_result (place_of_store to cells) place (λ m. then_do (measured place (suc (choices_before at code.instructions)) q (stored_at to m)) behind)) p) e
      ∙ ap (λ k. with_result v place (λ q. with_result k place (λ m. then_do (measured place (suc (choices_before at code.instructions)) q (stored_at to m)) behind)) p) f
      ∙ ap (λ k. with_result v place (λ q. then_do (measured place (suc k) q (stored_at to n)) behind) p) b))
      (by v)
    where
      by : (u : Evaluated ℕ) → LookAlike (with_result u place (λ q. then_do (measured place (suc before) q (stored_at to n)) behind) p)
          (then_do (with_result u place (λ q. measured place (suc before) q (stored_at to n))) next p)
      by (Ok q) = measured_goes (suc before) q (stored_at to n)
      by (Err fault) = alike _ _ refl
