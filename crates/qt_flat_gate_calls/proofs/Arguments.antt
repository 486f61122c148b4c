-- The code of the arguments of a call lands: each that isn't fixed comes to its cell.
use Rattle.std.proofs.Common.{◌≡◌, ℕ, ◌+◌, ◌≤◌, ℤ, Ok, Option, Some, None, List, [], ◌∷◌, map, refl, ap, ◌∙◌, arith}
use Rattle.qt_tree.specs.declared.place.Place.{Place}
use Rattle.qt_typed.specs.declared.expression.TypedPhase.{TypedPhase}
use Rattle.qt_typed.specs.declared.expression.TypedPhase.TheVariants.{Fixed, Angle, Neg', Add', Sub', Times', Scaled', Over'}
use Rattle.qt_meaning.specs.Expressions.{phase, phases_of}
use Rattle.qt_meaning.specs.Points.{Point}
use Rattle.qt_meaning.specs.Values.{and_then}
use Rattle.qt_instructions.specs.declared.parts.Parts.{Parts}
use Rattle.qt_code.specs.Cells.{Cells, units_by, units_in}
use Rattle.qt_primitives.specs.declared.unit.Argument.{Argument}
use Rattle.qt_primitives.specs.declared.unit.Argument.TheVariants as argument
use Rattle.qt_modify.specs.Calls.{argument_of, arguments_from, behind_arguments, cell_behind, fixed_phase}
use Rattle.qt_modify_laws.specs.Laws.{held_in}
use Rattle.qt_modify_laws.specs.Running.{UnitCells, known_in, IsBelow, AreBelow}
use Rattle.qt_flat_code.specs.Phases.{phase_code, phase_in, phase_length}
use Rattle.qt_flat_code.specs.GateCalls.{arguments_code, arguments_length}
use Rattle.qt_flat_expressions.specs.Lands.{KeepsBelow, StandsAt}
use Rattle.qt_flat_expressions.proofs.Lengths.{Long, joined}
use Rattle.qt_flat_expressions.proofs.Standing.{stands_behind, stands_first}
use Rattle.qt_flat_gate_calls.specs.Fits.{PhasesFit}
use Rattle.qt_flat_expressions.proofs.Arriving.{Gets, gets_here, gets_then}
use Rattle.qt_flat_gate_calls.proofs.Phases.{InUnits, phase_gets, phase_long, units_same}

-- the units that the cells hold
abbrev pub units_of : Cells → UnitCells
units_of cells cell = units_in cell cells

-- ---- one argument

-- what an argument holds is what stands for its phase
held_is : (e : TypedPhase) (cell : ℕ) (new : Cells)
    → held_in (known_in (units_of new)) (argument_of (fixed_phase e) cell) ≡ Some (units_by (phase_in e cell) new)
held_is (Fixed units) cell new = refl
held_is (Angle of) cell new = refl
held_is (Neg' k of) cell new = refl
held_is (Add' k left m right) cell new = refl
held_is (Sub' k left m right) cell new = refl
held_is (Times' k of number) cell new = refl
held_is (Scaled' number k of) cell new = refl
held_is (Over' k of number) cell new = refl

-- it stays where the cells up to its own do
units_kept : (e : TypedPhase) (cell : ℕ) (old new : Cells) → KeepsBelow (cell_behind (fixed_phase e) cell) old new
    → units_by (phase_in e cell) new ≡ units_by (phase_in e cell) old
units_kept (Fixed units) cell old new h = refl
units_kept (Angle of) cell old new h = units_same (Angle of) cell old new (h cell (omega arith))
units_kept (Neg' k of) cell old new h = units_same (Neg' k of) cell old new (h cell (omega arith))
units_kept (Add' k left m right) cell old new h = units_same (Add' k left m right) cell old new (h cell (omega arith))
units_kept (Sub' k left m right) cell old new h = units_same (Sub' k left m right) cell old new (h cell (omega arith))
units_kept (Times' k of number) cell old new h = units_same (Times' k of number) cell old new (h cell (omega arith))
units_kept (Scaled' number k of) cell old new h = units_same (Scaled' number k of) cell old new (h cell (omega arith))
units_kept (Over' k of number) cell old new h = units_same (Over' k of number) cell old new (h cell (omega arith))

behind_later : {A : Type 0} (o : Option A) (cell : ℕ) → cell ≤ cell_behind o cell
behind_later None cell = omega arith
behind_later (Some a) cell = omega arith

-- ---- all of them

abbrev pub Held : List TypedPhase → ℕ → List ℤ → Cells → Type 0
Held args cell us new = map (held_in (known_in (units_of new))) (arguments_from cell args) ≡ map (λ (u : ℤ). Some u) us

pub arguments_long : (args : List TypedPhase) (base cell at : ℕ) → Long (arguments_code args base cell at) (arguments_length args)
arguments_long [] base cell at = record { long = refl }
arguments_long (e ∷ es) base cell at =
    joined _ _ _ _ (phase_long e base cell at) (arguments_long es base (cell_behind (fixed_phase e) cell) (at + phase_length e))

module _ (code : Parts) (place : Place) (p : Point) (base slots : ℕ) where
  pub arguments_get : (args : List TypedPhase) → PhasesFit slots args → (cell at to : ℕ) (cells : Cells)
      → StandsAt code place at (arguments_code args base cell at) → at + arguments_length args ≡ to
      → Gets code place p (List ℤ) at cells to cell (Held args cell) (phases_of args base p.store)
  arguments_get [] fits cell at to cells h t = gets_here code place p at cells to cell (Held [] cell) [] refl (omega (arith, t))
  arguments_get (e ∷ es) fits cell at to cells h t =
      let next = cell_behind (fixed_phase e) cell in
      let mid = at + phase_length e in
      let a = phase_code e base cell at in
      let b = arguments_code es base next mid in
      gets_then code place p at cells mid cell to cell (InUnits e cell) (Held (e ∷ es) cell) (phase e base p.store)
      (λ u. and_then (phases_of es base p.store) (λ us. Ok (u ∷ us))) (omega arith)
      (phase_gets code place p base slots e fits.0 cell at mid cells (stands_first code place at a b h) refl)
      (λ new u is holds kept.
      gets_then code place p mid new to next to cell (Held es next) (Held (e ∷ es) cell) (phases_of es base p.store) (λ us. Ok (u ∷ us))
      (behind_later (fixed_phase e) cell)
      (arguments_get es fits.1 next mid to new (stands_behind code place at a b (phase_length e) (phase_long e base cell at).long h) (omega (arith, t)))
      (λ newer us it there keeps.
      gets_here code place p to newer to cell (Held (e ∷ es) cell) (u ∷ us)
      (ap (λ k. k ∷ map (held_in (known_in (units_of newer))) (arguments_from next es)) (held_is e cell newer ∙ ap Some (units_kept e cell new newer keeps ∙ holds))
      ∙ ap (λ ks. Some u ∷ ks) there) refl))

-- ---- their cells

behind_more : (args : List TypedPhase) (cell : ℕ) → cell ≤ behind_arguments cell args
behind_more [] cell = omega arith
behind_more (e ∷ es) cell =
    let a = behind_later (fixed_phase e) cell in
    let b = behind_more es (cell_behind (fixed_phase e) cell) in
    omega arith

one_below : (o : Option ℤ) (cell n : ℕ) → cell_behind o cell ≤ n → IsBelow n (argument_of o cell)
one_below None cell n h = omega arith
one_below (Some u) cell n h = tt

arguments_below : (args : List TypedPhase) (cell n : ℕ) → behind_arguments cell args ≤ n → AreBelow n (arguments_from cell args)
arguments_below [] cell n h = tt
arguments_below (e ∷ es) cell n h =
    let next = cell_behind (fixed_phase e) cell in
    let l : next ≤ behind_arguments next es = behind_more es next in
    let g : behind_arguments next es ≤ n = h in
    (one_below (fixed_phase e) cell n (omega arith), arguments_below es next n h)

pub all_below : (args : List TypedPhase) (n : ℕ) → behind_arguments 0 args ≤ n → AreBelow n (arguments_from 0 args)
all_below args n h = arguments_below args 0 n h

one_kept : (n : ℕ) (old new : Cells) → KeepsBelow n old new → (a : Argument) → IsBelow n a
    → held_in (known_in (units_of new)) a ≡ held_in (known_in (units_of old)) a
one_kept n old new h (argument.Fixed units) b = refl
one_kept n old new h (argument.Cell cell) b = ap (λ x. Some (units_in 0 (λ c. x))) (h cell b)

-- what arguments hold stays where the cells up to theirs do
pub held_kept : (n : ℕ) (old new : Cells) → KeepsBelow n old new → (given : List Argument) → AreBelow n given
    → map (held_in (known_in (units_of new))) given ≡ map (held_in (known_in (units_of old))) given
held_kept n old new h [] b = refl
held_kept n old new h (a ∷ given) b =
    ap (λ k. k ∷ map (held_in (known_in (units_of new))) given) (one_kept n old new h a b.0)
    ∙ ap (λ ks. held_in (known_in (units_of old)) a ∷ ks) (held_kept n old new h given b.1)
