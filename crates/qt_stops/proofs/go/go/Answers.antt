use Rattle.std.proofs.Common.{◌≡◌, ℕ, get_or, IsTrue, sym, ap, subst, ◌∙◌, arith}
use Rattle.qt_tree.specs.declared.place.Place.{Place}
use Rattle.qt_instructions.specs.declared.instruction.Instr.{Instr}
use Rattle.qt_instructions.specs.declared.parts.Parts.{Parts}
use Rattle.qt_code_rules.specs.declared.sizes.Sizes.{Sizes}
use Rattle.qt_code.specs.Ranges.{has_instruction}
use Rattle.qt_machine.specs.Writes.{held}
use Rattle.qt_stops.specs.Halts.{IsHalt, moment}
use Rattle.qt_stops.specs.Stops.{Moment, Step, instruction_step, step}
use Rattle.qt_stops.proofs.Leading.{leads_here, leads_on, step_there}
use Rattle.qt_stops.proofs.Valid.{line_at, in_range, goes_inside, behind_onward, some_state}
use Rattle.qt_stops.proofs.go.go.Goals as goal

abbrev none : Place
none = record { file = 0; line = 0; column = 0 }

pub step-requires-clause-there : goal.step-requires-clause-there
step-requires-clause-there c =
    let code : Parts = c.args.code.now in
    let is : c.items-instructions.result.now ≡ code.instructions = c.items-instructions.ensures ∙ ap (λ (p : Parts). p.instructions) c.parts-parts.ensures.parts in
    let ps : c.items-places.result.now ≡ code.places = c.items-places.ensures ∙ ap (λ (p : Parts). p.places) c.parts-parts.ensures.parts in
    let line = line_at code c.items-instructions.result.now c.items-places.result.now c.way.at c.index-instructions-at.result none is ps c.parts-parts.ensures.valid
    c.way.invariant.0 c.index-instructions-at.is in
    subst (λ (s : Sizes). IsTrue (has_instruction s c.index-instructions-at.result)) (sym c.sizes_of-sizes.ensures)
    (in_range code c.way.at c.index-instructions-at.result c.parts-parts.ensures.valid line.instruction)

pub way-smaller : goal.way-smaller
way-smaller c =
    let code : Parts = c.args.code.now in
    let is : c.items-instructions.result.now ≡ code.instructions = c.items-instructions.ensures ∙ ap (λ (p : Parts). p.instructions) c.parts-parts.ensures.parts in
    let ps : c.items-places.result.now ≡ code.places = c.items-places.ensures ∙ ap (λ (p : Parts). p.places) c.parts-parts.ensures.parts in
    let line = line_at code c.items-instructions.result.now c.items-places.result.now c.way.at c.index-instructions-at.result none is ps c.parts-parts.ensures.valid
    c.way.invariant.0 c.index-instructions-at.is in
    (goes_inside code c.sizes_of-sizes.result.qubits c.way.at c.index-instructions-at.result (get_or c.items-places.result.now c.way.at none) (held c.way.cells)
    (moment c.way.slots some_state c.way.fuel) c.in-On.next (held c.step.new.cells) (moment c.step.new.slots some_state c.in-On.left)
    c.parts-parts.ensures.valid line.instruction (c.in-On.ensures.way some_state)).falls

pub way-preserved : goal.way-preserved
way-preserved c =
    let code : Parts = c.args.code.now in
    let i : Instr = c.index-instructions-at.result in
    let place : Place = get_or c.items-places.result.now c.way.at none in
    let is : c.items-instructions.result.now ≡ code.instructions = c.items-instructions.ensures ∙ ap (λ (p : Parts). p.instructions) c.parts-parts.ensures.parts in
    let ps : c.items-places.result.now ≡ code.places = c.items-places.ensures ∙ ap (λ (p : Parts). p.places) c.parts-parts.ensures.parts in
    let line = line_at code c.items-instructions.result.now c.items-places.result.now c.way.at c.index-instructions-at.result none is ps c.parts-parts.ensures.valid
    c.way.invariant.0 c.index-instructions-at.is in
    let f = goes_inside code c.sizes_of-sizes.result.qubits c.way.at c.index-instructions-at.result (get_or c.items-places.result.now c.way.at none) (held c.way.cells)
    (moment c.way.slots some_state c.way.fuel) c.in-On.next (held c.step.new.cells) (moment c.step.new.slots some_state c.in-On.left)
    c.parts-parts.ensures.valid line.instruction (c.in-On.ensures.way some_state) in
    let n : c.sizes_of-sizes.result.qubits ≡ code.qubits = ap (λ (s : Sizes). s.qubits) c.sizes_of-sizes.ensures in
    let v = c.way.invariant in
    let less = f.falls in (
      f.inside,
      omega (arith, less, v.1),
      c.step.ensures.cell_count ∙ v.2,
      c.step.ensures.slot_count ∙ v.3,
      λ state s l.
          v.4 state s (leads_on code c.way.at (held c.way.cells) (moment c.way.slots state c.way.fuel) c.in-On.next (held c.step.new.cells)
          (moment c.step.new.slots state c.in-On.left) s
          (step_there code c.way.at i place (held c.way.cells) (moment c.way.slots state c.way.fuel) line.instruction line.place_is
          ∙ ap (λ (k : ℕ). instruction_step k c.way.at i place (held c.way.cells) (moment c.way.slots state c.way.fuel)) (sym n)
          ∙ c.in-On.ensures.way state)
          l),
    )

pub returns-in-Halt-clause-halt : goal.returns-in-Halt-clause-halt
returns-in-Halt-clause-halt c = λ state.
    let code : Parts = c.args.code.now in
    let i : Instr = c.index-instructions-at.result in
    let place : Place = get_or c.items-places.result.now c.way.at none in
    let is : c.items-instructions.result.now ≡ code.instructions = c.items-instructions.ensures ∙ ap (λ (p : Parts). p.instructions) c.parts-parts.ensures.parts in
    let ps : c.items-places.result.now ≡ code.places = c.items-places.ensures ∙ ap (λ (p : Parts). p.places) c.parts-parts.ensures.parts in
    let line = line_at code c.items-instructions.result.now c.items-places.result.now c.way.at c.index-instructions-at.result none is ps c.parts-parts.ensures.valid
    c.way.invariant.0 c.index-instructions-at.is in
    let n : c.sizes_of-sizes.result.qubits ≡ code.qubits = ap (λ (s : Sizes). s.qubits) c.sizes_of-sizes.ensures in
    let v = c.way.invariant in
    let m : Moment = moment c.way.slots state c.way.fuel in
    let s : Step = instruction_step c.sizes_of-sizes.result.qubits c.way.at i place (held c.way.cells) m in
    let here : step code c.way.at (held c.way.cells) m ≡ s =
    step_there code c.way.at i place (held c.way.cells) m line.instruction line.place_is
    ∙ ap (λ (k : ℕ). instruction_step k c.way.at i place (held c.way.cells) m) (sym n) in (
      s,
      (
        subst (λ (k : ℕ). IsHalt k s c.in-Halt.halt (held c.step.new.cells) c.step.new.slots state) n (c.in-Halt.ensures.way state),
        v.4 state s (leads_here code c.way.at (held c.way.cells) m s here),
      ),
    )

pub returns-in-Halt-clause-onward : goal.returns-in-Halt-clause-onward
returns-in-Halt-clause-onward c =
    let code : Parts = c.args.code.now in
    let is : c.items-instructions.result.now ≡ code.instructions = c.items-instructions.ensures ∙ ap (λ (p : Parts). p.instructions) c.parts-parts.ensures.parts in
    let ps : c.items-places.result.now ≡ code.places = c.items-places.ensures ∙ ap (λ (p : Parts). p.places) c.parts-parts.ensures.parts in
    let line = line_at code c.items-instructions.result.now c.items-places.result.now c.way.at c.index-instructions-at.result none is ps c.parts-parts.ensures.valid
    c.way.invariant.0 c.index-instructions-at.is in
    behind_onward code _ c.way.at c.way.fuel c.index-instructions-at.result c.in-Halt.halt c.parts-parts.ensures.valid line.instruction c.way.invariant.1 c.in-Halt.ensures.behind
