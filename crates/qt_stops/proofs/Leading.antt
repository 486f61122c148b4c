-- What follows a step is what follows from a point.
use Rattle.std.proofs.Common.{◌≡◌, ℕ, suc, Option, Some, slice_get, sym, ap, subst, ◌∙◌}
use Rattle.qt_tree.specs.declared.place.Place.{Place}
use Rattle.qt_instructions.specs.declared.instruction.Instr.{Instr}
use Rattle.qt_instructions.specs.declared.parts.Parts.{Parts}
use Rattle.qt_code.specs.Cells.{Cells}
use Rattle.qt_stops.specs.Halts.{Leads}
use Rattle.qt_stops.specs.Stops.{Moment, Step, Goes, follows, Reaches, instruction_step, line_step, step}

pub leads_here : (code : Parts) (at : ℕ) (cells : Cells) (m : Moment) (s : Step) → step code at cells m ≡ s → Leads code at cells m s
leads_here code at cells m s e = λ k t h. (suc k, subst (λ (x : Step). follows (Reaches code k) x t) (sym e) h)

pub leads_on : (code : Parts) (at : ℕ) (cells : Cells) (m : Moment) (to : ℕ) (new : Cells) (next : Moment) (s : Step)
    → step code at cells m ≡ Goes to new next → Leads code to new next s → Leads code at cells m s
leads_on code at cells m to new next s e leads = λ k t h.
    let q = leads k t h in
    (suc q.0, subst (λ (x : Step). follows (Reaches code q.0) x t) (sym e) q.1)

pub step_there : (code : Parts) (at : ℕ) (i : Instr) (place : Place) (cells : Cells) (m : Moment) → slice_get code.instructions at ≡ Some i
    → slice_get code.places at ≡ Some place → step code at cells m ≡ instruction_step code.qubits at i place cells m
step_there code at i place cells m e f =
    ap (λ (o : Option Instr). line_step code.qubits at o (slice_get code.places at) cells m) e
    ∙ ap (λ (o : Option Place). line_step code.qubits at (Some i) o cells m) f
