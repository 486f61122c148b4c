-- The flat code of a program (flat code is this profile's; OpenQASM 3.0 live specification, "Subroutines" and "Input/output"): the code of its
-- statements, in which subroutines are put in place, and an end with the place behind its text; with the values that the slots begin with, and
-- the variables that are told at the end.
use Rattle.std.specs.Prelude.{ℕ, suc, List, [], ◌∷◌, ◌++◌, map, replicate}
use Rattle.qt_tree.specs.declared.place.Place.{Place}
use Rattle.qt_gate_calls.specs.Numbered.{if_number}
use Rattle.qt_typed.specs.Choices.{Counts}
use Rattle.qt_typed.specs.declared.program.Typed.{Typed}
use Rattle.qt_typed.specs.declared.program.TypedOutput.{TypedOutput}
use Rattle.qt_typed.specs.declared.program.TypedSubroutine.{TypedSubroutine}
use Rattle.qt_meaning.specs.Distribution.{main_site, started}
use Rattle.qt_instructions.specs.declared.instruction.Instr.{Instr}
use Rattle.qt_instructions.specs.declared.instruction.Instr.TheVariants as instr
use Rattle.qt_instructions.specs.declared.parts.Field.{Field}
use Rattle.qt_instructions.specs.declared.parts.Parts.{Parts}
use Rattle.qt_flat_code.specs.CellsUsed.{cells_used}
use Rattle.qt_flat_code.specs.Statements.{Codes, Lines, all_to, body_code, body_length, list_code, list_length}

-- ---- subroutines, each over those before it, where the first of these has the number n

abbrev pub lengths_from : ℕ → List TypedSubroutine → Counts → Counts
lengths_from n [] z = z
lengths_from n (s ∷ ss) z = lengths_from (suc n) ss (λ i. if_number n i (body_length z s) (z i))

abbrev pub codes_from : ℕ → List TypedSubroutine → Counts → Codes → Codes
codes_from n [] z codes = codes
codes_from n (s ∷ ss) z codes =
    codes_from (suc n) ss (λ i. if_number n i (body_length z s) (z i))
    (λ i call place site at. if_number n i (body_code z codes s call place site at) (codes i call place site at))

abbrev pub subroutine_lengths : List TypedSubroutine → Counts
subroutine_lengths subroutines = lengths_from 0 subroutines (λ i. 0)

abbrev pub subroutine_codes : List TypedSubroutine → Codes
subroutine_codes subroutines = codes_from 0 subroutines (λ i. 0) (λ i call place site at. [])

-- ---- the whole program

abbrev pub main_length : Typed → ℕ
main_length typed = list_length (subroutine_lengths typed.subroutines) typed.body

-- the statements, and an end, to which all exits lead
abbrev pub lines_of : Typed → Lines
lines_of typed =
    list_code (subroutine_lengths typed.subroutines) (subroutine_codes typed.subroutines) typed.body (all_to (main_length typed)) (main_site typed) 0
    ++ ((instr.End, typed.end) ∷ [])

abbrev pub instructions_in : Lines → List Instr
instructions_in lines = map (λ (line : Instr × Place). line.0) lines

abbrev pub places_in : Lines → List Place
places_in lines = map (λ (line : Instr × Place). line.1) lines

abbrev pub field_of : TypedOutput → Field
field_of o = record { name = o.name; kind = o.kind; slot = o.slot; lengths = o.lengths }

abbrev pub parts_of : Typed → Parts
parts_of typed =
    record {
      instructions = instructions_in (lines_of typed);
      places = places_in (lines_of typed);
      qubits = typed.qubits;
      slots = typed.slots;
      cells = cells_used (instructions_in (lines_of typed));
      start = started typed.start (replicate typed.slots 0);
      layout = map field_of typed.outputs;
      end = typed.end;
    }
