-- The rule on tested references in two parts, each decided by itself (flat code is this profile's; OpenQASM 3.0 live specification, "Gates",
-- applying gates): each primitive that needs a test stands behind one, and each jump lands where no primitive needs a test that stands
-- before.
use Rattle.std.specs.Prelude.{ℕ, Bool, true, not, ◌&&◌, ◌||◌, List, [], length, drop, Option, Some, None}
use Rattle.std.specs.List.{list_all, list_any, range_with_len}
use Rattle.qt_instructions.specs.declared.reference.QubitRef.{QubitRef}
use Rattle.qt_instructions.specs.declared.instruction.Instr.{Instr}
use Rattle.qt_instructions.specs.declared.instruction.Instr.TheVariants as instr
use Rattle.qt_instructions.specs.Targets.{target_of}
use Rattle.qt_code_rules.specs.References.{is_tested}
use Rattle.qt_code.specs.Different.{references_of}
use Rattle.qt_code.specs.Tested.{all_pass, is_test_for, keeps_tested, needs_test, passes}

-- ---- behind a test

-- where some references were tested, all of a primitive were
abbrev pub applies_tested : List QubitRef → Instr → Bool
applies_tested tested (instr.Gate p) = list_all (is_tested tested) (references_of p)
applies_tested tested _ = true

-- what counts as tested behind an instruction
abbrev pub tested_behind : List QubitRef → Instr → List QubitRef
tested_behind tested (instr.Distinct qubits) = qubits
tested_behind tested (instr.Gate p) = tested
tested_behind tested (instr.AngleOp cell operation) = tested
tested_behind tested _ = []

abbrev pub has_test : List Instr → ℕ → Bool
has_test code at = not (passes needs_test code at) || list_any (is_test_for code at) (range_with_len 0 at)

-- each primitive that needs a test stands behind one
abbrev pub all_have_tests : List Instr → Bool
all_have_tests code = list_all (has_test code) (range_with_len 0 (length code))

-- ---- jumps

-- from the first instruction such a primitive is reached over nothing but gates and arithmetic of phases, so its test stands before
abbrev pub is_inside : List Instr → Bool
is_inside code = list_any (λ at. passes needs_test code at && all_pass keeps_tested code 0 at) (range_with_len 0 (length code))

abbrev pub stays_outside : List Instr → Option ℕ → Bool
stays_outside code None = true
stays_outside code (Some to) = not (is_inside (drop to code))

-- no jump lands there
abbrev pub jumps_stay_outside : List Instr → Bool
jumps_stay_outside code = list_all (λ i. stays_outside code (target_of i)) code
