-- Primitives on qubits that are known in the run only: their references were tested to differ (flat code is this profile's; OpenQASM 3.0
-- live specification, "Gates", applying gates). A primitive with references in work cells stands behind a Distinct of all of them, with
-- only gates and arithmetic of phases in between, and no jump lands behind the Distinct and not behind the primitive.
use Rattle.std.specs.Prelude.{ℕ, suc, ◌-◌, Bool, true, false, not, ◌&&◌, ◌||◌, nat_le, nat_lt, List, length, slice_get, Option, Some, None}
use Rattle.std.specs.List.{list_all, list_any, range_with_len}
use Rattle.qt_instructions.specs.declared.reference.QubitRef.{QubitRef}
use Rattle.qt_instructions.specs.declared.reference.QubitRef.TheVariants as qubit
use Rattle.qt_instructions.specs.declared.instruction.Instr.{Instr}
use Rattle.qt_instructions.specs.declared.instruction.Instr.TheVariants as instr
use Rattle.qt_instructions.specs.Targets.{target_of}
use Rattle.qt_code_rules.specs.References.{is_tested}
use Rattle.qt_code.specs.Different.{references_of}

-- ---- instructions by their numbers

abbrev pub some_passes : (Instr → Bool) → Option Instr → Bool
some_passes test None = false
some_passes test (Some i) = test i

-- an instruction stands there, and passes the test
abbrev pub passes : (Instr → Bool) → List Instr → ℕ → Bool
passes test code at = some_passes test (slice_get code at)

-- each does from one number on, up to another but for that
abbrev pub all_pass : (Instr → Bool) → List Instr → ℕ → ℕ → Bool
all_pass test code from to = list_all (passes test code) (range_with_len from (to - from))

-- ---- tests

abbrev pub is_work : QubitRef → Bool
is_work (qubit.At q) = false
is_work (qubit.Work cell) = true

-- a primitive with some reference in a work cell
abbrev pub needs_test : Instr → Bool
needs_test (instr.Gate p) = list_any is_work (references_of p)
needs_test _ = false

-- gates and arithmetic of phases
abbrev pub keeps_tested : Instr → Bool
keeps_tested (instr.Gate p) = true
keeps_tested (instr.AngleOp cell operation) = true
keeps_tested _ = false

-- a Distinct of all references in work cells of a primitive
abbrev pub is_test_of : Option Instr → Option Instr → Bool
is_test_of (Some (instr.Distinct qubits)) (Some (instr.Gate p)) = list_all (is_tested qubits) (references_of p)
is_test_of _ _ = false

-- the second number is that of a test of the primitive with the first, and only gates and arithmetic of phases stand in between
abbrev pub is_test_for : List Instr → ℕ → ℕ → Bool
is_test_for code at test = is_test_of (slice_get code test) (slice_get code at) && all_pass keeps_tested code (suc test) at

-- ---- jumps

abbrev pub is_between : ℕ → ℕ → Option ℕ → Bool
is_between test at None = false
is_between test at (Some to) = nat_lt test to && nat_le to at

-- some jump lands behind the test, and not behind the primitive
abbrev pub has_jump_between : List Instr → ℕ → ℕ → Bool
has_jump_between code at test = list_any (λ i. is_between test at (target_of i)) code

-- ---- the rule

abbrev pub is_tested_at : List Instr → ℕ → Bool
is_tested_at code at =
    not (passes needs_test code at)
    || list_any (λ test. is_test_for code at test && not (has_jump_between code at test)) (range_with_len 0 at)

-- each primitive with a reference in a work cell stands behind such a test
abbrev pub all_tested : List Instr → Bool
all_tested code = list_all (is_tested_at code) (range_with_len 0 (length code))
