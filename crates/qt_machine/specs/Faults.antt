-- What instructions stumble on, as the meaning of programs has it (OpenQASM 3.0 live specification, "Classical instructions" and "Gates";
-- Cross et al. 2022).
use Rattle.std.specs.Prelude.{Result, Ok, Err}
use Rattle.qt_meaning.specs.Values.{Fault, Divide, Index, Step, BadAngle, SameQubit, Evaluated}
use Rattle.qt_machine.specs.declared.fault.InstrFault.{InstrFault}
use Rattle.qt_machine.specs.declared.fault.InstrFault.TheVariants as instr_fault

abbrev pub fault_of : InstrFault → Fault
fault_of instr_fault.Divide = Divide
fault_of instr_fault.Index = Index
fault_of instr_fault.Step = Step
fault_of instr_fault.Angle = BadAngle
fault_of instr_fault.SameQubit = SameQubit

-- a result, or the fault on the way to it
abbrev pub meant : {A : Type 0} → Result A InstrFault → Evaluated A
meant (Ok a) = Ok a
meant (Err fault) = Err (fault_of fault)
