-- What is seen inside: OpenQASM 3.0 live specification, "Scoping of variables"; Cross et al. 2022.
-- The bodies of subroutines and gates see the global constants, gates and subroutines, and no global variable, qubit or alias.
use Rattle.std.specs.Prelude.{Bool, true, false}
use Rattle.qt_names.specs.declared.named.What.{What}
use Rattle.qt_names.specs.declared.named.What.TheVariants as what

abbrev pub is_seen_inside : What → Bool
is_seen_inside what.Constant = true
is_seen_inside what.Gate = true
is_seen_inside what.Subroutine = true
is_seen_inside what.Variable = false
is_seen_inside what.Qubits = false
is_seen_inside what.Alias = false
is_seen_inside what.Parameter = false
