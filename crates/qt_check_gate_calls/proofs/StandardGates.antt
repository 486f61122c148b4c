-- The table of the names of standard gates is that of the standard gates themselves.
use Rattle.std.proofs.Common.{◌≡◌, ℕ, suc, ◌+◌, Bool, true, false, if◌then◌else◌, List, [], ◌∷◌}
use Rattle.std.proofs.Common.{map, Option, Some, bytes_eq, refl, ap, ◌∙◌, nat_eq, option_map, arith}
use Rattle.std.proofs.lemmas.Cmp.{nat_list_eq_equiv}
use Rattle.std.specs.Cmp.Lexicographic.{pointwise}
use Rattle.qt_gate_calls.specs.Standard as table
use Rattle.qt_gate_calls.specs.declared.body.Called.TheVariants as called
use Rattle.qt_gates.specs.Named.{Row, gate_in, standard_named}
use Rattle.qt_gates.specs.declared.named.StandardGate.{StandardGate}
use Rattle.qt_names.specs.Entries.{Name}
use Rattle.qt_typing.specs.Gates.{Gate, standard_from, standard_gate}

abbrev pub as_gate : StandardGate → Gate
as_gate g = record { called = called.Gate g.number; parameters = g.parameters; qubits = g.qubits }

abbrev row_of : table.StandardGate → Row
row_of g = (g.name, g.body.parameters, g.body.qubits)

abbrev chosen : Bool → ℕ → table.StandardGate → Option Gate → Option Gate
chosen test n g later =
    if test then Some (record { called = called.Gate n; parameters = g.body.parameters; qubits = g.body.qubits }) else later

abbrev chosen_row : Bool → ℕ → table.StandardGate → Option StandardGate → Option StandardGate
chosen_row test n g later =
    if test then Some (record { number = n; parameters = g.body.parameters; qubits = g.body.qubits }) else later

of_chosen : (test : Bool) (n : ℕ) (g : table.StandardGate) (later : Option StandardGate)
    → chosen test n g (option_map as_gate later) ≡ option_map as_gate (chosen_row test n g later)
of_chosen true n g later = refl
of_chosen false n g later = refl

from_rows : (n : ℕ) (gates : List table.StandardGate) (name : Name) → standard_from n gates name
    ≡ option_map as_gate (gate_in n (map row_of gates) name)
from_rows n [] name = refl
from_rows n (g ∷ gates) name =
    ap (chosen (pointwise nat_eq g.name name) n g)
    (from_rows (suc n) gates name ∙ ap (λ m. option_map as_gate (gate_in m (map row_of gates) name)) (succ_is n))
    ∙ ap (λ test. chosen test n g (option_map as_gate (gate_in (n + 1) (map row_of gates) name))) (nat_list_eq_equiv.symm g.name name)
    ∙ of_chosen (bytes_eq name g.name) n g (gate_in (n + 1) (map row_of gates) name)
  where
    succ_is : (m : ℕ) → suc m ≡ m + 1
    succ_is m = omega arith

pub standard_is : (name : Name) → standard_gate true name ≡ option_map as_gate (standard_named name)
standard_is name = from_rows 0 table.standard_gates name
