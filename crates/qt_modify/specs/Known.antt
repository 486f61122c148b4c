-- Tables of flags: which parameters of each gate are needed.
use Rattle.std.specs.Prelude.{◌≡◌, ℕ, ◌<◌, Bool, ◌||◌, List, [], length, get_or}
use Rattle.qt_gate_calls.specs.declared.body.GateBody.{GateBody}
use Rattle.qt_modify.specs.Needs.{flag_at}
use Rattle.qt_modify.specs.Expansions.{expansions_of, needs_in}

-- the flags are as before, but that some more are set
abbrev pub Marks : List Bool → List Bool → (ℕ → Bool) → Type 0
Marks old new more = (i : ℕ) → flag_at new i ≡ flag_at old i || more i

-- the flags of the gate with that number
abbrev pub flags_of : List (List Bool) → ℕ → List Bool
flags_of table number = get_or table number []

-- the table has for each gate which of its parameters are needed
abbrev pub KnowsNeeds : List GateBody → List (List Bool) → Type 0
KnowsNeeds gates table = (number i : ℕ) → number < length gates
    → flag_at (flags_of table number) i ≡ needs_in (expansions_of gates) number i
