-- What a call leaves of a sink: its bytes, where it tells them, and its two counts.
use Rattle.std.specs.Prelude.{◌≡◌, ℕ, ◌≤◌, ◌⊎◌, List, ◌++◌, take, length, Option, Some, None}
use Rattle.qt_outside.specs.Causes.{Rose}
use Rattle.qt_outside.specs.declared.faults.PutFault.{PutFault}
use Rattle.qt_outside.specs.declared.faults.PutFault.TheVariants as put

-- a sink as contracts see it
pub record Seen : Type 0 where
  pub bytes : Option (List ℕ)
  pub faults : ℕ
  pub wants : ℕ

-- what the ghost members of a sink tell of it
abbrev pub seen : {S : Type 0} → (S → Option (List ℕ)) → (S → ℕ) → (S → ℕ) → S → Seen
seen {S} bytes faults wants sink = record { bytes = bytes sink; faults = faults sink; wants = wants sink }

-- the bytes, where they are told, are the old ones and then these
abbrev pub Follows : Option (List ℕ) → Option (List ℕ) → List ℕ → Type 0
Follows None after more = after ≡ None
Follows (Some old) after more = after ≡ Some (old ++ more)

-- everything was taken, and no count has moved
pub record Whole (before after : Seen) (piece : List ℕ) : Type 0 where
  pub bytes : Follows before.bytes after.bytes piece
  pub faults : after.faults ≡ before.faults
  pub wants : after.wants ≡ before.wants

-- so many bytes of it were taken
pub record Part (before after : Seen) (piece : List ℕ) : Type 0 where
  pub taken : ℕ
  pub within : taken ≤ length piece
  pub bytes : Follows before.bytes after.bytes (take taken piece)

-- a put was refused for that fault: a part of the piece was taken, and the fault's count has risen
abbrev pub IsCut : List ℕ → Seen → Seen → PutFault → Type 0
IsCut piece before after put.Failed = Part before after piece × Rose before.faults after.faults
IsCut piece before after put.OutOfMemory = Part before after piece × Rose before.wants after.wants

-- one call put the line: whole, or in a prefix where a count rose
abbrev pub PutsLine : Seen → Seen → List ℕ → Type 0
PutsLine before after line =
    Whole before after line ⊎ (Part before after line × (Rose before.faults after.faults ⊎ Rose before.wants after.wants))
