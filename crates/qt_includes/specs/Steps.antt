-- What the steps find, and what they leave of the shelf.
use Rattle.std.specs.Prelude.{◌≡◌, ℕ, List, ◌∷◌, length, reverse, Option, Some, None, Result, Ok, Err}
use Rattle.qt_outside.specs.Causes.{Texts, text_of, Rose}
use Rattle.qt_read.specs.Reading.{IsTextOfProgram, IsRefused}
use Rattle.qt_tree.specs.declared.place.Place.{Place}
use Rattle.qt_tree.specs.declared.program.Item.{Item}
use Rattle.qt_tree.specs.declared.program.Program.{Program}
use Rattle.qt_tree.specs.declared.refusal.TextRefusal.{TextRefusal}
use Rattle.qt_tree.specs.declared.refusal.TextRefusal.TheVariants as text
use Rattle.qt_includes.specs.declared.fetching.Begun.{Begun}
use Rattle.qt_includes.specs.declared.gathered.Gathered.{Gathered}
use Rattle.qt_includes.specs.declared.refusal.IncludeRefusal.{IncludeRefusal}
use Rattle.qt_includes.specs.declared.refusal.IncludeRefusal.TheVariants.{Shelf, Text, OutOfMemory}
use Rattle.qt_includes.specs.Includes.{Stop, asks, refuses, asked, begun, PutsInPlace, IsProgramOf, StopsAt}

-- a refused text, told as a refusal of all
abbrev pub IsToldAs : TextRefusal → IncludeRefusal → Type 0
IsToldAs text.OutOfMemory told = told ≡ OutOfMemory
IsToldAs reason told = told ≡ Text reason

-- what is left of the shelf's count of faults, which rose for the failed name, or stands where it stood
abbrev pub HasCause : {A : Type 0} → ℕ → ℕ → List ℕ → Result A IncludeRefusal → Type 0
HasCause before now failed (Ok _) = now ≡ before
HasCause before now failed (Err (Shelf of)) = Rose before now × (failed ≡ of)
HasCause before now failed (Err (Text reason)) = now ≡ before
HasCause before now failed (Err OutOfMemory) = Unit {0}

-- why the text of a name with that number is that of no program
abbrev pub HasNoProgram : Texts → List ℕ → ℕ → IncludeRefusal → Type 0
HasNoProgram texts name number (Shelf of) = of ≡ name
HasNoProgram texts name number (Text reason) = IsRefused name number (text_of texts name) reason
HasNoProgram texts name number OutOfMemory = Unit {0}

-- the next text is begun, or isn't read
abbrev pub HasBegun : Texts → List ℕ → Gathered → Result Begun IncludeRefusal → Gathered → Type 0
HasBegun texts name g (Ok b) now =
    (program : Program) × IsTextOfProgram (length g.names) (text_of texts name) program × (now ≡ begun g name program)
    × (b.waiting ≡ reverse program.items) × (b.end ≡ program.end)
HasBegun texts name g (Err (Shelf of)) now = (of ≡ name) × (now ≡ asked g name)
HasBegun texts name g (Err (Text reason)) now = IsRefused name (length g.names) (text_of texts name) reason × (now ≡ asked g name)
HasBegun texts name g (Err OutOfMemory) now = Unit {0}

-- the items come to this
abbrev pub HasPlaced : {A : Type 0} → Texts → ℕ → List Item → Gathered → Result A IncludeRefusal → Gathered → Type 0
HasPlaced texts depth items g (Ok _) now = PutsInPlace texts depth items g None now
HasPlaced texts depth items g (Err (Shelf of)) now = PutsInPlace texts depth items g (Some (asks of)) now
HasPlaced texts depth items g (Err (Text reason)) now = PutsInPlace texts depth items g (Some (refuses reason)) now
HasPlaced texts depth items g (Err OutOfMemory) now = Unit {0}

-- one item is in place, whatever follows it, or has stopped
abbrev pub HasAdvanced : Texts → ℕ → Item → Gathered → Result (Unit {0}) IncludeRefusal → Gathered → Type 0
HasAdvanced texts depth it g (Ok _) now =
    (rest : List Item) (stop : Option Stop) (last : Gathered) → PutsInPlace texts depth rest now stop last → PutsInPlace texts depth (it ∷ rest) g stop last
HasAdvanced texts depth it g (Err (Shelf of)) now = (rest : List Item) → PutsInPlace texts depth (it ∷ rest) g (Some (asks of)) now
HasAdvanced texts depth it g (Err (Text reason)) now = (rest : List Item) → PutsInPlace texts depth (it ∷ rest) g (Some (refuses reason)) now
HasAdvanced texts depth it g (Err OutOfMemory) now = Unit {0}

-- the program that is gathered, which ends there
abbrev pub program_of : Gathered → Place → Program
program_of g place = record { versions = g.versions; items = g.items; end = place }

-- the main text of that name is in place, or has stopped
abbrev pub HasGathered : Texts → List ℕ → Result Place IncludeRefusal → Gathered → Type 0
HasGathered texts name (Ok place) now = IsProgramOf texts name now.names (program_of now place)
HasGathered texts name (Err (Shelf of)) now = StopsAt texts name now.names (asks of)
HasGathered texts name (Err (Text reason)) now = StopsAt texts name now.names (refuses reason)
HasGathered texts name (Err OutOfMemory) now = Unit {0}

-- what the main text of that name comes to: its program, or the first stop; and the names of the texts that were asked for
abbrev pub ComesTo : Texts → List ℕ → List (List ℕ) → Result Program IncludeRefusal → Type 0
ComesTo texts name names (Ok program) = IsProgramOf texts name names program
ComesTo texts name names (Err (Shelf of)) = StopsAt texts name names (asks of)
ComesTo texts name names (Err (Text reason)) = StopsAt texts name names (refuses reason)
ComesTo texts name names (Err OutOfMemory) = Unit {0}
