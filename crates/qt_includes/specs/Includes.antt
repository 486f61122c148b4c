-- The program of a text and of all that it includes (OpenQASM 3.0 live specification, "Included files"): the items of an included text stand in
-- place of the statement that includes it, and its version behind those of the texts before it. Texts are asked for by their names, one
-- after another, each with all that it includes before the next statement. They have numbers in this order, the main text having 0.
use Rattle.std.specs.Prelude.{◌≡◌, ℕ, ◌+◌, nat_eq, nat_lt, ◌&&◌, Bool, true, false, if◌then◌else◌, List, [], ◌∷◌, ◌++◌, codes, length, Option, Some, None}
use Rattle.std.specs.Cmp.Lexicographic.{pointwise}
use Rattle.qt_outside.specs.Causes.{Texts, text_of}
use Rattle.qt_read.specs.Reading.{IsTextOfProgram, IsRefused}
use Rattle.qt_tree.specs.declared.place.Place.{Place}
use Rattle.qt_tree.specs.declared.program.Item.{Item}
use Rattle.qt_tree.specs.declared.program.Item.TheVariants as item
use Rattle.qt_tree.specs.declared.program.Program.{Program}
use Rattle.qt_tree.specs.declared.refusal.TextRefusal.{TextRefusal}
use Rattle.qt_tree.specs.declared.refusal.TextRefusal.TheVariants as refusal
use Rattle.qt_includes.specs.declared.gathered.Gathered.{Gathered}

-- the standard gates are built in: their include stays where it stands, and they are no text
abbrev pub is_standard : List ℕ → Bool
is_standard name = pointwise nat_eq name (codes "stdgates.inc")

-- the place of an item and the name of the text that it includes
abbrev pub include_of : Item → Option (Place × List ℕ)
include_of (item.Include place name) = if is_standard name then None else Some (place, name)
include_of _ = None

-- ---- what is in place

abbrev pub nothing : Gathered
nothing = record { names = []; versions = []; items = [] }

-- a text of that name is asked for
abbrev pub asked : Gathered → List ℕ → Gathered
asked g name = record g { names = g.names ++ name ∷ [] }

-- it is that of the program
abbrev pub begun : Gathered → List ℕ → Program → Gathered
begun g name program = record g { names = g.names ++ name ∷ []; versions = g.versions ++ program.versions }

abbrev pub kept : Gathered → Item → Gathered
kept g it = record g { items = g.items ++ it ∷ [] }

-- ---- the limits

abbrev pub most_deep : ℕ
most_deep = 8

abbrev pub most_texts : ℕ
most_texts = 64

-- a text of that depth may include one more. The main text has depth 0, and an included one is one deeper than the text that includes it
abbrev pub fits : ℕ → Gathered → Bool
fits depth g = nat_lt depth most_deep && nat_lt (length g.names) most_texts

-- ---- what items come to

-- where one may stop: a text of that name is asked for, as if none came; or a text or an include is refused
pub data Stop : Type 0 where
  asks : List ℕ → Stop
  refuses : TextRefusal → Stop

-- the next text isn't read
pub data IsUnread (texts : Texts) (g : Gathered) (name : List ℕ) : Stop → Type 0 where
  awaited : IsUnread texts g name (asks name)
  refused : (reason : TextRefusal) → IsRefused name (length g.names) (text_of texts name) reason → IsUnread texts g name (refuses reason)

-- the items of a text of that depth, behind what is in place, come to this: all of them are in place (None), or one has stopped
pub data PutsInPlace (texts : Texts) : ℕ → List Item → Gathered → Option Stop → Gathered → Type 0 where
  -- no item is left
  all_placed : (depth : ℕ) (g : Gathered) → PutsInPlace texts depth [] g None g
  -- an item that includes no text stays
  stays : (depth : ℕ) (it : Item) (rest : List Item) (g last : Gathered) (stop : Option Stop)
      → include_of it ≡ None
      → PutsInPlace texts depth rest (kept g it) stop last
      → PutsInPlace texts depth (it ∷ rest) g stop last
  -- an include that doesn't fit is refused, and its text isn't asked for
  too_many : (depth : ℕ) (it : Item) (rest : List Item) (g : Gathered) (place : Place) (name : List ℕ)
      → include_of it ≡ Some (place, name)
      → fits depth g ≡ false
      → PutsInPlace texts depth (it ∷ rest) g (Some (refuses (refusal.E18 place))) g
  -- the included text isn't read
  unread : (depth : ℕ) (it : Item) (rest : List Item) (g : Gathered) (place : Place) (name : List ℕ) (stop : Stop)
      → include_of it ≡ Some (place, name)
      → fits depth g ≡ true
      → IsUnread texts g name stop
      → PutsInPlace texts depth (it ∷ rest) g (Some stop) (asked g name)
  -- one of its items has stopped
  stopped : (depth : ℕ) (it : Item) (rest : List Item) (g last : Gathered) (place : Place) (name : List ℕ) (program : Program) (stop : Stop)
      → include_of it ≡ Some (place, name)
      → fits depth g ≡ true
      → IsTextOfProgram (length g.names) (text_of texts name) program
      → PutsInPlace texts (depth + 1) program.items (begun g name program) (Some stop) last
      → PutsInPlace texts depth (it ∷ rest) g (Some stop) last
  -- all of its items are in place, and the next ones follow
  included : (depth : ℕ) (it : Item) (rest : List Item) (g next last : Gathered) (place : Place) (name : List ℕ) (program : Program) (stop : Option Stop)
      → include_of it ≡ Some (place, name)
      → fits depth g ≡ true
      → IsTextOfProgram (length g.names) (text_of texts name) program
      → PutsInPlace texts (depth + 1) program.items (begun g name program) None next
      → PutsInPlace texts depth rest next stop last
      → PutsInPlace texts depth (it ∷ rest) g stop last

-- ---- what the main text comes to

-- the program of the main text of that name with all includes in place, and the names of its texts by their numbers
pub record IsProgramOf (texts : Texts) (name : List ℕ) (names : List (List ℕ)) (program : Program) : Type 0 where
  pub main : Program
  pub read : IsTextOfProgram 0 (text_of texts name) main
  pub placed : PutsInPlace texts 0 main.items (begun nothing name main) None (record {
    names = names;
    versions = program.versions;
    items = program.items;
  })
  pub ends : program.end ≡ main.end

-- where the main text of that name may stop, and the names of the texts that were asked for
pub data StopsAt (texts : Texts) (name : List ℕ) : List (List ℕ) → Stop → Type 0 where
  at_once : (stop : Stop) → IsUnread texts nothing name stop → StopsAt texts name (name ∷ []) stop
  later : (main : Program) (stop : Stop) (last : Gathered)
      → IsTextOfProgram 0 (text_of texts name) main
      → PutsInPlace texts 0 main.items (begun nothing name main) (Some stop) last
      → StopsAt texts name last.names stop
