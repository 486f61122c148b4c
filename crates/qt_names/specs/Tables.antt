-- Two tables of names beside one another: what a program sees outside of subroutines and gates, and what it sees inside of them.
-- A global name stands in the first, and in the second as well where it is seen inside. So a global variable that has the name of a gate
-- hides that gate outside and not inside.
use Rattle.std.specs.Prelude.{◌≡◌, ◌≢◌, Bool, ◌&&◌, ◌||◌, List, Result, Ok, Err, if◌then◌else◌}
use Rattle.qt_tree.specs.declared.place.Place.{Place}
use Rattle.qt_tree.specs.declared.refusal.TextRefusal.{TextRefusal}
use Rattle.qt_tree.specs.declared.refusal.TextRefusal.TheVariants as refusal
use Rattle.qt_names.specs.declared.named.Named.{Named}
use Rattle.qt_names.specs.declared.tables.Tables.{Tables}
use Rattle.qt_names.specs.Entries.{Entry, Name}
use Rattle.qt_names.specs.Scopes.{declared, declares}
use Rattle.qt_names.specs.Seen.{is_seen_inside}

-- the table of the outside, and that of the inside
abbrev pub Pair : Type 0
Pair = List (List Entry) × List (List Entry)

abbrev pub both : Tables → Pair
both tables = (tables.outside, tables.inside)

-- the name stands already in a table that it would be added to
abbrev pub is_taken : Pair → Name → Named → Bool
is_taken tables name named = declares tables.0 name || (is_seen_inside named.what && declares tables.1 name)

abbrev pub declared_global : Pair → Name → Named → Pair
declared_global tables name named =
    (declared tables.0 name named, if is_seen_inside named.what then declared tables.1 name named else tables.1)

-- ---- what the call answers. Want of memory is free

abbrev pub global_declaration : Pair → Name → Named → Place → Result Pair TextRefusal
global_declaration tables name named place =
    if is_taken tables name named then Err (refusal.E9 place name) else Ok (declared_global tables name named)

abbrev pub DeclaresGlobal : Tables → Name → Named → Place → Result (Unit {0}) TextRefusal → Tables → Type 0
DeclaresGlobal old name named place (Ok done) new = global_declaration (both old) name named place ≡ Ok (both new)
DeclaresGlobal old name named place (Err e) new =
    (both new ≡ both old) × (e ≢ refusal.OutOfMemory → global_declaration (both old) name named place ≡ Err e)
