-- Scopes of names: OpenQASM 3.0 live specification, "Scoping of variables"; Cross et al. 2022.
-- The scopes that are open are a list with the innermost first. A scope is the list of its entries, and no name is declared twice in it.
use Rattle.std.specs.Prelude.{◌≡◌, ◌≢◌, nat_eq, Bool, true, false, List, [], ◌∷◌, ◌++◌, Option, Some, None, is_some, Result, Ok, Err, if◌then◌else◌}
use Rattle.std.specs.Option.{option_or}
use Rattle.std.specs.Cmp.Lexicographic.{pointwise}
use denote.Ref.{Bor}
use Rattle.qt_tree.specs.declared.place.Place.{Place}
use Rattle.qt_tree.specs.declared.refusal.TextRefusal.{TextRefusal}
use Rattle.qt_tree.specs.declared.refusal.TextRefusal.TheVariants as refusal
use Rattle.qt_names.specs.declared.named.Named.{Named}
use Rattle.qt_names.specs.Entries.{Entry, Name}

-- what a scope says of a name
unfoldable pub found_in : List Entry → Name → Option Named
found_in [] name = None
found_in (entry ∷ rest) name = if pointwise nat_eq name entry.name then Some entry.named else found_in rest name

-- what a name stands for: what the innermost scope that has it says
abbrev pub found : List (List Entry) → Name → Option Named
found [] name = None
found (scope ∷ outer) name = option_or (found_in scope name) (found outer name)

abbrev pub entered : List (List Entry) → List (List Entry)
entered scopes = [] ∷ scopes

-- the global scope stays open
abbrev pub left : List (List Entry) → List (List Entry)
left (scope ∷ next ∷ outer) = next ∷ outer
left scopes = scopes

-- the global scope alone is open
abbrev pub is_outermost : List (List Entry) → Bool
is_outermost (scope ∷ []) = true
is_outermost _ = false

-- the innermost scope has the name
abbrev pub declares : List (List Entry) → Name → Bool
declares [] name = false
declares (scope ∷ outer) name = is_some (found_in scope name)

-- the name is added to the innermost scope
abbrev pub declared : List (List Entry) → Name → Named → List (List Entry)
declared [] name named = []
declared (scope ∷ outer) name named = (scope ++ (record { name = name; named = named }) ∷ []) ∷ outer

-- ---- what the calls answer. Want of memory is free

abbrev pub declaration : List (List Entry) → Name → Named → Place → Result (List (List Entry)) TextRefusal
declaration scopes name named place =
    if declares scopes name then Err (refusal.E9 place name) else Ok (declared scopes name named)

abbrev pub Declares : List (List Entry) → Name → Named → Place → Result (Unit {0}) TextRefusal → List (List Entry) → Type 0
Declares old name named place (Ok done) new = declaration old name named place ≡ Ok new
Declares old name named place (Err e) new = (new ≡ old) × (e ≢ refusal.OutOfMemory → declaration old name named place ≡ Err e)

abbrev pub or_unknown : Name → Place → Option Named → Result Named TextRefusal
or_unknown name place (Some named) = Ok named
or_unknown name place None = Err (refusal.E8 place name)

abbrev pub finding : List (List Entry) → Name → Place → Result Named TextRefusal
finding scopes name place = or_unknown name place (found scopes name)

abbrev pub Finds : List (List Entry) → Name → Place → Result (Bor Named) TextRefusal → Type 0
Finds scopes name place (Ok named) = finding scopes name place ≡ Ok named.now
Finds scopes name place (Err e) = e ≢ refusal.OutOfMemory → finding scopes name place ≡ Err e
