-- Where names were added last, as a map from names keeps it beside the list of entries.
use Rattle.std.specs.Prelude.{◌≡◌, ℕ, suc, nat_eq, Bool, true, false, List, [], ◌∷◌, ◌++◌, map, string_bytes, Option, Some, None, if◌then◌else◌}
use Rattle.std.specs.Option.{option_map, option_or}
use Rattle.std.specs.Cmp.Lexicographic.{pointwise}
use Rattle.std.specs.declared.string.String.{String}
use Rattle.qt_const_rules.specs.declared.consts.Entry.{Entry}
use Rattle.qt_const_rules.specs.declared.consts.Kept.{Kept}

-- a name is its bytes
abbrev pub Name : Type 0
Name = List ℕ

-- a name, and the place of its last entry, if it has any
abbrev pub Mark : Type 0
Mark = Name × Option ℕ

abbrev pub mark_of : {Z : Type 0} → String Z × Option ℕ → Mark
mark_of pair = (string_bytes pair.0, pair.1)

unfoldable pub marks_of : {Z : Type 0} → List (String Z × Option ℕ) → List Mark
marks_of pairs = map mark_of pairs

-- the place of the last entry of a name
unfoldable pub place_in : List Mark → Name → Option ℕ
place_in [] name = None
place_in (mark ∷ marks) name = if pointwise nat_eq name mark.0 then mark.1 else place_in marks name

-- a name is among the marks
unfoldable pub is_marked : List Mark → Name → Bool
is_marked [] name = false
is_marked (mark ∷ marks) name = if pointwise nat_eq name mark.0 then true else is_marked marks name

-- the place of the last of the entries of a name
unfoldable pub last_at : List Entry → Name → Option ℕ
last_at [] name = None
last_at (entry ∷ later) name = option_or (option_map (λ place. suc place) (last_at later name)) (if pointwise nat_eq entry.name name then Some 0 else None)

abbrev pub entries_of : List Kept → List Entry
entries_of kept = map (λ it. it.entry) kept

-- each entry knows the place of the one before it that has its name
unfoldable pub AreLinked : List Entry → List Kept → Type 0
AreLinked before [] = Unit {0}
AreLinked before (it ∷ later) = (it.earlier ≡ last_at before it.entry.name) × AreLinked (before ++ it.entry ∷ []) later

-- what is kept beside the entries is what they say
pub record IsIndexed (kept : List Kept) (marks : List Mark) : Type 0 where
  pub places : (name : Name) → place_in marks name ≡ last_at (entries_of kept) name
  pub links : AreLinked [] kept
