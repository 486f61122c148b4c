-- Entries of scopes, and how a scope keeps them: as a map from texts, in the order in which they were declared.
use Rattle.std.specs.Prelude.{ℕ, List, map, string_bytes}
use Rattle.std.specs.declared.string.String.{String}
use Rattle.qt_names.specs.declared.named.Named.{Named}

-- a name is its bytes
abbrev pub Name : Type 0
Name = List ℕ

-- a name, and what it stands for
pub record Entry : Type 0 where
  pub name : Name
  pub named : Named

abbrev pub entry_of : {Z : Type 0} → String Z × Named → Entry
entry_of pair = record { name = string_bytes pair.0; named = pair.1 }

unfoldable pub entries_of : {Z : Type 0} → List (String Z × Named) → List Entry
entries_of pairs = map entry_of pairs
