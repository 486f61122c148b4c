-- What stands where a name was declared in one table and is refused by the other: the entry that was added last is taken out again.
use Rattle.std.specs.Prelude.{◌-◌, List, [], ◌∷◌, length, take}
use Rattle.qt_names.specs.Entries.{Entry}

abbrev pub without_last : List Entry → List Entry
without_last scope = take (length scope - 1) scope

-- of the innermost scope
abbrev pub taken_back : List (List Entry) → List (List Entry)
taken_back [] = []
taken_back (scope ∷ outer) = without_last scope ∷ outer
