-- What a refusal tells: the place of the token at fault, and the feature that the profile leaves out, where the token that stops
-- the reading is of one.
use Rattle.std.specs.Prelude.{List, Option, Some, None}
use Rattle.qt_tree.specs.declared.place.Place.{Place}
use Rattle.qt_tree.specs.declared.refusal.Feature.{Feature}
use Rattle.qt_terminals.specs.Alphabet.{feature_of}
use Rattle.qt_terminals.specs.Terminals.{PlacedTerminal, stream}
use Rattle.qt_grammar.specs.declared.refusal.Refusal.{Refusal}
use Rattle.qt_grammar.specs.declared.refusal.Refusal.TheVariants as by_number
use Rattle.qt_lookahead.specs.declared.refusal.ParseRefusal.{ParseRefusal}
use Rattle.qt_lookahead.specs.declared.refusal.ParseRefusal.TheVariants.{Syntax, Nest, NotInProfile, OutOfMemory}

-- the stopper is refused by the name of its feature, if it has one
abbrev pub stopped_by : Option Feature → Place → ParseRefusal
stopped_by None place = Syntax place
stopped_by (Some feature) place = NotInProfile place feature

abbrev pub located : List PlacedTerminal → Refusal → ParseRefusal
located ts (by_number.Syntax n) = stopped_by (feature_of ((stream ts n).terminal)) ((stream ts n).place)
located ts (by_number.Nest n) = Nest ((stream ts n).place)
located ts by_number.OutOfMemory = OutOfMemory
