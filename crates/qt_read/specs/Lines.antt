-- The line that tells why a text, a program or its settings are refused, each ended by a line feed. A place is written
-- `name:line:column`, with the name of its text, lines and columns from 1 as OpenQASM's own tools count them.
use Rattle.std.specs.Prelude.{ℕ, List, [], ◌∷◌, ◌++◌, codes, slice_index_or}
use Rattle.std.specs.Fmt.{decimal, signed_decimal}
use Rattle.qt_tree.specs.declared.place.Place.{Place}
use Rattle.qt_tree.specs.declared.refusal.TextRefusal.{TextRefusal}
use Rattle.qt_tree.specs.declared.refusal.TextRefusal.TheVariants as r
use Rattle.qt_tree.specs.Words.{feature_word, cause_word}

-- `names` are the names of the texts: that of the main text first, and then in the order in which they were fetched
module _ (names : List (List ℕ)) where
  abbrev pub name_of_text : ℕ → List ℕ
  name_of_text file = slice_index_or names file []

  abbrev pub place_text : Place → List ℕ
  place_text p = name_of_text p.file ++ codes ":" ++ decimal p.line ++ codes ":" ++ decimal p.column

  abbrev pub placed : List ℕ → Place → List ℕ → List ℕ
  placed before p behind = before ++ place_text p ++ behind

  -- the line of each refusal, without its line feed
  abbrev pub refusal_words : TextRefusal → List ℕ
  refusal_words (r.E1 name count) = codes "E1 " ++ name ++ codes " utf8 " ++ decimal count
  refusal_words (r.E2 name) = codes "E2 " ++ name ++ codes " long"
  refusal_words (r.E3 p) = placed (codes "E3 ") p (codes " token")
  refusal_words (r.E4 p) = placed (codes "E4 ") p (codes " syntax")
  refusal_words (r.E5 p) = placed (codes "E5 ") p (codes " nest")
  refusal_words (r.E6 p feature) = placed (codes "E6 ") p (codes " profile ") ++ feature_word feature
  refusal_words (r.E7 p) = placed (codes "E7 ") p (codes " version")
  refusal_words (r.E8 p name) = placed (codes "E8 ") p (codes " name ") ++ name
  refusal_words (r.E9 p name) = placed (codes "E9 ") p (codes " twice ") ++ name
  refusal_words (r.E10 p) = placed (codes "E10 ") p (codes " type")
  refusal_words (r.E11 p cause) = placed (codes "E11 ") p (codes " form ") ++ cause_word cause
  refusal_words (r.E12 p cause) = placed (codes "E12 ") p (codes " const ") ++ cause_word cause
  refusal_words (r.E13 p units) = placed (codes "E13 ") p (codes " angle ") ++ signed_decimal units
  refusal_words (r.E14 p wanted given) = placed (codes "E14 ") p (codes " arity ") ++ decimal wanted ++ codes " " ++ decimal given
  refusal_words (r.E15 total) = codes "E15 qubits " ++ decimal total
  refusal_words (r.E16 total) = codes "E16 slots " ++ decimal total
  refusal_words (r.E17 total) = codes "E17 size " ++ decimal total
  refusal_words (r.E18 p) = placed (codes "E18 ") p (codes " include")
  refusal_words (r.E19 name cause) = codes "E19 " ++ name ++ codes " " ++ cause_word cause
  refusal_words r.OutOfMemory = codes "M1 memory"

  abbrev pub refusal_line : TextRefusal → List ℕ
  refusal_line refusal = refusal_words refusal ++ 10 ∷ []
