-- A map that is filled up to a limit, and a mark that says that the limit was passed.
use Rattle.std.specs.Prelude.{◌≡◌, ℕ, ◌+◌, Bool, true, false, if◌then◌else◌, List, [], ◌∷◌, ◌++◌, length, Option, None, Some}
use Rattle.std.specs.Map.{lookup, set_value}
use Rattle.qt_maps.specs.Maps.{gathered, collected, Distinct}

pub record Kept (K S : Type 0) : Type 0 where
  pub entries : List (K × S)
  pub full : Bool

module _ {K V S : Type 0} (same : K → K → Bool) (fresh : V → S) (add_to : S → V → S) (over : ℕ → Bool) where
  abbrev pub put_new : Kept K S → K × V → Kept K S
  put_new k c = if k.full then k else (if over (length k.entries + 1) then record k { full = true } else record k { entries = k.entries ++ (c.0, fresh c.1) ∷ [] })

  abbrev pub put_at : Kept K S → K × V → Option S → Kept K S
  put_at k c (Some s) = record k { entries = set_value (same c.0) k.entries (add_to s c.1) }
  put_at k c None = put_new k c

  -- one more pair: merged where its key is there, else last where it fits, and else left out with the mark set
  unfoldable pub put : Kept K S → K × V → Kept K S
  put k c = put_at k c (lookup (same c.0) k.entries)

  unfoldable pub put_all : Kept K S → List (K × V) → Kept K S
  put_all k [] = k
  put_all k (c ∷ cs) = put_all (put k c) cs

-- the values without what only the map's owner needs
unfoldable pub plain : {K V S : Type 0} → (S → V) → List (K × S) → List (K × V)
plain strip [] = []
plain strip (e ∷ es) = (e.0, strip e.1) ∷ plain strip es

module _ {K V : Type 0} (same : K → K → Bool) (join : V → V → V) where
  -- the entries are the map of the pairs
  pub record IsMap (es cs : List (K × V)) : Type 0 where
    pub distinct : Distinct same es
    pub at : (x : K) → lookup (same x) es ≡ collected same join x cs

  -- the mark is on exactly where the pairs have too many keys; while it is off, the entries are the map of the pairs
  pub record IsKept (over : ℕ → Bool) (es : List (K × V)) (full : Bool) (cs : List (K × V)) : Type 0 where
    pub mark : full ≡ over (length (gathered same join cs))
    pub map : full ≡ false → IsMap es cs
