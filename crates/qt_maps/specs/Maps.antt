-- Finite maps as lists of pairs with different keys, made by joining the values that have one key.
use Rattle.std.specs.Prelude.{◌≡◌, Bool, if◌then◌else◌, List, [], ◌∷◌, Option, None, Some}
use Rattle.std.specs.Map.{lookup}

module _ {V : Type 0} (join : V → V → V) where
  -- both, where both are there
  abbrev pub joined : Option V → Option V → Option V
  joined None b = b
  joined (Some a) None = Some a
  joined (Some a) (Some b) = Some (join a b)

module _ {K V : Type 0} (same : K → K → Bool) where
  -- what a pair has for a key
  abbrev pub at_key : K → K × V → Option V
  at_key k c = if same k c.0 then Some c.1 else None

  -- no key stands twice
  unfoldable pub Distinct : List (K × V) → Type 0
  Distinct [] = Unit {0}
  Distinct (e ∷ es) = (lookup (same e.0) es ≡ None) × Distinct es

  -- the same value at each key
  abbrev pub SameMap : List (K × V) → List (K × V) → Type 0
  SameMap es ds = (k : K) → lookup (same k) es ≡ lookup (same k) ds

module _ {K V : Type 0} (same : K → K → Bool) (join : V → V → V) where
  -- one more pair: its value is joined to what its key has
  unfoldable pub merged : List (K × V) → K → V → List (K × V)
  merged [] k v = (k, v) ∷ []
  merged (e ∷ es) k v = if same k e.0 then (e.0, join e.1 v) ∷ es else e ∷ merged es k v

  -- the map of a list of pairs
  unfoldable pub gathered : List (K × V) → List (K × V)
  gathered [] = []
  gathered (c ∷ cs) = merged (gathered cs) c.0 c.1

  -- all that a list of pairs has for a key
  unfoldable pub collected : K → List (K × V) → Option V
  collected k [] = None
  collected k (c ∷ cs) = joined join (collected k cs) (at_key same k c)

-- the sum over a list
module _ {A M : Type 0} (none : M) (add : M → M → M) (part : A → M) where
  unfoldable pub total : List A → M
  total [] = none
  total (x ∷ xs) = add (part x) (total xs)

-- what holds of each element, and of some
module _ {A : Type 0} (P : A → Type 0) where
  unfoldable pub Each : List A → Type 0
  Each [] = Unit {0}
  Each (x ∷ xs) = P x × Each xs

  pub data Somewhere : List A → Type 0 where
    here : {x : A} {xs : List A} → P x → Somewhere (x ∷ xs)
    there : {x : A} {xs : List A} → Somewhere xs → Somewhere (x ∷ xs)
