-- What a gathered map has at a key, and sums over it.
use Rattle.std.proofs.Common.{
  ◌≡◌,
  Bool,
  true,
  false,
  cond,
  if◌then◌else◌,
  List,
  [],
  ◌∷◌,
  Option,
  None,
  Some,
  refl,
  sym,
  ap,
  ◌∙◌,
  subst,
  ◌⊎◌,
  inl,
  inr,
}
use Rattle.std.specs.Map.{lookup}
use Rattle.qt_maps.specs.Maps.{merged, gathered, joined, at_key, collected, Distinct, SameMap, total, Each, Somewhere, here, there}

pub none_some : {A B : Type 0} {a : A} → None ≡ Some a → B
none_some h = cc h

pub true_false : {B : Type 0} (b : Bool) → b ≡ true → b ≡ false → B
true_false b p q = cc (p, q)

joined_none : {V : Type 0} (join : V → V → V) (o : Option V) → joined join o None ≡ o
joined_none join None = refl
joined_none join (Some a) = refl

module _ {K : Type 0} (same : K → K → Bool) (same_is : (a b : K) → same a b ≡ true → a ≡ b) (same_self : (a : K) → same a a ≡ true) where
  pub same_flip : (a b : K) → same a b ≡ same b a
  same_flip a b = step (same a b) refl (same b a) refl
    where
      step : (x : Bool) → same a b ≡ x → (y : Bool) → same b a ≡ y → x ≡ y
      step true p true q = refl
      step false p false q = refl
      step true p false q = true_false (same b a) (subst (λ (y : K). same b y ≡ true) (sym (same_is a b p)) (same_self b)) q
      step false p true q = true_false (same a b) (subst (λ (y : K). same a y ≡ true) (sym (same_is b a q)) (same_self a)) p

module _ {K V : Type 0} (same : K → K → Bool) (same_is : (a b : K) → same a b ≡ true → a ≡ b) (same_self : (a : K) → same a a ≡ true) where
  -- equal keys look up alike
  pub lookup_same : (a b : K) (es : List (K × V)) → same a b ≡ true → lookup (same a) es ≡ lookup (same b) es
  lookup_same a b es t = ap (λ (x : K). lookup (same x) es) (same_is a b t)

  -- a pair for the key that is looked up, and one for another key
  pub lookup_hit : (x : K) (e : K × V) (es : List (K × V)) → same x e.0 ≡ true → lookup (same x) (e ∷ es) ≡ Some e.1
  lookup_hit x e es t = ap (λ b. cond b (Some e.1) (lookup (same x) es)) t

  pub lookup_miss : (x : K) (e : K × V) (es : List (K × V)) → same x e.0 ≡ false → lookup (same x) (e ∷ es) ≡ lookup (same x) es
  lookup_miss x e es t = ap (λ b. cond b (Some e.1) (lookup (same x) es)) t

module _ {K V : Type 0} (same : K → K → Bool) (same_is : (a b : K) → same a b ≡ true → a ≡ b) (same_self : (a : K) → same a a ≡ true) (join : V → V → V) where
  -- a merge joins at its key, and changes no other
  pub lookup-merged : (x : K) (es : List (K × V)) (k : K) (v : V)
      → lookup (same x) (merged same join es k v) ≡ joined join (lookup (same x) es) (at_key same x (k, v))
  unfolding merged
  lookup-merged x [] k v = step (same x k)
    where
      step : (b : Bool) → cond b (Some v) None ≡ (if b then Some v else None)
      step true = refl
      step false = refl
  lookup-merged x (e ∷ es) k v = first (lookup-merged x es k v) (same k e.0) refl
    where
      hit : (b : Bool) (c : Bool) → b ≡ c
          → cond b (Some (join e.1 v)) (lookup (same x) es) ≡ joined join (cond b (Some e.1) (lookup (same x) es)) (if c then Some v else None)
      hit true true p = refl
      hit false false p = sym (joined_none join (lookup (same x) es))
      hit true false p = cc p
      hit false true p = cc p

      miss : (c : Bool) → lookup (same x) (merged same join es k v) ≡ joined join (lookup (same x) es) (if c then Some v else None) → (b : Bool)
          → (b ≡ true → c ≡ false)
          → cond b (Some e.1) (lookup (same x) (merged same join es k v)) ≡ joined join (cond b (Some e.1) (lookup (same x) es)) (if c then Some v else None)
      miss true ih true p = cc (p refl)
      miss false ih true p = refl
      miss c ih false p = ih

      first : (lookup (same x) (merged same join es k v) ≡ joined join (lookup (same x) es) (at_key same x (k, v)))
          → (a : Bool) → same k e.0 ≡ a → lookup (same x) (if a then (e.0, join e.1 v) ∷ es else e ∷ merged same join es k v) ≡ joined join (cond (same x e.0) (Some e.1) (lookup (same x) es)) (if same x k then Some v else None)
      first ih true p = hit (same x e.0) (same x k) (ap (same x) (sym (same_is k e.0 p)))
      first ih false p = miss (same x k) ih (same x e.0) (λ t. ap (λ (y : K). same y k) (same_is x e.0 t) ∙ same_flip same same_is same_self e.0 k ∙ p)

  pub distinct-merged : (es : List (K × V)) (k : K) (v : V) → Distinct same es → Distinct same (merged same join es k v)
  unfolding merged Distinct
  distinct-merged [] k v d = (refl, tt)
  distinct-merged (e ∷ es) k v d = step (distinct-merged es k v d.1) (same k e.0) refl
    where
      step : Distinct same (merged same join es k v) → (a : Bool) → same k e.0 ≡ a
          → Distinct same (if a then (e.0, join e.1 v) ∷ es else e ∷ merged same join es k v)
      step ih true p = (d.0, d.1)
      step ih false p = (lookup-merged e.0 es k v ∙ ap (λ o. joined join o (at_key same e.0 (k, v))) d.0 ∙ ap (λ b. if b then Some v else None) (same_flip same same_is same_self e.0 k ∙ p), ih)

  pub lookup-gathered : (x : K) (cs : List (K × V)) → lookup (same x) (gathered same join cs) ≡ collected same join x cs
  unfolding gathered collected
  lookup-gathered x [] = refl
  lookup-gathered x (c ∷ cs) = lookup-merged x (gathered same join cs) c.0 c.1 ∙ ap (λ o. joined join o (at_key same x c)) (lookup-gathered x cs)

  pub distinct-gathered : (cs : List (K × V)) → Distinct same (gathered same join cs)
  unfolding gathered Distinct
  distinct-gathered [] = tt
  distinct-gathered (c ∷ cs) = distinct-merged (gathered same join cs) c.0 c.1 (distinct-gathered cs)

-- sums over two lists that are one map
module _ {K V : Type 0} (same : K → K → Bool) (same_is : (a b : K) → same a b ≡ true → a ≡ b) (same_self : (a : K) → same a a ≡ true)
    {M : Type 0} (none : M) (add : M → M → M) (none_add : (a : M) → add none a ≡ a) (assoc : (a b c : M) → add (add a b) c ≡ add a (add b c)) (comm : (a b : M) → add a b ≡ add b a) (part : K × V → M) where
  -- the pairs but the first with the key
  abbrev without : K → List (K × V) → List (K × V)
  without x [] = []
  without x (e ∷ es) = if same x e.0 then es else e ∷ without x es

  without_self : (x : K) (es : List (K × V)) → Distinct same es → lookup (same x) (without x es) ≡ None
  unfolding Distinct
  without_self x [] d = refl
  without_self x (e ∷ es) d = step (without_self x es d.1) (same x e.0) refl
    where
      step : lookup (same x) (without x es) ≡ None → (a : Bool) → same x e.0 ≡ a → lookup (same x) (if a then es else e ∷ without x es) ≡ None
      step ih true p = lookup_same same same_is same_self x e.0 es p ∙ d.0
      step ih false p = lookup_miss same same_is same_self x e (without x es) p ∙ ih

  without_other : (x y : K) (es : List (K × V)) → same y x ≡ false → lookup (same y) (without x es) ≡ lookup (same y) es
  without_other x y [] f = refl
  without_other x y (e ∷ es) f = step (without_other x y es f) (same x e.0) refl
    where
      step : lookup (same y) (without x es) ≡ lookup (same y) es → (a : Bool) → same x e.0 ≡ a
          → lookup (same y) (if a then es else e ∷ without x es) ≡ cond (same y e.0) (Some e.1) (lookup (same y) es)
      step ih true p = sym (lookup_miss same same_is same_self y e es (ap (same y) (sym (same_is x e.0 p)) ∙ f))
      step ih false p = ap (λ o. cond (same y e.0) (Some e.1) o) ih

  without_distinct : (x : K) (es : List (K × V)) → Distinct same es → Distinct same (without x es)
  unfolding Distinct
  without_distinct x [] d = tt
  without_distinct x (e ∷ es) d = step (without_distinct x es d.1) (same x e.0) refl
    where
      step : Distinct same (without x es) → (a : Bool) → same x e.0 ≡ a → Distinct same (if a then es else e ∷ without x es)
      step ih true p = d.1
      step ih false p = (without_other x e.0 es (same_flip same same_is same_self e.0 x ∙ p) ∙ d.0, ih)

  swap : (a b c : M) → add a (add b c) ≡ add b (add a c)
  swap a b c = sym (assoc a b c) ∙ ap (λ x. add x c) (comm a b) ∙ assoc b a c

  without_total : (x : K) (v : V) (es : List (K × V)) → lookup (same x) es ≡ Some v
      → total none add part es ≡ add (part (x, v)) (total none add part (without x es))
  unfolding total
  without_total x v [] h = none_some h
  without_total x v (e ∷ es) h = step (without_total x v es) (same x e.0) refl
    where
      step : (lookup (same x) es ≡ Some v → total none add part es ≡ add (part (x, v)) (total none add part (without x es)))
          → (a : Bool) → same x e.0 ≡ a → add (part e) (total none add part es) ≡ add (part (x, v)) (total none add part (if a then es else e ∷ without x es))
      step ih true p =
          let q : e.1 ≡ v = cc (sym (lookup_hit same same_is same_self x e es p) ∙ h) in
          ap (λ (m : M). add m (total none add part es)) (ap (λ (y : K). part (y, e.1)) (sym (same_is x e.0 p)) ∙ ap (λ (w : V). part (x, w)) q)
      step ih false p =
          ap (add (part e)) (ih (sym (lookup_miss same same_is same_self x e es p) ∙ h))
          ∙ swap (part e) (part (x, v)) (total none add part (without x es))

  pub total_same : (es ds : List (K × V)) → Distinct same es → Distinct same ds → SameMap same es ds → total none add part es ≡ total none add part ds
  unfolding total Distinct
  total_same [] [] d f h = refl
  total_same [] (e ∷ ds) d f h = none_some (h e.0 ∙ lookup_hit same same_is same_self e.0 e ds (same_self e.0))
  total_same (e ∷ es) ds d f h =
      ap (add (part e)) (total_same es (without e.0 ds) d.1 (without_distinct e.0 ds f) (λ y. at y (same y e.0) refl))
      ∙ sym (without_total e.0 e.1 ds (sym (h e.0) ∙ lookup_hit same same_is same_self e.0 e es (same_self e.0)))
    where
      at : (y : K) (a : Bool) → same y e.0 ≡ a → lookup (same y) es ≡ lookup (same y) (without e.0 ds)
      at y true p = lookup_same same same_is same_self y e.0 es p ∙ d.0
          ∙ sym (lookup_same same same_is same_self y e.0 (without e.0 ds) p ∙ without_self e.0 ds f)
      at y false p = sym (lookup_miss same same_is same_self y e es p) ∙ h y ∙ sym (without_other e.0 y ds p)

-- what holds of each value of a gathered map, and sums over it
module _ {K V : Type 0} (same : K → K → Bool) (same_is : (a b : K) → same a b ≡ true → a ≡ b) (join : V → V → V) (P : K × V → Type 0) where
  abbrev pub Joins : Type 0
  Joins = (k : K) (a b : V) → P (k, a) → P (k, b) → P (k, join a b)

  abbrev pub Splits : Type 0
  Splits = (k : K) (a b : V) → P (k, join a b) → P (k, a) × P (k, b)

  abbrev pub Chooses : Type 0
  Chooses = (k : K) (a b : V) → P (k, join a b) → P (k, a) ⊎ P (k, b)

  each-merged : Joins → (es : List (K × V)) (k : K) (v : V) → Each P es → P (k, v) → Each P (merged same join es k v)
  unfolding merged Each
  each-merged j [] k v h p = (p, tt)
  each-merged j (e ∷ es) k v h p = step (each-merged j es k v h.1 p) (same k e.0) refl
    where
      step : Each P (merged same join es k v) → (a : Bool) → same k e.0 ≡ a
          → Each P (if a then (e.0, join e.1 v) ∷ es else e ∷ merged same join es k v)
      step ih true t = (j e.0 e.1 v h.0 (subst (λ (y : K). P (y, v)) (same_is k e.0 t) p), h.1)
      step ih false t = (h.0, ih)

  pub each-gathered : Joins → (cs : List (K × V)) → Each P cs → Each P (gathered same join cs)
  unfolding gathered Each
  each-gathered j [] h = tt
  each-gathered j (c ∷ cs) h = each-merged j (gathered same join cs) c.0 c.1 (each-gathered j cs h.1) h.0

  each_before_merged : Splits → (es : List (K × V)) (k : K) (v : V) → Each P (merged same join es k v) → P (k, v) × Each P es
  unfolding merged Each
  each_before_merged s [] k v h = (h.0, tt)
  each_before_merged s (e ∷ es) k v h = step (each_before_merged s es k v) (same k e.0) refl h
    where
      step : (Each P (merged same join es k v) → P (k, v) × Each P es) → (a : Bool) → same k e.0 ≡ a
          → Each P (if a then (e.0, join e.1 v) ∷ es else e ∷ merged same join es k v) → P (k, v) × (P e × Each P es)
      step ih true t h = let q = s e.0 e.1 v h.0 in (subst (λ (y : K). P (y, v)) (sym (same_is k e.0 t)) q.1, (q.0, h.1))
      step ih false t h = let q = ih h.1 in (q.0, (h.0, q.1))

  pub each_before_gathered : Splits → (cs : List (K × V)) → Each P (gathered same join cs) → Each P cs
  unfolding gathered Each
  each_before_gathered s [] h = tt
  each_before_gathered s (c ∷ cs) h = let q = each_before_merged s (gathered same join cs) c.0 c.1 h in (q.0, each_before_gathered s cs q.1)

  abbrev Either : K → V → List (K × V) → Type 0
  Either k v es = P (k, v) ⊎ Somewhere P es

  -- one that holds of a merged map holds of the pair or of one before
  somewhere_before_merged : Chooses → (es : List (K × V)) (k : K) (v : V) → Somewhere P (merged same join es k v) → Either k v es
  unfolding merged
  somewhere_before_merged s [] k v (here p) = inl p
  somewhere_before_merged s [] k v (there h) = elim h [ ]
  somewhere_before_merged s (e ∷ es) k v h = step (somewhere_before_merged s es k v) (same k e.0) refl h
    where
      put : Either k v es → Either k v (e ∷ es)
      put (inl p) = inl p
      put (inr h) = inr (there h)

      joined_one : same k e.0 ≡ true → P (e.0, e.1) ⊎ P (e.0, v) → Either k v (e ∷ es)
      joined_one t (inl p) = inr (here p)
      joined_one t (inr p) = inl (subst (λ (y : K). P (y, v)) (sym (same_is k e.0 t)) p)

      one : same k e.0 ≡ true → Somewhere P ((e.0, join e.1 v) ∷ es) → Either k v (e ∷ es)
      one t (here p) = joined_one t (s e.0 e.1 v p)
      one t (there h) = inr (there h)

      other : (Somewhere P (merged same join es k v) → Either k v es) → Somewhere P (e ∷ merged same join es k v) → Either k v (e ∷ es)
      other ih (here p) = inr (here p)
      other ih (there h) = put (ih h)

      step : (Somewhere P (merged same join es k v) → Either k v es) → (a : Bool) → same k e.0 ≡ a
          → Somewhere P (if a then (e.0, join e.1 v) ∷ es else e ∷ merged same join es k v) → Either k v (e ∷ es)
      step ih true t h = one t h
      step ih false t h = other ih h

  pub somewhere_before_gathered : Chooses → (cs : List (K × V)) → Somewhere P (gathered same join cs) → Somewhere P cs
  unfolding gathered
  somewhere_before_gathered s [] h = h
  somewhere_before_gathered s (c ∷ cs) h = step (somewhere_before_merged s (gathered same join cs) c.0 c.1 h) (somewhere_before_gathered s cs)
    where
      step : Either c.0 c.1 (gathered same join cs) → (Somewhere P (gathered same join cs) → Somewhere P cs) → Somewhere P (c ∷ cs)
      step (inl p) ih = here p
      step (inr h) ih = there (ih h)

  -- a sum whose part at a joined value is that of the two
  module _ {M : Type 0} (none : M) (add : M → M → M) (assoc : (a b c : M) → add (add a b) c ≡ add a (add b c)) (comm : (a b : M) → add a b ≡ add b a) (part : K × V → M)
      (part_join : (k : K) (a b : V) → P (k, a) → P (k, b) → part (k, join a b) ≡ add (part (k, a)) (part (k, b))) (joins : Joins) where
    total-merged : (es : List (K × V)) (k : K) (v : V) → Each P es → P (k, v)
        → total none add part (merged same join es k v) ≡ add (part (k, v)) (total none add part es)
    unfolding merged total Each
    total-merged [] k v h p = refl
    total-merged (e ∷ es) k v h p = step (total-merged es k v h.1 p) (same k e.0) refl
      where
        step : total none add part (merged same join es k v) ≡ add (part (k, v)) (total none add part es) → (a : Bool) → same k e.0 ≡ a
            → total none add part (if a then (e.0, join e.1 v) ∷ es else e ∷ merged same join es k v) ≡ add (part (k, v)) (add (part e) (total none add part es))
        step ih true t =
            ap (λ (m : M). add m (total none add part es)) (part_join e.0 e.1 v h.0 (subst (λ (y : K). P (y, v)) (same_is k e.0 t) p) ∙ comm (part e) (part (e.0, v)) ∙ ap (λ (y : K). add (part (y, v)) (part e)) (sym (same_is k e.0 t)))
            ∙ assoc (part (k, v)) (part e) (total none add part es)
        step ih false t = ap (add (part e)) ih ∙ sym (assoc (part e) (part (k, v)) (total none add part es))
            ∙ ap (λ x. add x (total none add part es)) (comm (part e) (part (k, v))) ∙ assoc (part (k, v)) (part e) (total none add part es)

    pub total-gathered : (cs : List (K × V)) → Each P cs → total none add part (gathered same join cs) ≡ total none add part cs
    unfolding gathered total Each
    total-gathered [] h = refl
    total-gathered (c ∷ cs) h = total-merged (gathered same join cs) c.0 c.1 (each-gathered joins cs h.1) h.0
        ∙ ap (add (part c)) (total-gathered cs h.1)
