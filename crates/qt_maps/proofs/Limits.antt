-- A map that is filled up to a limit stands for its pairs.
use Rattle.std.proofs.Common.{
  ◌≡◌,
  ℕ,
  suc,
  ◌+◌,
  ◌≤◌,
  Bool,
  true,
  false,
  cond,
  if◌then◌else◌,
  List,
  [],
  ◌∷◌,
  ◌++◌,
  Option,
  None,
  Some,
  length,
  refl,
  sym,
  ap,
  ◌∙◌,
  subst,
  arith,
  length-append,
}
use Rattle.std.specs.Map.{lookup, set_value}
use Rattle.qt_maps.specs.Maps.{merged, gathered, joined, at_key, collected, Distinct, total}
use Rattle.qt_maps.specs.Limited.{Kept, put_at, put, put_all, plain, IsMap, IsKept}
use Rattle.qt_maps.proofs.Gathering.{lookup-merged, distinct-merged, lookup-gathered, distinct-gathered, total_same, none_some}

-- joining values that may be absent is commutative and associative
module _ {V : Type 0} (join : V → V → V) (assoc : (a b c : V) → join (join a b) c ≡ join a (join b c)) (comm : (a b : V) → join a b ≡ join b a) where
  pub joined_assoc : (a b c : Option V) → joined join (joined join a b) c ≡ joined join a (joined join b c)
  joined_assoc None b c = refl
  joined_assoc (Some a) None c = refl
  joined_assoc (Some a) (Some b) None = refl
  joined_assoc (Some a) (Some b) (Some c) = ap Some (assoc a b c)

  pub joined_comm : (a b : Option V) → joined join a b ≡ joined join b a
  joined_comm None None = refl
  joined_comm None (Some b) = refl
  joined_comm (Some a) None = refl
  joined_comm (Some a) (Some b) = ap Some (comm a b)

module _ {K V : Type 0} (same : K → K → Bool) (join : V → V → V) (assoc : (a b c : V) → join (join a b) c ≡ join a (join b c)) (comm : (a b : V) → join a b ≡ join b a) where
  pub collected-append : (x : K) (cs ds : List (K × V))
      → collected same join x (cs ++ ds) ≡ joined join (collected same join x cs) (collected same join x ds)
  unfolding collected
  collected-append x [] ds = refl
  collected-append x (c ∷ cs) ds =
      let one : Option V = at_key same x c in
      let rest : Option V = collected same join x cs in
      let more : Option V = collected same join x ds in
      ap (λ o. joined join o one) (collected-append x cs ds) ∙ joined_assoc join assoc comm rest more one
      ∙ ap (joined join rest) (joined_comm join assoc comm more one) ∙ sym (joined_assoc join assoc comm rest one more)

  collected-middle : (x : K) (d : K × V) (cs ds : List (K × V)) → collected same join x (cs ++ d ∷ ds) ≡ collected same join x (d ∷ (cs ++ ds))
  unfolding collected
  collected-middle x d cs ds =
      let one : Option V = at_key same x d in
      let rest : Option V = collected same join x cs in
      let more : Option V = collected same join x ds in
      collected-append x cs (d ∷ ds) ∙ sym (joined_assoc join assoc comm rest more one) ∙ ap (λ o. joined join o one) (sym (collected-append x cs ds))

length_total : {A : Type 0} (xs : List A) → total 0 ◌+◌ (λ (x : A). 1) xs ≡ length xs
unfolding total
length_total [] = refl
length_total (x ∷ xs) = let r = length_total xs in omega (arith, r)

module _ {K V : Type 0} (same : K → K → Bool) (same_is : (a b : K) → same a b ≡ true → a ≡ b) (same_self : (a : K) → same a a ≡ true) (join : V → V → V) where
  length-merged : (es : List (K × V)) (k : K) (v : V) → length es ≤ length (merged same join es k v)
  unfolding merged
  length-merged [] k v = omega arith
  length-merged (e ∷ es) k v = step (length-merged es k v) (same k e.0)
    where
      step : length es ≤ length (merged same join es k v) → (a : Bool)
          → suc (length es) ≤ length (if a then (e.0, join e.1 v) ∷ es else e ∷ merged same join es k v)
      step ih true = omega arith
      step ih false = omega (arith, ih)

  -- two lists that are one map have as many entries
  pub size_same : (es ds : List (K × V)) → Distinct same es → Distinct same ds → ((x : K) → lookup (same x) es ≡ lookup (same x) ds)
      → length es ≡ length ds
  size_same es ds d f h = sym (length_total es)
      ∙ total_same same same_is same_self 0 ◌+◌ (λ a. omega arith) (λ a b c. omega arith) (λ a b. omega arith) (λ (e : K × V). 1) es ds d f h
      ∙ length_total ds

  pub size_of_map : (es cs : List (K × V)) → IsMap same join es cs → length es ≡ length (gathered same join cs)
  size_of_map es cs h = size_same es (gathered same join cs) h.distinct (distinct-gathered same same_is same_self join cs) (λ x. h.at x ∙ sym (lookup-gathered same same_is same_self join x cs))

  pub map_of_gathered : (cs : List (K × V)) → IsMap same join (gathered same join cs) cs
  map_of_gathered cs = record { distinct = distinct-gathered same same_is same_self join cs; at = λ x. lookup-gathered same same_is same_self join x cs }

  -- one more pair
  pub map-merged : (es cs : List (K × V)) (c : K × V) → IsMap same join es cs → IsMap same join (merged same join es c.0 c.1) (c ∷ cs)
  unfolding collected
  map-merged es cs c h = record {
    distinct = distinct-merged same same_is same_self join es c.0 c.1 h.distinct;
    at = λ x. lookup-merged same same_is same_self join x es c.0 c.1 ∙ ap (λ o. joined join o (at_key same x c)) (h.at x);
  }

  -- pairs that have the same for each key
  pub kept_same : (over : ℕ → Bool) (es : List (K × V)) (full : Bool) (cs ds : List (K × V))
      → ((x : K) → collected same join x cs ≡ collected same join x ds) → IsKept same join over es full cs → IsKept same join over es full ds
  kept_same over es full cs ds h k = record {
    mark = k.mark ∙ ap over (size_same (gathered same join cs) (gathered same join ds) (distinct-gathered same same_is same_self join cs) (distinct-gathered same same_is same_self join ds)
        (λ x. lookup-gathered same same_is same_self join x cs ∙ h x ∙ sym (lookup-gathered same same_is same_self join x ds)));
    map = λ f. let m = k.map f in record { distinct = m.distinct; at = λ x. m.at x ∙ h x };
  }

  module _ {S : Type 0} (strip : S → V) (fresh : V → S) (add_to : S → V → S) (strip_fresh : (v : V) → strip (fresh v) ≡ v) (strip_add : (s : S) (v : V) → strip (add_to s v) ≡ join (strip s) v) (over : ℕ → Bool) (over_up : (m n : ℕ) → m ≤ n → over m ≡ true → over n ≡ true) where
    length-plain : (es : List (K × S)) → length (plain {V = V} strip es) ≡ length es
    unfolding plain
    length-plain [] = refl
    length-plain (e ∷ es) = ap suc (length-plain es)

    plain_present : (k : K) (v : V) (s : S) (es : List (K × S)) → lookup (same k) es ≡ Some s
        → plain strip (set_value (same k) es (add_to s v)) ≡ merged same join (plain strip es) k v
    unfolding plain merged
    plain_present k v s [] h = none_some h
    plain_present k v s (e ∷ es) h = step (plain_present k v s es) (same k e.0) h
      where
        step : (lookup (same k) es ≡ Some s → plain strip (set_value (same k) es (add_to s v)) ≡ merged same join (plain strip es) k v)
            → (a : Bool) → cond a (Some e.1) (lookup (same k) es) ≡ Some s
            → plain strip (cond a ((e.0, add_to s v) ∷ es) (e ∷ set_value (same k) es (add_to s v))) ≡ (if a then (e.0, join (strip e.1) v) ∷ plain strip es else (e.0, strip e.1) ∷ merged same join (plain strip es) k v)
        step ih true h = let q : e.1 ≡ s = cc h in ap (λ (w : V). (e.0, w) ∷ plain strip es) (strip_add s v ∙ ap (λ (t : S). join (strip t) v) (sym q))
        step ih false h = ap (λ l. (e.0, strip e.1) ∷ l) (ih h)

    plain_absent : (k : K) (v : V) (es : List (K × S)) → lookup (same k) es ≡ None
        → plain strip (es ++ (k, fresh v) ∷ []) ≡ merged same join (plain strip es) k v
    unfolding plain merged
    plain_absent k v [] h = ap (λ (w : V). (k, w) ∷ []) (strip_fresh v)
    plain_absent k v (e ∷ es) h = step (plain_absent k v es) (same k e.0) h
      where
        step : (lookup (same k) es ≡ None → plain strip (es ++ (k, fresh v) ∷ []) ≡ merged same join (plain strip es) k v) → (a : Bool)
            → cond a (Some e.1) (lookup (same k) es) ≡ None
            → (e.0, strip e.1) ∷ plain strip (es ++ (k, fresh v) ∷ []) ≡ (if a then (e.0, join (strip e.1) v) ∷ plain strip es else (e.0, strip e.1) ∷ merged same join (plain strip es) k v)
        step ih true h = none_some (sym h)
        step ih false h = ap (λ l. (e.0, strip e.1) ∷ l) (ih h)

    length-set_value : (test : K → Bool) (w : S) (es : List (K × S)) → length (set_value test es w) ≡ length es
    length-set_value test w [] = refl
    length-set_value test w (e ∷ es) = step (length-set_value test w es) (test e.0)
      where
        step : length (set_value test es w) ≡ length es → (a : Bool) → length (cond a ((e.0, w) ∷ es) (e ∷ set_value test es w)) ≡ suc (length es)
        step ih true = omega arith
        step ih false = omega (arith, ih)

    length-pushed : (es : List (K × S)) (k : K) (v : V) → length (plain {V = V} strip (es ++ (k, fresh v) ∷ [])) ≡ length es + 1
    length-pushed es k v = length-plain (es ++ (k, fresh v) ∷ []) ∙ length-append es ((k, fresh v) ∷ [])

    abbrev Good : Kept K S → List (K × V) → Type 0
    Good k cs = IsKept same join over (plain strip k.entries) k.full cs

    -- a mark that is on stays on
    stays : (k : Kept K S) (cs : List (K × V)) (c : K × V) (es : List (K × V)) → k.full ≡ true → Good k cs → IsKept same join over es k.full (c ∷ cs)
    unfolding gathered
    stays k cs c es on h = record {
      mark = on ∙ sym (over_up (length (gathered same join cs)) (length (merged same join (gathered same join cs) c.0 c.1)) (length-merged (gathered same join cs) c.0 c.1) (sym h.mark ∙ on));
      map = λ f. absurd (cc (on, f));
    }

    -- while it is off, a merge is one more pair
    grows : (k : Kept K S) (cs : List (K × V)) (c : K × V) (es : List (K × V)) → k.full ≡ false → Good k cs
        → es ≡ merged same join (plain strip k.entries) c.0 c.1 → (full : Bool) → full ≡ over (length es) → IsKept same join over es full (c ∷ cs)
    grows k cs c es off h is full mark =
        let m : IsMap same join es (c ∷ cs) = subst (λ (l : List (K × V)). IsMap same join l (c ∷ cs)) (sym is) (map-merged (plain strip k.entries) cs c (h.map off)) in
        record { mark = mark ∙ ap over (size_of_map es (c ∷ cs) m); map = λ f. m }

    pub put_keeps : (k : Kept K S) (cs : List (K × V)) (c : K × V) → Good k cs → Good (put same fresh add_to over k c) (c ∷ cs)
    unfolding put
    put_keeps k cs c h = step (lookup (same c.0) k.entries) refl
      where
        present : (s : S) → lookup (same c.0) k.entries ≡ Some s → (b : Bool) → k.full ≡ b
            → Good (record k { entries = set_value (same c.0) k.entries (add_to s c.1) }) (c ∷ cs)
        present s p true on = stays k cs c (plain strip (set_value (same c.0) k.entries (add_to s c.1))) on h
        present s p false off =
            let es = set_value (same c.0) k.entries (add_to s c.1) in
            grows k cs c (plain strip es) off h (plain_present c.0 c.1 s k.entries p) k.full
            (h.mark ∙ ap over (sym (size_of_map (plain strip k.entries) cs (h.map off)) ∙ length-plain k.entries ∙ sym (length-plain es ∙ length-set_value (same c.0) (add_to s c.1) k.entries)))

        absent : lookup (same c.0) k.entries ≡ None → (b : Bool) → k.full ≡ b → (o : Bool) → over (length k.entries + 1) ≡ o
            → Good (if b then k else (if o then record k { full = true } else record k { entries = k.entries ++ (c.0, fresh c.1) ∷ [] })) (c ∷ cs)
        absent p true on o q = stays k cs c (plain strip k.entries) on h
        absent p false off true q =
            let m : IsMap same join (merged same join (plain strip k.entries) c.0 c.1) (c ∷ cs) = map-merged (plain strip k.entries) cs c (h.map off) in
            let n : length (gathered same join (c ∷ cs)) ≡ length k.entries + 1 = sym (size_of_map _ (c ∷ cs) m)
            ∙ ap length (sym (plain_absent c.0 c.1 k.entries p)) ∙ length-pushed k.entries c.0 c.1 in
            record { mark = sym (ap over n ∙ q); map = λ f. absurd (cc f) }
        absent p false off false q = grows k cs c (plain strip (k.entries ++ (c.0, fresh c.1) ∷ [])) off h (plain_absent c.0 c.1 k.entries p) k.full (off ∙ sym (ap over (length-pushed k.entries c.0 c.1) ∙ q))

        step : (o : Option S) → lookup (same c.0) k.entries ≡ o → Good (put_at same fresh add_to over k c o) (c ∷ cs)
        step (Some s) p = present s p k.full refl
        step None p = absent p k.full refl (over (length k.entries + 1)) refl

    -- pairs in turn
    module _ (assoc : (a b c : V) → join (join a b) c ≡ join a (join b c)) (comm : (a b : V) → join a b ≡ join b a) where
      pub put_all_keeps : (ds : List (K × V)) (k : Kept K S) (cs : List (K × V)) → Good k cs → Good (put_all same fresh add_to over k ds) (ds ++ cs)
      unfolding put_all
      put_all_keeps [] k cs h = h
      put_all_keeps (d ∷ ds) k cs h =
          kept_same over _ _ (ds ++ d ∷ cs) (d ∷ (ds ++ cs)) (λ x. collected-middle same join assoc comm x d ds cs) (put_all_keeps ds (put same fresh add_to over k d) (d ∷ cs) (put_keeps k cs d h))
