-- With larger limits what was read is read again, and where a limit was met one more token is taken.
use Rattle.std.proofs.Common.{◌≡◌, ℕ, zero, suc, ◌+◌, ◌≤◌, ◌<◌, ◌⊎◌, inl, inr, Bool, true, false, ◌&&◌, ◌||◌, not, cond, List, ◌++◌, Option, Some, None, Ok, Err, refl, sym, ap, subst, arith}
use Rattle.std.proofs.lemmas.Bool.{lt-ltb, ltb-true}
use Rattle.qt_terminals.specs.Terminals.{PlacedTerminal}
use Rattle.qt_grammar.specs.declared.refusal.Refusal.TheVariants.{Syntax, Nest}
use Rattle.qt_grammar.specs.Sorts.{Sort, Value, Name, sort}
use Rattle.qt_grammar.specs.Form.{Form, one, operator, counted, here, empty, as_tree, then_, either, maybe, nearest, chain, named, member, terminal_at, begun, within, Reading, Opening, ReadsBy, OpensBy, ReadsThen, OpensThen, ReadsMore, pair_of, stepped}
use Rattle.qt_grammar.specs.Outcome.{Outcome, and_then, more_of}
use Rattle.qt_grammar.specs.Lookahead.{first, nullable, joined, first_of}
use Rattle.qt_grammar.specs.Reading.{run, rest_of}
use Rattle.qt_grammar.proofs.LookaheadTests.{In, apart, subset, first_item, subset_sound, and_left, and_right, not_true, in_joined, joined_in, good, direct}

module _ (ts : ℕ → PlacedTerminal) where
  -- ---- relations grow

  more_up : {B C : Type 0} (step : C → B → C) (q q' : Reading B) → ((i : ℕ) (v : B) (j : ℕ) → q i v j → q' i v j) → (n : ℕ) (c : C) (i : ℕ) (v : C) (j : ℕ) → ReadsMore step q n c i v j → ReadsMore step q' n c i v j
  more_up step q q' u zero c i v j h = h
  more_up step q q' u (suc n) c i v j (y, m, g, t) = (y, m, u i y m g, more_up step q q' u n (step c y) m v j t)

  module _ (cap cap' : ℕ) (le : cap ≤ cap') where
    pub within_up : (e : Option ℕ) (n : ℕ) → within cap e n ≡ true → within cap' e n ≡ true
    within_up None n h = refl
    within_up (Some c) n h = let lt : n < c + cap = ltb-true n (c + cap) h in lt-ltb n (c + cap') (omega (arith, lt, le))

    module _ (r r' : (n : Name) → Option ℕ → Reading (Value (sort n))) (up : (n : Name) (e : Option ℕ) (i : ℕ) (v : Value (sort n)) (j : ℕ) → r n e i v j → r' n e i v j) where
      pub reads_up : {s : Sort} (f : Form s) (e : Option ℕ) (i : ℕ) (v : Value s) (j : ℕ) → ReadsBy ts cap r f e i v j → ReadsBy ts cap' r' f e i v j
      reads_up (one ws) e i v j h = h
      reads_up (operator ws) e i v j (w, b, h, l) = (w, within_up e ((ts i).operators) b, h, l)
      reads_up (counted f) e i v j h = reads_up f (begun ts e i) i v j h
      reads_up here e i v j h = h
      reads_up (empty x) e i v j h = h
      reads_up (as_tree k f) e i v j (x, h, q) = (x, reads_up f e i x j h, q)
      reads_up (then_ k f g) e i v j (x, y, m, p, q, z) = (x, y, m, reads_up f e i x m p, reads_up g e m y j q, z)
      reads_up (either f g) e i v j (inl h) = inl (reads_up f e i v j h)
      reads_up (either f g) e i v j (inr h) = inr (reads_up g e i v j h)
      reads_up (maybe f) e i v j (inl (x, h, z)) = inl (x, reads_up f e i x j h, z)
      reads_up (maybe f) e i v j (inr h) = inr h
      reads_up (nearest ws f) e i v j (inl (x, h, z)) = inl (x, reads_up f e i x j h, z)
      reads_up (nearest ws f) e i v j (inr h) = inr h
      reads_up (chain a b f g) e i v j (x, m, n, p, t) = (
        x,
        m,
        n,
        reads_up f e i x m p,
        more_up (stepped b) (ReadsThen pair_of (ReadsBy ts cap r g e) (ReadsBy ts cap r f e)) (ReadsThen pair_of (ReadsBy ts cap' r' g e) (ReadsBy ts cap' r' f e))
            (λ i v j (x, y, m, p, q, z). (x, y, m, reads_up g e i x m p, reads_up f e m y j q, z)) n (a x) m v j t,
      )
      reads_up (named n) e i v j h = up n e i v j h

      module _ (o o' : (n : Name) → Option ℕ → Opening) (wide : (n : Name) (e : Option ℕ) (i j : ℕ) → o n e i j → o' n e i j) where
        pub opens_up : {s : Sort} (f : Form s) (e : Option ℕ) (i j : ℕ) → OpensBy ts cap r o f e i j → OpensBy ts cap' r' o' f e i j
        opens_up (one ws) e i j h = h
        opens_up (operator ws) e i j (inl h) = inl h
        opens_up (operator ws) e i j (inr (l, w, b)) = inr (l, w, within_up e ((ts i).operators) b)
        opens_up (counted f) e i j h = opens_up f (begun ts e i) i j h
        opens_up here e i j h = h
        opens_up (empty x) e i j h = h
        opens_up (as_tree k f) e i j h = opens_up f e i j h
        opens_up (then_ k f g) e i j (inl h) = inl (opens_up f e i j h)
        opens_up (then_ k f g) e i j (inr (x, m, p, q)) = inr (x, m, reads_up f e i x m p, opens_up g e m j q)
        opens_up (either f g) e i j (inl h) = inl (opens_up f e i j h)
        opens_up (either f g) e i j (inr h) = inr (opens_up g e i j h)
        opens_up (maybe f) e i j h = opens_up f e i j h
        opens_up (nearest ws f) e i j h = opens_up f e i j h
        opens_up (chain a b f g) e i j (inl h) = inl (opens_up f e i j h)
        opens_up (chain a b f g) e i j (inr (v, m, c, inl q)) = inr (v, m, reads_up (chain a b f g) e i v m c, inl (opens_up g e m j q))
        opens_up (chain a b f g) e i j (inr (v, m, c, inr (x, l, p, q))) = inr (v, m, reads_up (chain a b f g) e i v m c, inr (x, l, reads_up g e m x l p, opens_up f e l j q))
        opens_up (named n) e i j h = wide n e i j h

  -- ---- outcomes stay, but where a limit was met

  abbrev pub Calm : {A : Type 0} → Outcome A → Outcome A → Type 0
  Calm {A} out out' = ((j : ℕ) × (out ≡ Err (Nest j))) ⊎ (out' ≡ out)

  calm_then : {A B : Type 0} (out out' : Outcome A) (k k' : A → ℕ → Outcome B) → Calm out out' → ((x : A) (m : ℕ) → Calm (k x m) (k' x m)) → Calm (and_then out k) (and_then out' k')
  calm_then {A} {B} out out' k k' (inl h) g = inl (h.0, ap (λ o. and_then {A = A} {B = B} o k) h.1)
  calm_then {A} {B} out out' k k' (inr e) g = subst (λ o. Calm (and_then out k) (and_then {A = A} {B = B} o k')) (sym e) (same out)
    where
      same : (o : Outcome A) → Calm (and_then {A = A} {B = B} o k) (and_then {A = A} {B = B} o k')
      same (Ok z) = g z.0 z.1
      same (Err x) = inr refl

  calm_cond : {A : Type 0} (b : Bool) (x x' y y' : Outcome A) → Calm x x' → Calm y y' → Calm (cond b x y) (cond b x' y')
  calm_cond true x x' y y' h g = h
  calm_cond false x x' y y' h g = g

  calm_more : {B C : Type 0} (begins : ℕ → Bool) (step : C → B → C) (p p' : ℕ → Outcome B) → ((i : ℕ) → Calm (p i) (p' i)) → (n : ℕ) (c : C) (i : ℕ) → Calm (more_of begins step p n c i) (more_of begins step p' n c i)
  calm_more begins step p p' h zero c i = inr refl
  calm_more begins step p p' h (suc n) c i = calm_cond (begins i) _ _ _ _ (calm_then (p i) (p' i) _ _ (h i) (λ y m. calm_more begins step p p' h n (step c y) m)) (inr refl)

  module _ (cap cap' : ℕ) (le : cap ≤ cap') (turns : ℕ) (p p' : (n : Name) → Option ℕ → ℕ → Outcome (Value (sort n))) (calm : (n : Name) (e : Option ℕ) (i : ℕ) → Calm (p n e i) (p' n e i)) where
    abbrev X : {s : Sort} → Form s → Option ℕ → ℕ → Outcome (Value s)
    X f e i = run ts cap turns p f e i

    abbrev Y : {s : Sort} → Form s → Option ℕ → ℕ → Outcome (Value s)
    Y f e i = run ts cap' turns p' f e i

    calm_within : (e : Option ℕ) (i n : ℕ) (out : Outcome PlacedTerminal) → Calm (cond (within cap e n) out (Err (Nest i))) (cond (within cap' e n) out (Err (Nest i)))
    calm_within e i n out = at_test (within cap e n) refl
      where
        at_test : (b : Bool) → within cap e n ≡ b → Calm (cond b out (Err (Nest i))) (cond (within cap' e n) out (Err (Nest i)))
        at_test true h = inr (rw (within_up cap cap' le e n h) refl)
        at_test false h = inl (i, refl)

    pub calm_form : {s : Sort} (f : Form s) (e : Option ℕ) (i : ℕ) → Calm (X f e i) (Y f e i)
    calm_form (one ws) e i = inr refl
    calm_form (operator ws) e i = calm_cond (member (terminal_at ts i) ws) _ _ _ _ (calm_within e i ((ts i).operators) (Ok (ts i, i + 1))) (inr refl)
    calm_form (counted f) e i = calm_form f (begun ts e i) i
    calm_form here e i = inr refl
    calm_form (empty x) e i = inr refl
    calm_form (as_tree k f) e i = calm_then (X f e i) (Y f e i) _ _ (calm_form f e i) (λ x m. inr refl)
    calm_form (then_ k f g) e i = calm_then (X f e i) (Y f e i) _ _ (calm_form f e i) (λ x m. calm_then (X g e m) (Y g e m) _ _ (calm_form g e m) (λ y j. inr refl))
    calm_form (either f g) e i = calm_cond (member (terminal_at ts i) (first f)) (X f e i) (Y f e i) (X g e i) (Y g e i) (calm_form f e i) (calm_form g e i)
    calm_form (maybe f) e i = calm_cond (member (terminal_at ts i) (first f)) _ _ _ _ (calm_then (X f e i) (Y f e i) _ _ (calm_form f e i) (λ x m. inr refl)) (inr refl)
    calm_form (nearest ws f) e i = calm_cond (member (terminal_at ts i) ws) _ _ _ _ (calm_then (X f e i) (Y f e i) _ _ (calm_form f e i) (λ x m. inr refl)) (inr refl)
    calm_form (chain a b f g) e i =
        calm_then (X f e i) (Y f e i) _ _ (calm_form f e i)
        (λ x m. calm_more (λ i. member (terminal_at ts i) (joined (first g) (nullable g) (first f))) (stepped b) _ _
        (λ i. calm_then (X g e i) (Y g e i) _ _ (calm_form g e i) (λ y m. calm_then (X f e m) (Y f e m) _ _ (calm_form f e m) (λ x j. inr refl))) turns (a x) m)
    calm_form (named n) e i = calm n e i

  -- ---- a form that doesn't begin with a token refuses it

  not_in : (xs : List ℕ) (b : Bool) (ys : List ℕ) (n : ℕ) → member n (joined xs b ys) ≡ false → (member n xs ≡ false) × ((b ≡ true) → member n ys ≡ false)
  not_in xs b ys n h = (at_test (member n xs) refl, λ e. at_test-2 e (member n ys) refl)
    where
      at_test : (v : Bool) → member n xs ≡ v → v ≡ false
      at_test true e = let w : member n (joined xs b ys) ≡ true = in_joined xs b ys n (inl e) in absurd (cc (w, h))
      at_test false e = refl

      at_test-2 : b ≡ true → (v : Bool) → member n ys ≡ v → v ≡ false
      at_test-2 z true e = let w : member n (joined xs b ys) ≡ true = in_joined xs b ys n (inr (z, e)) in absurd (cc (w, h))
      at_test-2 z false e = refl

  not_in_append : (xs ys : List ℕ) (n : ℕ) → member n (xs ++ ys) ≡ false → (member n xs ≡ false) × (member n ys ≡ false)
  not_in_append xs ys n h = ((not_in xs true ys n h).0, (not_in xs true ys n h).1 refl)

  second : (b c : Bool) → b ≡ true → (not b || c) ≡ true → c ≡ true
  second true c e h = h
  second false c e h = absurd (cc e)

  both_true : (b c : Bool) → b ≡ true → c ≡ true → (b && c) ≡ true
  both_true true c e h = h
  both_true false c e h = e

  one_false : (b c : Bool) → c ≡ false → (b && c) ≡ false
  one_false true c e = e
  one_false false c e = refl

  first_false : (b c : Bool) → b ≡ false → (b && c) ≡ false
  first_false true c e = absurd (cc e)
  first_false false c e = refl

  pub outside : (ws xs : List ℕ) (n : ℕ) → subset ws xs ≡ true → member n xs ≡ false → member n ws ≡ false
  outside ws xs n s h = at_test (member n ws) refl
    where
      at_test : (v : Bool) → member n ws ≡ v → v ≡ false
      at_test true e = let w : member n xs ≡ true = subset_sound ws xs s n e in absurd (cc (w, h))
      at_test false e = refl

  module _ (cap turns : ℕ) (p : (n : Name) → Option ℕ → ℕ → Outcome (Value (sort n))) (refuses : (n : Name) (e : Option ℕ) (i : ℕ) → member (terminal_at ts i) (first_of n) ≡ false → p n e i ≡ Err (Syntax i)) where
    abbrev Z : {s : Sort} → Form s → Option ℕ → ℕ → Outcome (Value s)
    Z f e i = run ts cap turns p f e i

    abbrev Refuses : {s : Sort} → Form s → Option ℕ → ℕ → Type 0
    Refuses {s} f o i = ((nullable f ≡ true) × ((x : Value s) × (Z f o i ≡ Ok (x, i)))) ⊎ ((nullable f ≡ false) × (Z f o i ≡ Err (Syntax i)))

    pub refuses_form : {s : Sort} (f : Form s) (o : Option ℕ) (i : ℕ) → good f ≡ true → member (terminal_at ts i) (first f) ≡ false → Refuses f o i
    refuses_form (one ws) o i g h = inr (refl, rw h refl)
    refuses_form (operator ws) o i g h = inr (refl, rw h refl)
    refuses_form (counted f) o i g h = refuses_form f (begun ts o i) i g h
    refuses_form here o i g h = inl (refl, ((ts i).place, refl))
    refuses_form (empty x) o i g h = inl (refl, (x, refl))
    refuses_form (as_tree k f) o i g h = elim (refuses_form f o i g h) [
      | inl e ↦ inl (e.0, (k e.1.0, rw e.1.1 refl))
      | inr e ↦ inr (e.0, rw e.1 refl)
    ]
    refuses_form (then_ k f g) o i t h =
        let gf : good f ≡ true = and_left (good f) (good g) (and_left (good f && good g) _ t) in
        let gg : good g ≡ true = and_right (good f) (good g) (and_left (good f && good g) _ t) in
        let n = not_in (first f) (nullable f) (first g) (terminal_at ts i) h in
        elim (refuses_form f o i gf n.0) [
          | inl e ↦
              elim (refuses_form g o i gg (n.1 e.0)) [
                | inl u ↦ inl (both_true (nullable f) (nullable g) e.0 u.0, (k e.1.0 u.1.0, rw (e.1.1, u.1.1) refl))
                | inr u ↦ inr (one_false (nullable f) (nullable g) u.0, rw (e.1.1, u.1) refl)
              ]
          | inr e ↦ inr (first_false (nullable f) (nullable g) e.0, rw e.1 refl)
        ]
    refuses_form (either f g) o i t h =
        let gf : good f ≡ true = and_left (good f) (good g) (and_left (good f && good g) _ t) in
        let gg : good g ≡ true = and_right (good f) (good g) (and_left (good f && good g) _ t) in
        let u : ((not (nullable f) && not (nullable g)) && apart (first f) (first g)) ≡ true = and_right (good f && good g) _ t in
        let n = not_in_append (first f) (first g) (terminal_at ts i) h in
        elim (refuses_form g o i gg n.1) [
          | inl e ↦ absurd (not_true (nullable g) (and_right (not (nullable f)) (not (nullable g)) (and_left _ (apart (first f) (first g)) u)) e.0)
          | inr e ↦ inr (refl, rw (n.0, e.1) refl)
        ]
    refuses_form (maybe f) o i t h = inl (refl, (None, rw h refl))
    refuses_form (nearest ws f) o i t h = inl (refl, (None, rw (outside ws (first f) (terminal_at ts i) (and_right (subset (first f) ws) (subset ws (first f)) (and_right (good f && not (nullable f)) (subset (first f) ws && subset ws (first f)) t)) h) refl))
    refuses_form (chain a b f g) o i t h =
        let gf : good f ≡ true = and_left (good f) (good g) (and_left (good f && good g) _ t) in
        elim (refuses_form f o i gf h) [
          | inl e ↦ absurd (not_true (nullable f) (and_left (not (nullable f)) (not (member 0 (first_item f g))) (and_left (not (nullable f) && not (member 0 (first_item f g))) _ (and_right (good f && good g) _ t))) e.0)
          | inr e ↦ inr (refl, rw e.1 refl)
        ]
    refuses_form (named n) o i t h = inr (refl, refuses n o i h)

  -- ---- a token that a form begins with opens it

  -- a limit that is larger than all counts up to a place is met by no expression there
  pub room : (cap : ℕ) (e : Option ℕ) (n : ℕ) → n < cap → within cap e n ≡ true
  room cap None n h = refl
  room cap (Some c) n h = lt-ltb n (c + cap) (omega (arith, h))

  module _ (cap : ℕ) (r : (n : Name) → Option ℕ → Reading (Value (sort n))) (o : (n : Name) → Option ℕ → Opening) where
    rests : {s : Sort} (f : Form s) (e : Option ℕ) (i : ℕ) → direct f ≡ true → nullable f ≡ true → member (terminal_at ts i) (first f) ≡ false → (x : Value s) × ReadsBy ts cap r f e i x i
    rests (one ws) e i d n h = absurd (cc n)
    rests (operator ws) e i d n h = absurd (cc n)
    rests (counted f) e i d n h = rests f (begun ts e i) i d n h
    rests here e i d n h = ((ts i).place, (refl, refl))
    rests (empty x) e i d n h = (x, (refl, refl))
    rests (as_tree k f) e i d n h = let u = rests f e i d n h in (k u.0, (u.0, u.1, refl))
    rests (then_ k f g) e i d n h =
        let w = not_in (first f) (nullable f) (first g) (terminal_at ts i) h in
        let nf : nullable f ≡ true = and_left (nullable f) (nullable g) n in
        let u = rests f e i (and_left (direct f) _ d) nf w.0 in
        let v = rests g e i (second (nullable f) (direct g) nf (and_right (direct f) _ d)) (and_right (nullable f) (nullable g) n) (w.1 nf) in
        (k u.0 v.0, (u.0, v.0, i, u.1, v.1, refl))
    rests (either f g) e i d n h = absurd (cc n)
    rests (maybe f) e i d n h = (None, inr (refl, refl))
    rests (nearest ws f) e i d n h = (None, inr (refl, refl, outside ws (first f) (terminal_at ts i) (and_right (direct f) (subset ws (first f)) d) h))
    rests (chain a b f g) e i d n h = absurd (cc n)
    rests (named n) e i d z h = absurd (cc z)

    pub starts : {s : Sort} (f : Form s) (e : Option ℕ) (i : ℕ) → (ts i).operators < cap → direct f ≡ true → In (first f) (terminal_at ts i) → OpensBy ts cap r o f e i (i + 1)
    starts (one ws) e i big d w = inr (refl, w)
    starts (operator ws) e i big d w = inr (refl, w, room cap e ((ts i).operators) big)
    starts (counted f) e i big d w = starts f (begun ts e i) i big d w
    starts here e i big d w = absurd (cc w)
    starts (empty x) e i big d w = absurd (cc w)
    starts (as_tree k f) e i big d w = starts f e i big d w
    starts (then_ k f g) e i big d w = at_test (member (terminal_at ts i) (first f)) refl (λ u. starts f e i big (and_left (direct f) _ d) u) (λ u t. starts g e i big (second (nullable f) (direct g) t (and_right (direct f) _ d)) u)
      where
        at_test : (v : Bool) → member (terminal_at ts i) (first f) ≡ v → (In (first f) (terminal_at ts i) → OpensBy ts cap r o f e i (i + 1)) → (In (first g) (terminal_at ts i) → nullable f ≡ true → OpensBy ts cap r o g e i (i + 1))
            → OpensThen (ReadsBy ts cap r f e) (OpensBy ts cap r o f e) (OpensBy ts cap r o g e) i (i + 1)
        at_test true z left right = inl (left z)
        at_test false z left right = elim (joined_in (first f) (nullable f) (first g) (terminal_at ts i) w) [
          | inl u ↦ absurd (cc (u, z))
          | inr u ↦ let x = rests f e i (and_left (direct f) _ d) u.0 z in inr (x.0, i, x.1, right u.1 u.0)
        ]
    starts (either f g) e i big d w = elim (joined_in (first f) true (first g) (terminal_at ts i) w) [
      | inl u ↦ inl (starts f e i big (and_left (direct f) (direct g) d) u)
      | inr u ↦ inr (starts g e i big (and_right (direct f) (direct g) d) u.1)
    ]
    starts (maybe f) e i big d w = starts f e i big d w
    starts (nearest ws f) e i big d w = starts f e i big (and_left (direct f) _ d) w
    starts (chain a b f g) e i big d w = inl (starts f e i big (and_left (direct f) _ d) w)
    starts (named n) e i big d w = absurd (cc d)

  -- ---- where a limit was met, one more token opens the form with larger limits

  and_nest : {A B : Type 0} (out : Outcome A) (k : A → ℕ → Outcome B) (j : ℕ) → and_then out k ≡ Err (Nest j) → (out ≡ Err (Nest j)) ⊎ ((z : A × ℕ) × (out ≡ Ok z) × (k z.0 z.1 ≡ Err (Nest j)))
  and_nest (Ok z) k j h = inr (z, refl, h)
  and_nest {A} (Err x) k j h = inl (ap (λ o. elim o as (λ _. Outcome A) [ Ok z ↦ Err x | Err y ↦ Err y ]) h)

  and_ok : {A B : Type 0} (out : Outcome A) (k : A → ℕ → Outcome B) (y : B × ℕ) → and_then out k ≡ Ok y → (z : A × ℕ) × (out ≡ Ok z) × (k z.0 z.1 ≡ Ok y)
  and_ok (Ok z) k y h = (z, refl, h)
  and_ok (Err x) k y h = absurd (cc h)

  -- `cap` is the smaller limit on operators, `cap'` the larger
  module _ (cap cap' turns : ℕ) (p : (n : Name) → Option ℕ → ℕ → Outcome (Value (sort n))) (r : (n : Name) → Option ℕ → Reading (Value (sort n))) (o : (n : Name) → Option ℕ → Opening)
      (j : ℕ) (big : (ts j).operators < cap')
      (nests : (n : Name) (e : Option ℕ) (i : ℕ) → p n e i ≡ Err (Nest j) → o n e i (j + 1))
      (reads : (s : Sort) (f : Form s) (e : Option ℕ) (i : ℕ) (z : Value s × ℕ) → good f ≡ true → run ts cap turns p f e i ≡ Ok z → ReadsBy ts cap' r f e i z.0 z.1) where
    abbrev V : {s : Sort} → Form s → Option ℕ → ℕ → Outcome (Value s)
    V f e i = run ts cap turns p f e i

    abbrev R' : {s : Sort} → Form s → Option ℕ → Reading (Value s)
    R' f e = ReadsBy ts cap' r f e

    abbrev O' : {s : Sort} → Form s → Option ℕ → Opening
    O' f e = OpensBy ts cap' r o f e

    abbrev Onward : {s : Sort} → Form s → Option ℕ → Type 0
    Onward f e = (i : ℕ) → V f e i ≡ Err (Nest j) → O' f e i (j + 1)

    abbrev item : {s t : Sort} → Form s → Form t → Option ℕ → ℕ → Outcome (Value t × Value s)
    item f g e i = and_then (V g e i) (λ y m. and_then (V f e m) (λ x j. Ok (pair_of y x, j)))

    abbrev ReadsItem : {s t : Sort} → Form s → Form t → Option ℕ → Reading (Value t × Value s)
    ReadsItem f g e = ReadsThen pair_of (R' g e) (R' f e)

    abbrev OpensItem : {s t : Sort} → Form s → Form t → Option ℕ → Opening
    OpensItem f g e = OpensThen (R' g e) (O' g e) (O' f e)

    onward_operator : (ws : List ℕ) (e : Option ℕ) (i : ℕ) → V (operator ws) e i ≡ Err (Nest j) → O' (operator ws) e i (j + 1)
    onward_operator ws e i h = at_test (member (terminal_at ts i) ws) (within cap e ((ts i).operators)) refl h
      where
        same : i ≡ j → member (terminal_at ts i) ws ≡ true → O' (operator ws) e i (j + 1)
        same z w = inr (ap (λ t. t + 1) (sym z), w, room cap' e ((ts i).operators) (subst (λ t. (ts t).operators < cap') (sym z) big))

        at_test : (v u : Bool) → member (terminal_at ts i) ws ≡ v → cond {A = Outcome PlacedTerminal} v (cond u (Ok (ts i, i + 1)) (Err (Nest i))) (Err (Syntax i)) ≡ Err (Nest j) → O' (operator ws) e i (j + 1)
        at_test true true w h = absurd (cc h)
        at_test true false w h = same (ap (λ (o : Outcome PlacedTerminal). elim o as (λ _. ℕ) [ Ok z ↦ 0 | Err (Nest k) ↦ k | Err _ ↦ 0 ]) h) w
        at_test false u w h = absurd (cc h)

    onward_item : {s t : Sort} (f : Form s) (g : Form t) (e : Option ℕ) → good g ≡ true → Onward f e → Onward g e → (i : ℕ) → item f g e i ≡ Err (Nest j) → OpensItem f g e i (j + 1)
    onward_item {s} {t} f g e gg nf ng i h = elim (and_nest (V g e i) (λ y m. and_then (V f e m) (λ x j. Ok (pair_of y x, j))) j h) [
      | inl a ↦ inl (ng i a)
      | inr a ↦ elim (and_nest (V f e a.0.1) (λ x j. Ok (pair_of a.0.0 x, j)) j a.2) [
        | inl u ↦ inr (a.0.0, a.0.1, reads t g e i a.0 gg a.1, nf a.0.1 u)
        | inr u ↦ absurd (cc u.2)
      ]
    ]

    reads_item : {s t : Sort} (f : Form s) (g : Form t) (e : Option ℕ) → good f ≡ true → good g ≡ true → (i : ℕ) (z : (Value t × Value s) × ℕ) → item f g e i ≡ Ok z → ReadsItem f g e i z.0 z.1
    reads_item {s} {t} f g e gf gg i z h =
        let a = and_ok (V g e i) (λ y m. and_then (V f e m) (λ x j. Ok (pair_of y x, j))) z h in
        let b = and_ok (V f e a.0.1) (λ x j. Ok (pair_of a.0.0 x, j)) z a.2 in
        subst (λ w. ReadsItem f g e i w.0 w.1) (ok_same b.2) (a.0.0, b.0.0, a.0.1, reads t g e i a.0 gg a.1, reads s f e a.0.1 b.0 gf b.1, refl)
      where
        ok_same : {A : Type 0} {x y : A × ℕ} → (let o : Outcome A = Ok x in o) ≡ Ok y → x ≡ y
        ok_same {A} {x} h = ap (λ (o : Outcome A). elim o as (λ _. A × ℕ) [ Ok z ↦ z | Err e ↦ x ]) h

    onward_more : (s t u : Sort) (b : Value u → Value t → Value s → Value u) (f : Form s) (g : Form t) (e : Option ℕ) → good f ≡ true → good g ≡ true → Onward f e → Onward g e → (begins : ℕ → Bool) (n : ℕ) (c : Value u) (i : ℕ)
        → more_of begins (stepped b) (item f g e) n c i ≡ Err (Nest j)
        → (l : ℕ) × (v : Value u) × (m : ℕ) × ReadsMore (stepped b) (ReadsItem f g e) l c i v m × OpensItem f g e m (j + 1)
    onward_more s t u b f g e gf gg nf ng begins zero c i h = absurd (cc h)
    onward_more s t u b f g e gf gg nf ng begins (suc n) c i h = at_test (begins i) (λ y m z. onward_more s t u b f g e gf gg nf ng begins n (stepped b c y) m z) h
      where
        at_test : (v : Bool) → ((y : Value t × Value s) (m : ℕ) → more_of begins (stepped b) (item f g e) n (stepped b c y) m ≡ Err (Nest j)
            → (l : ℕ) × (v : Value u) × (k : ℕ) × ReadsMore (stepped b) (ReadsItem f g e) l (stepped b c y) m v k × OpensItem f g e k (j + 1))
            → cond v (and_then (item f g e i) (λ y m. more_of begins (stepped b) (item f g e) n (stepped b c y) m)) (Ok (c, i)) ≡ Err (Nest j)
            → (l : ℕ) × (v : Value u) × (m : ℕ) × ReadsMore (stepped b) (ReadsItem f g e) l c i v m × OpensItem f g e m (j + 1)
        at_test true rest h = elim (and_nest (item f g e i) (λ y m. more_of begins (stepped b) (item f g e) n (stepped b c y) m) j h) [
          | inl a ↦ (0, c, i, (refl, refl), onward_item f g e gg nf ng i a)
          | inr a ↦
              let z = rest a.0.0 a.0.1 a.2 in
              (suc z.0, z.1, z.2, (a.0.0, a.0.1, reads_item f g e gf gg i a.0 a.1, z.3), z.4)
        ]
        at_test false rest h = absurd (cc h)

    pub onward : {s : Sort} (f : Form s) → good f ≡ true → (e : Option ℕ) → Onward f e
    onward (one ws) t e i h = at_test (member (terminal_at ts i) ws) h
      where
        at_test : (v : Bool) → cond {A = Outcome PlacedTerminal} v (Ok (ts i, i + 1)) (Err (Syntax i)) ≡ Err (Nest j) → O' (one ws) e i (j + 1)
        at_test true h = absurd (cc h)
        at_test false h = absurd (cc h)
    onward (operator ws) t e i h = onward_operator ws e i h
    onward (counted f) t e i h = onward f t (begun ts e i) i h
    onward here t e i h = absurd (cc h)
    onward (empty x) t e i h = absurd (cc h)
    onward (as_tree k f) t e i h = elim (and_nest (V f e i) (λ x j. Ok (k x, j)) j h) [ inl a ↦ onward f t e i a | inr a ↦ absurd (cc a.2) ]
    onward (then_ k f g) t e i h =
        let gf : good f ≡ true = and_left (good f) (good g) (and_left (good f && good g) _ t) in
        let gg : good g ≡ true = and_right (good f) (good g) (and_left (good f && good g) _ t) in
        elim (and_nest (V f e i) (λ x m. and_then (V g e m) (λ y j. Ok (k x y, j))) j h) [
          | inl a ↦ inl (onward f gf e i a)
          | inr a ↦ elim (and_nest (V g e a.0.1) (λ y j. Ok (k a.0.0 y, j)) j a.2) [
            | inl u ↦ inr (a.0.0, a.0.1, reads _ f e i a.0 gf a.1, onward g gg e a.0.1 u)
            | inr u ↦ absurd (cc u.2)
          ]
        ]
    onward (either f g) t e i h =
        let gf : good f ≡ true = and_left (good f) (good g) (and_left (good f && good g) _ t) in
        let gg : good g ≡ true = and_right (good f) (good g) (and_left (good f && good g) _ t) in
        at_test (member (terminal_at ts i) (first f)) (onward f gf e i) (onward g gg e i) h
      where
        at_test : (v : Bool) → (V f e i ≡ Err (Nest j) → O' f e i (j + 1)) → (V g e i ≡ Err (Nest j) → O' g e i (j + 1)) → cond v (V f e i) (V g e i) ≡ Err (Nest j) → O' f e i (j + 1) ⊎ O' g e i (j + 1)
        at_test true a b h = inl (a h)
        at_test false a b h = inr (b h)
    onward (maybe f) t e i h = at_test (member (terminal_at ts i) (first f)) (onward f (and_left (good f) _ t) e i) h
      where
        at_test : (v : Bool) → (V f e i ≡ Err (Nest j) → O' f e i (j + 1)) → cond v (and_then (V f e i) (λ x j. Ok (Some x, j))) (Ok (None, i)) ≡ Err (Nest j) → O' f e i (j + 1)
        at_test true a h = elim (and_nest (V f e i) (λ x j. Ok (Some x, j)) j h) [ inl z ↦ a z | inr z ↦ absurd (cc z.2) ]
        at_test false a h = absurd (cc h)
    onward (nearest ws f) t e i h = at_test (member (terminal_at ts i) ws) (onward f (and_left (good f) _ (and_left (good f && not (nullable f)) (subset (first f) ws && subset ws (first f)) t)) e i) h
      where
        at_test : (v : Bool) → (V f e i ≡ Err (Nest j) → O' f e i (j + 1)) → cond v (and_then (V f e i) (λ x j. Ok (Some x, j))) (Ok (None, i)) ≡ Err (Nest j) → O' f e i (j + 1)
        at_test true a h = elim (and_nest (V f e i) (λ x j. Ok (Some x, j)) j h) [ inl z ↦ a z | inr z ↦ absurd (cc z.2) ]
        at_test false a h = absurd (cc h)
    onward (chain a b f g) t e i h =
        let gf : good f ≡ true = and_left (good f) (good g) (and_left (good f && good g) _ t) in
        let gg : good g ≡ true = and_right (good f) (good g) (and_left (good f && good g) _ t) in
        elim (and_nest (V f e i) (λ x m. rest_of (λ i. member (terminal_at ts i) (joined (first g) (nullable g) (first f))) b (V f e) (V g e) turns (a x) m) j h) [
          | inl z ↦ inl (onward f gf e i z)
          | inr z ↦
              let y = onward_more _ _ _ b f g e gf gg (onward f gf e) (onward g gg e) (λ i. member (terminal_at ts i) (joined (first g) (nullable g) (first f))) turns (a z.0.0) z.0.1 z.2 in
              inr (y.1, y.2, (z.0.0, z.0.1, y.0, reads _ f e i z.0 gf z.1, y.3), y.4)
        ]
    onward (named n) t e i h = nests n e i h
