-- What holds of a form that is read from the left without a choice: where it begins and where it goes on.
use Rattle.std.proofs.Common.{◌≡◌, ℕ, zero, suc, ◌≤◌, ◌<◌, ◌⊎◌, inl, inr, refl, sym, ◌∙◌, subst, arith}
use Rattle.qt_terminals.specs.Terminals.{PlacedTerminal}
use Rattle.qt_grammar.specs.Form.{Reading, Opening, terminal_at, ReadsThen, OpensThen, ReadsMore}

pub same_or_before : (m n : ℕ) → m ≤ n → (m ≡ n) ⊎ (m < n)
same_or_before m n h = grind arith

pub compare3 : (m n : ℕ) → (m ≡ n) ⊎ ((m < n) ⊎ (n < m))
compare3 m n = grind arith

abbrev pub Words : Type 1
Words = ℕ → Type 0

abbrev pub Apart : Words → Words → Type 0
Apart p q = (n : ℕ) → p n → q n → ⊥

module _ (ts : ℕ → PlacedTerminal) where
  pub record Sane {A : Type 0} (r : Reading A) (o : Opening) (first : Words) (none : Type 0) (more : Words) : Type 0 where
    pub ahead : (i j : ℕ) → o i j → i ≤ j
    pub nil : (i : ℕ) → o i i
    pub whole : (i : ℕ) (v : A) (j : ℕ) → r i v j → o i j
    pub begins : (i j : ℕ) → o i j → i < j → first (terminal_at ts i)
    pub some : (i : ℕ) (v : A) (j : ℕ) → r i v j → none ⊎ (i < j)
    pub goes_on : (i : ℕ) (v : A) (j k : ℕ) → r i v j → o i k → j < k → more (terminal_at ts j)

  module _ {A : Type 0} (r : Reading A) (o : Opening) (f : Words) (n : Type 0) (m : Words) (s : Sane r o f n m) where
    pub reads-ahead : (i : ℕ) (v : A) (j : ℕ) → r i v j → i ≤ j
    reads-ahead i v j h = s.ahead i j (s.whole i v j h)

    pub none_or_begins : (i : ℕ) (v : A) (j : ℕ) → r i v j → (n × (i ≡ j)) ⊎ (f (terminal_at ts i) × (i < j))
    none_or_begins i v j h = elim (same_or_before i j (reads-ahead i v j h)) [
      | inl e ↦ elim (s.some i v j h) [ inl z ↦ inl (z, e) | inr lt ↦ absurd (omega (arith, e, lt)) ]
      | inr lt ↦ inr (s.begins i j (s.whole i v j h) lt, lt)
    ]

  module _ {A B C : Type 0} (k : A → B → C) (p : Reading A) (po : Opening) (pf : Words) (pn : Type 0) (pm : Words) (q : Reading B) (qo : Opening) (qf : Words) (qn : Type 0) (qm : Words) (sp : Sane p po pf pn pm) (sq : Sane q qo qf qn qm) (a : Apart pm qf) where
    then-ahead : (i j : ℕ) → OpensThen p po qo i j → i ≤ j
    then-ahead i j (inl h) = sp.ahead i j h
    then-ahead i j (inr (x, m, r, h)) = let e : i ≤ m = reads-ahead p po pf pn pm sp i x m r in let e2 : m ≤ j = sq.ahead m j h in omega arith

    then-whole : (i : ℕ) (v : C) (j : ℕ) → ReadsThen k p q i v j → OpensThen p po qo i j
    then-whole i v j (x, y, m, rp, rq, e) = inr (x, m, rp, sq.whole m y j rq)

    then-begins : (i j : ℕ) → OpensThen p po qo i j → i < j → pf (terminal_at ts i) ⊎ (pn × qf (terminal_at ts i))
    then-begins i j (inl h) lt = inl (sp.begins i j h lt)
    then-begins i j (inr (x, m, r, h)) lt = elim (none_or_begins p po pf pn pm sp i x m r) [
      | inl z ↦ let h2 : qo i j = subst (λ t. qo t j) (sym z.1) h in inr (z.0, sq.begins i j h2 lt)
      | inr z ↦ inl z.0
    ]

    then-some : (i : ℕ) (v : C) (j : ℕ) → ReadsThen k p q i v j → (pn × qn) ⊎ (i < j)
    then-some i v j (x, y, m, rp, rq, e) =
        let e1 : i ≤ m = reads-ahead p po pf pn pm sp i x m rp in
        let e2 : m ≤ j = reads-ahead q qo qf qn qm sq m y j rq in
        elim (sp.some i x m rp) [
          | inl z ↦ elim (sq.some m y j rq) [ inl z2 ↦ inl (z, z2) | inr lt ↦ inr (omega (arith, e1, lt)) ]
          | inr lt ↦ inr (omega (arith, lt, e2))
        ]

    then-goes_on-first : (i : ℕ) (x : A) (y : B) (m j : ℕ) → p i x m → q m y j → pm (terminal_at ts m) → qm (terminal_at ts j) ⊎ (qn × pm (terminal_at ts j))
    then-goes_on-first i x y m j rp rq w = elim (none_or_begins q qo qf qn qm sq m y j rq) [
      | inl z ↦ inr (z.0, subst (λ t. pm (terminal_at ts t)) z.1 w)
      | inr z ↦ absurd (a _ w z.0)
    ]

    then-goes_on : (i : ℕ) (v : C) (j l : ℕ) → ReadsThen k p q i v j → OpensThen p po qo i l → j < l → qm (terminal_at ts j) ⊎ (qn × pm (terminal_at ts j))
    then-goes_on i v j l (x, y, m, rp, rq, e) (inl h) lt =
        let e2 : m ≤ j = reads-ahead q qo qf qn qm sq m y j rq in
        then-goes_on-first i x y m j rp rq (sp.goes_on i x m l rp h (omega (arith, e2, lt)))
    then-goes_on i v j l (x, y, m, rp, rq, e) (inr (x', m', rp', h)) lt =
        let e2 : m ≤ j = reads-ahead q qo qf qn qm sq m y j rq in
        elim (compare3 m m') [
          | inl same ↦ let h2 : qo m l = subst (λ t. qo t l) (sym same) h in inl (sq.goes_on m y j l rq h2 lt)
          | inr other ↦ elim other [
            | inl before ↦ then-goes_on-first i x y m j rp rq (sp.goes_on i x m m' rp (sp.whole i x' m' rp') before)
            | inr after ↦ absurd (a _ (sp.goes_on i x' m' m rp' (sp.whole i x m rp) after) (sq.begins m' l h (omega (arith, after, e2, lt))))
          ]
        ]

    pub sane-then : Sane (ReadsThen k p q) (OpensThen p po qo) (λ n. pf n ⊎ (pn × qf n)) (pn × qn) (λ n. qm n ⊎ (qn × pm n))
    sane-then = record {
      ahead = then-ahead;
      nil = (λ i. inl (sp.nil i));
      whole = then-whole;
      begins = then-begins;
      some = then-some;
      goes_on = then-goes_on;
    }

  -- ---- a form so many times

  module _ {B C : Type 0} (step : C → B → C) (q : Reading B) (qo : Opening) (qf : Words) (qm : Words) (sq : Sane q qo qf ⊥ qm) (a : Apart qm qf) where
    pub item-moves : (i : ℕ) (y : B) (j : ℕ) → q i y j → i < j
    item-moves i y j h = elim (sq.some i y j h) [ inl z ↦ absurd z | inr lt ↦ lt ]

    pub more-ahead : (n : ℕ) (c : C) (i : ℕ) (v : C) (j : ℕ) → ReadsMore step q n c i v j → i ≤ j
    more-ahead zero c i v j (e, f) = omega (arith, f)
    more-ahead (suc n) c i v j (y, m, h, t) =
        let lt : i < m = item-moves i y m h in
        let le : m ≤ j = more-ahead n (step c y) m v j t in omega (arith, lt, le)

    -- either it ends here, or it goes on with the first token of an item
    pub more_or_begins : (n : ℕ) (c : C) (i : ℕ) (v : C) (j : ℕ) → ReadsMore step q n c i v j → ((j ≡ i) × (v ≡ c)) ⊎ (qf (terminal_at ts i) × (i < j))
    more_or_begins zero c i v j (e, f) = inl (f, e)
    more_or_begins (suc n) c i v j (y, m, h, t) =
        let lt : i < m = item-moves i y m h in
        let le : m ≤ j = more-ahead n (step c y) m v j t in
        inr (sq.begins i m (sq.whole i y m h) lt, omega (arith, lt, le))

    abbrev pub Goes : ℕ → Type 0
    Goes j = qm (terminal_at ts j) ⊎ qf (terminal_at ts j)

    -- after an item that could have been longer nothing more is read
    after_short : (n : ℕ) (c : C) (m : ℕ) (v : C) (j : ℕ) → qm (terminal_at ts m) → ReadsMore step q n c m v j → (j ≡ m)
    after_short n c m v j w t = elim (more_or_begins n c m v j t) [ inl e ↦ e.0 | inr z ↦ absurd (a _ w z.0) ]

    pub more-goes_on : (n : ℕ) (c : C) (i : ℕ) (v : C) (j : ℕ) (n' : ℕ) (c' : C) (v' : C) (m' l : ℕ)
        → ReadsMore step q n c i v j → ReadsMore step q n' c' i v' m' → qo m' l → j < l → Goes j
    more-goes_on zero c i v j zero c' v' m' l (e, f) (e', f') h lt =
        let h2 : qo j l = subst (λ t. qo t l) (f' ∙ sym f) h in inr (sq.begins j l h2 lt)
    more-goes_on zero c i v j (suc n') c' v' m' l (e, f) (y, m, g, t) h lt =
        inr (subst (λ t. qf (terminal_at ts t)) (sym f) (sq.begins i m (sq.whole i y m g) (item-moves i y m g)))
    more-goes_on (suc n) c i v j zero c' v' m' l (y, m, g, t) (e', f') h lt =
        let h2 : qo i l = subst (λ t. qo t l) f' h in
        let le : m ≤ j = more-ahead n (step c y) m v j t in
        let w : qm (terminal_at ts m) = sq.goes_on i y m l g h2 (omega (arith, le, lt)) in
        inl (subst (λ t. qm (terminal_at ts t)) (sym (after_short n (step c y) m v j w t)) w)
    more-goes_on (suc n) c i v j (suc n') c' v' m' l (y, m, g, t) (y', m2, g', t') h lt =
        let le : m ≤ j = more-ahead n (step c y) m v j t in
        let le' : m2 ≤ m' = more-ahead n' (step c' y') m2 v' m' t' in
        elim (compare3 m m2) [
          | inl same ↦ more-goes_on n (step c y) m v j n' (step c' y') v' m' l t (subst (λ u. ReadsMore step q n' (step c' y') u v' m') (sym same) t') h lt
          | inr other ↦ elim other [
            | inl before ↦
                let w : qm (terminal_at ts m) = sq.goes_on i y m m2 g (sq.whole i y' m2 g') before in
                inl (subst (λ t. qm (terminal_at ts t)) (sym (after_short n (step c y) m v j w t)) w)
            | inr after ↦
                let w : qm (terminal_at ts m2) = sq.goes_on i y' m2 m g' (sq.whole i y m g) after in
                let e : m' ≡ m2 = after_short n' (step c' y') m2 v' m' w t' in
                absurd (a _ w (subst (λ u. qf (terminal_at ts u)) e (sq.begins m' l h (omega (arith, after, e, le, lt)))))
          ]
        ]

  -- ---- operands with separators: an item is a separator and an operand

  module _ {A B C : Type 0} (first : A → C) (step : C → B → C) (p : Reading A) (po : Opening) (pf pm : Words) (q : Reading B) (qo : Opening) (qf : Words) (qm : Words) (sp : Sane p po pf ⊥ pm) (sq : Sane q qo qf ⊥ qm) (a : Apart qm qf) (b : Apart pm qf) where
    abbrev pub ReadsItems : Reading C
    ReadsItems i v j = (x : A) × (m n : ℕ) × p i x m × ReadsMore step q n (first x) m v j

    abbrev pub OpensItems : Opening
    OpensItems i j = po i j ⊎ ((v : C) × (m : ℕ) × ReadsItems i v m × qo m j)

    abbrev ahead-of : (n : ℕ) (c : C) (i : ℕ) (v : C) (j : ℕ) → ReadsMore step q n c i v j → i ≤ j
    ahead-of = more-ahead step q qo qf qm sq a

    items-moves : (i : ℕ) (v : C) (j : ℕ) → ReadsItems i v j → i < j
    items-moves i v j (x, m, n, rp, t) =
        let le : m ≤ j = ahead-of n (first x) m v j t in
        elim (sp.some i x m rp) [ inl z ↦ absurd z | inr lt ↦ omega (arith, lt, le) ]

    items-ahead : (i j : ℕ) → OpensItems i j → i ≤ j
    items-ahead i j (inl h) = sp.ahead i j h
    items-ahead i j (inr (v, m, r, h)) = let lt : i < m = items-moves i v m r in let le : m ≤ j = sq.ahead m j h in omega (arith, lt, le)

    items-begins : (i j : ℕ) → OpensItems i j → i < j → pf (terminal_at ts i)
    items-begins i j (inl h) lt = sp.begins i j h lt
    items-begins i j (inr (v, l, (x, m, n, rp, t), h)) lt =
        elim (sp.some i x m rp) [ inl z ↦ absurd z | inr l2 ↦ sp.begins i m (sp.whole i x m rp) l2 ]

    -- an operand that could have been longer is the last
    pub after_first : (n : ℕ) (c : C) (m : ℕ) (v : C) (j : ℕ) → pm (terminal_at ts m) → ReadsMore step q n c m v j → j ≡ m
    after_first n c m v j w t = elim (more_or_begins step q qo qf qm sq a n c m v j t) [ inl e ↦ e.0 | inr z ↦ absurd (b _ w z.0) ]

    items-goes_on : (i : ℕ) (v : C) (j l : ℕ) → ReadsItems i v j → OpensItems i l → j < l → pm (terminal_at ts j) ⊎ (qm (terminal_at ts j) ⊎ qf (terminal_at ts j))
    items-goes_on i v j l (x, m, n, rp, t) (inl h) lt =
        let le : m ≤ j = ahead-of n (first x) m v j t in
        let w : pm (terminal_at ts m) = sp.goes_on i x m l rp h (omega (arith, le, lt)) in
        inl (subst (λ t. pm (terminal_at ts t)) (sym (after_first n (first x) m v j w t)) w)
    items-goes_on i v j l (x, m, n, rp, t) (inr (v', m', (x', m0, n0, rp', t'), h)) lt =
        let le : m ≤ j = ahead-of n (first x) m v j t in
        elim (compare3 m m0) [
          | inl same ↦ inr (more-goes_on step q qo qf qm sq a n (first x) m v j n0 (first x') v' m' l t (subst (λ u. ReadsMore step q n0 (first x') u v' m') (sym same) t') h lt)
          | inr other ↦ elim other [
            | inl before ↦
                let w : pm (terminal_at ts m) = sp.goes_on i x m m0 rp (sp.whole i x' m0 rp') before in
                inl (subst (λ t. pm (terminal_at ts t)) (sym (after_first n (first x) m v j w t)) w)
            | inr after ↦
                let w : pm (terminal_at ts m0) = sp.goes_on i x' m0 m rp' (sp.whole i x m rp) after in
                let e : m' ≡ m0 = after_first n0 (first x') m0 v' m' w t' in
                absurd (b _ w (subst (λ u. qf (terminal_at ts u)) e (sq.begins m' l h (omega (arith, after, e, le, lt)))))
          ]
        ]

    pub sane-items : Sane ReadsItems OpensItems pf ⊥ (λ n. pm n ⊎ (qm n ⊎ qf n))
    sane-items = record {
      ahead = items-ahead;
      nil = (λ i. inl (sp.nil i));
      whole = (λ i v j h. inr (v, j, h, sq.nil j));
      begins = items-begins;
      some = (λ i v j h. inr (items-moves i v j h));
      goes_on = items-goes_on;
    }

  -- ---- the other forms

  module _ {A : Type 0} (p q : Reading A) (po qo : Opening) (pf pm qf qm : Words) (sp : Sane p po pf ⊥ pm) (sq : Sane q qo qf ⊥ qm) (a : Apart pf qf) where
    pub moves : (i j : ℕ) → ⊥ ⊎ (i < j) → i < j
    moves i j (inl z) = absurd z
    moves i j (inr lt) = lt

    either-goes_on : (i : ℕ) (v : A) (j k : ℕ) → p i v j ⊎ q i v j → po i k ⊎ qo i k → j < k → pm (terminal_at ts j) ⊎ qm (terminal_at ts j)
    either-goes_on i v j k (inl r) (inl o) lt = inl (sp.goes_on i v j k r o lt)
    either-goes_on i v j k (inr r) (inr o) lt = inr (sq.goes_on i v j k r o lt)
    either-goes_on i v j k (inl r) (inr o) lt =
        let l1 : i < j = moves i j (sp.some i v j r) in absurd (a _ (sp.begins i j (sp.whole i v j r) l1) (sq.begins i k o (omega (arith, l1, lt))))
    either-goes_on i v j k (inr r) (inl o) lt =
        let l1 : i < j = moves i j (sq.some i v j r) in absurd (a _ (sp.begins i k o (omega (arith, l1, lt))) (sq.begins i j (sq.whole i v j r) l1))

    either-whole : (i : ℕ) (v : A) (j : ℕ) → p i v j ⊎ q i v j → po i j ⊎ qo i j
    either-whole i v j (inl r) = inl (sp.whole i v j r)
    either-whole i v j (inr r) = inr (sq.whole i v j r)

    either-ahead : (i j : ℕ) → po i j ⊎ qo i j → i ≤ j
    either-ahead i j (inl r) = sp.ahead i j r
    either-ahead i j (inr r) = sq.ahead i j r

    either-begins : (i j : ℕ) → po i j ⊎ qo i j → i < j → pf (terminal_at ts i) ⊎ qf (terminal_at ts i)
    either-begins i j (inl r) lt = inl (sp.begins i j r lt)
    either-begins i j (inr r) lt = inr (sq.begins i j r lt)

    either-some : (i : ℕ) (v : A) (j : ℕ) → p i v j ⊎ q i v j → ⊥ ⊎ (i < j)
    either-some i v j (inl r) = sp.some i v j r
    either-some i v j (inr r) = sq.some i v j r

    pub sane-either : Sane (λ i v j. p i v j ⊎ q i v j) (λ i j. po i j ⊎ qo i j) (λ n. pf n ⊎ qf n) ⊥ (λ n. pm n ⊎ qm n)
    sane-either = record { ahead = either-ahead; nil = (λ i. inl (sp.nil i)); whole = either-whole; begins = either-begins; some = either-some; goes_on = either-goes_on }

  module _ {A B : Type 0} (k : A → B) (p : Reading A) (po : Opening) (pf : Words) (pn : Type 0) (pm : Words) (sp : Sane p po pf pn pm) where
    pub sane-as : Sane (λ i (v : B) j. (x : A) × p i x j × (v ≡ k x)) po pf pn pm
    sane-as = record {
      ahead = sp.ahead;
      nil = sp.nil;
      begins = sp.begins;
      whole = (λ i v j h. sp.whole i h.0 j h.1);
      some = (λ i v j h. sp.some i h.0 j h.1);
      goes_on = (λ i v j l h o lt. sp.goes_on i h.0 j l h.1 o lt);
    }

    pub sane-weaker : (qf : Words) (qn : Type 0) (qm : Words) → ((n : ℕ) → pf n → qf n) → (pn → qn) → ((n : ℕ) → pm n → qm n) → Sane p po qf qn qm
    sane-weaker qf qn qm f g h = record {
      ahead = sp.ahead;
      nil = sp.nil;
      whole = sp.whole;
      begins = (λ i j o lt. f _ (sp.begins i j o lt));
      some = (λ i v j r. elim (sp.some i v j r) [ inl z ↦ inl (g z) | inr lt ↦ inr lt ]);
      goes_on = (λ i v j l r o lt. h _ (sp.goes_on i v j l r o lt));
    }

  module _ {A : Type 0} (c : A) where
    pub sane-empty : Sane (λ i (v : A) j. (v ≡ c) × (j ≡ i)) (λ i j. j ≡ i) (λ n. ⊥) (Unit {0}) (λ n. ⊥)
    sane-empty = record {
      ahead = (λ i j e. omega (arith, e));
      nil = (λ i. refl);
      whole = (λ i v j h. h.1);
      begins = (λ i j e lt. omega (arith, e, lt));
      some = (λ i v j h. inl tt);
      goes_on = (λ i v j l h o lt. omega (arith, h.1, o, lt));
    }
