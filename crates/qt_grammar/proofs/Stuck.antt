-- Where a token is refused whatever the limits, the tokens before it spell no tree.
use Rattle.std.proofs.Common.{◌≡◌, ℕ, zero, suc, ◌≤◌, ◌<◌, ◌⊎◌, inl, inr, Bool, true, false, cond, Ok, Err, refl, ap, subst, arith}
use Rattle.qt_terminals.specs.Terminals.{PlacedTerminal}
use Rattle.qt_grammar.specs.declared.refusal.Refusal.TheVariants.{Syntax, Nest, OutOfMemory}
use Rattle.qt_grammar.specs.Form.{Reading, Opening, terminal_at, ReadsThen, ReadsMore}
use Rattle.qt_grammar.specs.Outcome.{Outcome, and_then, more_of}
use Rattle.qt_grammar.proofs.Sane.{same_or_before, Words, Apart, Sane, reads-ahead, more_or_begins, item-moves}
use Rattle.qt_grammar.proofs.Munch.{Found, Held, Gives}

-- ---- where an outcome stands

-- at a place or behind it, and behind it, where it isn't for want of a limit
abbrev pub Ahead : {A : Type 0} → ℕ → Outcome A → Type 0
Ahead i (Ok z) = i ≤ z.1
Ahead i (Err (Syntax j)) = i ≤ j
Ahead i (Err (Nest j)) = Unit {0}
Ahead i (Err OutOfMemory) = Unit {0}

abbrev pub Moved : {A : Type 0} → ℕ → Outcome A → Type 0
Moved i (Ok z) = i < z.1
Moved i (Err (Syntax j)) = i < j
Moved i (Err (Nest j)) = Unit {0}
Moved i (Err OutOfMemory) = Unit {0}

pub ahead_then : {A B : Type 0} (i : ℕ) (out : Outcome A) (k : A → ℕ → Outcome B) → Ahead i out → ((x : A) (m : ℕ) → Ahead m (k x m)) → Ahead i (and_then out k)
ahead_then {A} {B} i (Ok z) k h g = behind (k z.0 z.1) (g z.0 z.1)
  where
    behind : (o : Outcome B) → Ahead z.1 o → Ahead i o
    behind (Ok y) a = omega (arith, h, a)
    behind (Err (Syntax j)) a = omega (arith, h, a)
    behind (Err (Nest j)) a = a
    behind (Err OutOfMemory) a = a
ahead_then i (Err (Syntax j)) k h g = h
ahead_then i (Err (Nest j)) k h g = h
ahead_then i (Err OutOfMemory) k h g = h

pub moved_then : {A B : Type 0} (i : ℕ) (out : Outcome A) (k : A → ℕ → Outcome B) → Moved i out → ((x : A) (m : ℕ) → Ahead m (k x m)) → Moved i (and_then out k)
moved_then {A} {B} i (Ok z) k h g = behind (k z.0 z.1) (g z.0 z.1)
  where
    behind : (o : Outcome B) → Ahead z.1 o → Moved i o
    behind (Ok y) a = omega (arith, h, a)
    behind (Err (Syntax j)) a = omega (arith, h, a)
    behind (Err (Nest j)) a = a
    behind (Err OutOfMemory) a = a
moved_then i (Err (Syntax j)) k h g = h
moved_then i (Err (Nest j)) k h g = h
moved_then i (Err OutOfMemory) k h g = h

pub ahead_more : {B C : Type 0} (begins : ℕ → Bool) (step : C → B → C) (item : ℕ → Outcome B) → ((i : ℕ) → Ahead i (item i)) → (n : ℕ) (c : C) (i : ℕ) → Ahead i (more_of begins step item n c i)
ahead_more begins step item h zero c i = omega arith
ahead_more {B} {C} begins step item h (suc n) c i = at_test (begins i) (λ y m. ahead_more begins step item h n (step c y) m)
  where
    at_test : (b : Bool) → ((y : B) (m : ℕ) → Ahead m (more_of begins step item n (step c y) m)) → Ahead i (cond b (and_then (item i) (λ y m. more_of begins step item n (step c y) m)) (Ok (c, i)))
    at_test true rest = ahead_then i (item i) (λ y m. more_of begins step item n (step c y) m) (h i) rest
    at_test false rest = omega arith

-- ---- no tree

pub and_syntax : {A B : Type 0} (out : Outcome A) (k : A → ℕ → Outcome B) (n : ℕ) → and_then out k ≡ Err (Syntax n) → (out ≡ Err (Syntax n)) ⊎ ((z : A × ℕ) × (out ≡ Ok z) × (k z.0 z.1 ≡ Err (Syntax n)))
and_syntax (Ok z) k n h = inr (z, refl, h)
and_syntax {A} (Err x) k n h = inl (ap (λ o. elim o as (λ _. Outcome A) [ Ok z ↦ Err x | Err y ↦ Err y ]) h)

-- where the outcome is a refusal whatever the limits, no tree is spelled
abbrev pub NoTree : {A : Type 0} → Reading A → ℕ → Outcome A → Type 0
NoTree {A} r i out = (n : ℕ) (w : A) → out ≡ Err (Syntax n) → r i w n → ⊥

module _ (ts : ℕ → PlacedTerminal) where
  module _ {A : Type 0} (r : Reading A) (o : Opening) (f : Words) (none : Type 0) (more : Words) (s : Sane ts r o f none more) where
    pub held_at : (i : ℕ) (out : Outcome A) (n : ℕ) → Gives ts r o more i out → out ≡ Err (Syntax n) → Held ts r o more i n
    held_at i out n g e = subst (λ t. Gives ts r o more i t) e g

    pub found_at : (i : ℕ) (out : Outcome A) (z : A × ℕ) → Gives ts r o more i out → out ≡ Ok z → Found ts r o i z.0 z.1
    found_at i out z g e = subst (λ t. Gives ts r o more i t) e g

    pub gives_ahead : (i : ℕ) (out : Outcome A) → Gives ts r o more i out → Ahead i out
    gives_ahead i (Ok z) g = reads-ahead ts r o f none more s i z.0 z.1 g.reads
    gives_ahead i (Err (Syntax j)) g = s.ahead i j g.opens
    gives_ahead i (Err (Nest j)) g = tt
    gives_ahead i (Err OutOfMemory) g = tt

    -- a reading that ends before another place that is opened could go on
    pub short : (i : ℕ) (x : A) (m l : ℕ) → r i x m → o i l → m ≤ l → (m ≡ l) ⊎ (more (terminal_at ts m) × (m < l))
    short i x m l h h' le = elim (same_or_before m l le) [ inl e ↦ inl e | inr lt ↦ inr (s.goes_on i x m l h h' lt, lt) ]

  module _ {A B C : Type 0} (k : A → B → C) (p : Reading A) (po : Opening) (pf : Words) (pn : Type 0) (pm : Words) (q : Reading B) (qo : Opening) (qf : Words) (qn : Type 0) (qm : Words) (sp : Sane ts p po pf pn pm) (sq : Sane ts q qo qf qn qm) (a : Apart pm qf) where
    -- the second part reads nothing from a place where the first could go on
    never_reads : (m n : ℕ) (y : B) → pm (terminal_at ts m) → q m y n → m < n → ⊥
    never_reads m n y w h lt = a _ w (sq.begins m n (sq.whole m y n h) lt)

    pub none_then : (i : ℕ) (out : Outcome A) (run : ℕ → Outcome B) → Gives ts p po pm i out → NoTree p i out → ((m : ℕ) → Gives ts q qo qm m (run m)) → ((m : ℕ) → NoTree q m (run m))
        → NoTree (ReadsThen k p q) i (and_then out (λ x m. and_then (run m) (λ y j. Ok (k x y, j))))
    none_then i out run gp np gq nq n w e (x, y, m, rp, rq, v) = elim (and_syntax out (λ x m. and_then (run m) (λ y j. Ok (k x y, j))) n e) [
      | inl z ↦
          let s : Held ts p po pm i n = held_at p po pf pn pm sp i out n gp z in
          elim (short p po pf pn pm sp i x m n rp s.opens (s.longest m (sp.whole i x m rp))) [
            | inl same ↦ np n x z (subst (λ t. p i x t) same rp)
            | inr u ↦ never_reads m n y u.0 rq u.1
          ]
      | inr z ↦ elim (and_syntax (run z.0.1) (λ y j. Ok (k z.0.0 y, j)) n z.2) [
        | inl u ↦
            let f : Found ts p po i z.0.0 z.0.1 = found_at p po pf pn pm sp i out z.0 gp z.1 in
            let s : Held ts q qo qm z.0.1 n = held_at q qo qf qn qm sq z.0.1 (run z.0.1) n (gq z.0.1) u in
            let le : z.0.1 ≤ n = sq.ahead z.0.1 n s.opens in
            elim (short p po pf pn pm sp i x m z.0.1 rp (sp.whole i z.0.0 z.0.1 f.reads) (f.longest m (sp.whole i x m rp))) [
              | inl same ↦ nq z.0.1 n y u (subst (λ t. q t y n) same rq)
              | inr v ↦ never_reads m n y v.0 rq (omega (arith, le, v.1))
            ]
        | inr u ↦ cc u.2
      ]
    ]

  -- ---- so many items

  module _ {B C : Type 0} (step : C → B → C) (q : Reading B) (qo : Opening) (qf qm : Words) (sq : Sane ts q qo qf ⊥ qm) (a : Apart qm qf)
      (begins : ℕ → Bool) (item : ℕ → Outcome B) (gives : (i : ℕ) → Gives ts q qo qm i (item i)) (none : (i : ℕ) → NoTree q i (item i)) (moves : (i : ℕ) → begins i ≡ true → Moved i (item i)) where
    -- nothing more is read from a place where an item could go on
    never_more : (k : ℕ) (c : C) (m : ℕ) (w : C) (n : ℕ) → qm (terminal_at ts m) → ReadsMore step q k c m w n → m < n → ⊥
    never_more k c m w n h t lt = elim (more_or_begins ts step q qo qf qm sq a k c m w n t) [ inl e ↦ omega (arith, e.0, lt) | inr z ↦ a _ h z.0 ]

    ahead_item : (i : ℕ) → Ahead i (item i)
    ahead_item i = gives_ahead q qo qf ⊥ qm sq i (item i) (gives i)

    ahead_at : {A : Type 0} (i : ℕ) (out : Outcome A) (n : ℕ) → Ahead i out → out ≡ Err (Syntax n) → i ≤ n
    ahead_at i out n h e = subst (λ o. Ahead i o) e h

    moved_at : (i : ℕ) (out : Outcome B) (n : ℕ) → Moved i out → out ≡ Err (Syntax n) → i < n
    moved_at i out n h e = subst (λ o. Moved i o) e h

    pub none_more : (n : ℕ) (c : C) (i l k : ℕ) (w : C) → more_of begins step item n c i ≡ Err (Syntax l) → ReadsMore step q k c i w l → ⊥
    none_more zero c i l k w e h = cc e
    none_more (suc n) c i l k w e h = at_test (begins i) refl (λ y m u. none_more n (step c y) m l u w) e
      where
        rest : B → ℕ → Outcome C
        rest y m = more_of begins step item n (step c y) m

        -- an item is refused
        refused : (k : ℕ) → begins i ≡ true → item i ≡ Err (Syntax l) → ReadsMore step q k c i w l → ⊥
        refused zero b e h = let lt : i < l = moved_at i (item i) l (moves i b) e in omega (arith, lt, h.1)
        refused (suc k) b e (y, m, r, t) =
            let s : Held ts q qo qm i l = held_at q qo qf ⊥ qm sq i (item i) l (gives i) e in
            elim (short q qo qf ⊥ qm sq i y m l r s.opens (s.longest m (sq.whole i y m r))) [
              | inl same ↦ none i l y e (subst (λ t. q i y t) same r)
              | inr u ↦ never_more k (step c y) m w l u.0 t u.1
            ]

        -- an item is read, and what follows is refused
        later : (k : ℕ) (z : B × ℕ) → item i ≡ Ok z → rest z.0 z.1 ≡ Err (Syntax l) → ((u : ℕ) → ReadsMore step q u (step c z.0) z.1 w l → ⊥) → ReadsMore step q k c i w l → ⊥
        later zero z e f go h =
            let g : Found ts q qo i z.0 z.1 = found_at q qo qf ⊥ qm sq i (item i) z (gives i) e in
            let lt : i < z.1 = item-moves ts step q qo qf qm sq a i z.0 z.1 g.reads in
            let le : z.1 ≤ l = ahead_at z.1 (rest z.0 z.1) l (ahead_more begins step item ahead_item n (step c z.0) z.1) f in
            omega (arith, lt, le, h.1)
        later (suc k) z e f go (y, m, r, t) =
            let g : Found ts q qo i z.0 z.1 = found_at q qo qf ⊥ qm sq i (item i) z (gives i) e in
            let le : z.1 ≤ l = ahead_at z.1 (rest z.0 z.1) l (ahead_more begins step item ahead_item n (step c z.0) z.1) f in
            elim (short q qo qf ⊥ qm sq i y m z.1 r (sq.whole i z.0 z.1 g.reads) (g.longest m (sq.whole i y m r))) [
              | inl same ↦
                  let ey : y ≡ z.0 = g.only y (subst (λ t. q i y t) same r) in
                  go k (subst (λ v. ReadsMore step q k (step c v) z.1 w l) ey (subst (λ u. ReadsMore step q k (step c y) u w l) same t))
              | inr u ↦ never_more k (step c y) m w l u.0 t (omega (arith, u.1, le))
            ]

        at_test : (b : Bool) → begins i ≡ b → ((y : B) (m u : ℕ) → rest y m ≡ Err (Syntax l) → ReadsMore step q u (step c y) m w l → ⊥) → cond b (and_then (item i) rest) (Ok (c, i)) ≡ Err (Syntax l) → ⊥
        at_test true b go e = elim (and_syntax (item i) rest l e) [
          | inl u ↦ refused k b u h
          | inr u ↦ later k u.0 u.1 u.2 (λ v. go u.0.0 u.0.1 v u.2) h
        ]
        at_test false b go e = cc e

  -- ---- operands with separators

  module _ {A B C : Type 0} (first : A → C) (step : C → B → C) (p : Reading A) (po : Opening) (pf pm : Words) (q : Reading B) (qo : Opening) (qf : Words) (qm : Words) (sp : Sane ts p po pf ⊥ pm) (sq : Sane ts q qo qf ⊥ qm) (a : Apart qm qf) (b : Apart pm qf)
      (begins : ℕ → Bool) (item : ℕ → Outcome B) (gives : (i : ℕ) → Gives ts q qo qm i (item i)) (none : (i : ℕ) → NoTree q i (item i)) (moves : (i : ℕ) → begins i ≡ true → Moved i (item i)) where
    never_items : (k : ℕ) (c : C) (m : ℕ) (w : C) (n : ℕ) → pm (terminal_at ts m) → ReadsMore step q k c m w n → m < n → ⊥
    never_items k c m w n h t lt = elim (more_or_begins ts step q qo qf qm sq a k c m w n t) [ inl e ↦ omega (arith, e.0, lt) | inr z ↦ b _ h z.0 ]

    pub none_items : (turns i : ℕ) (out : Outcome A) → Gives ts p po pm i out → NoTree p i out
        → (n : ℕ) (w : C) → and_then out (λ x m. more_of begins step item turns (first x) m) ≡ Err (Syntax n) → (x : A) (m k : ℕ) → p i x m → ReadsMore step q k (first x) m w n → ⊥
    none_items turns i out gp np n w e x m k r t = elim (and_syntax out (λ x m. more_of begins step item turns (first x) m) n e) [
      | inl z ↦
          let s : Held ts p po pm i n = held_at p po pf ⊥ pm sp i out n gp z in
          elim (short p po pf ⊥ pm sp i x m n r s.opens (s.longest m (sp.whole i x m r))) [
            | inl same ↦ np n x z (subst (λ t. p i x t) same r)
            | inr u ↦ never_items k (first x) m w n u.0 t u.1
          ]
      | inr z ↦
          let f : Found ts p po i z.0.0 z.0.1 = found_at p po pf ⊥ pm sp i out z.0 gp z.1 in
          let le : z.0.1 ≤ n = subst (λ o. Ahead z.0.1 o) z.2 (ahead_more begins step item (λ i. gives_ahead q qo qf ⊥ qm sq i (item i) (gives i)) turns (first z.0.0) z.0.1) in
          elim (short p po pf ⊥ pm sp i x m z.0.1 r (sp.whole i z.0.0 z.0.1 f.reads) (f.longest m (sp.whole i x m r))) [
            | inl same ↦
                let ex : x ≡ z.0.0 = f.only x (subst (λ t. p i x t) same r) in
                none_more step q qo qf qm sq a begins item gives none moves turns (first z.0.0) z.0.1 n k w z.2
                (subst (λ v. ReadsMore step q k (first v) z.0.1 w n) ex (subst (λ u. ReadsMore step q k (first x) u w n) same t))
            | inr u ↦ never_items k (first x) m w n u.0 t (omega (arith, u.1, le))
          ]
    ]
