-- Reading from the left finds the longest list of tokens that opens a form.
use Rattle.std.proofs.Common.{◌≡◌, ℕ, zero, suc, ◌+◌, ◌≤◌, ◌<◌, ◌⊎◌, inl, inr, Bool, true, false, cond, Ok, Err, refl, sym, ◌∙◌, ap, subst, arith}
use Rattle.qt_terminals.specs.Terminals.{PlacedTerminal}
use Rattle.qt_grammar.specs.declared.refusal.Refusal.{Refusal}
use Rattle.qt_grammar.specs.declared.refusal.Refusal.TheVariants.{Syntax, Nest, OutOfMemory}
use Rattle.qt_grammar.specs.Form.{Reading, Opening, terminal_at, ReadsThen, OpensThen, ReadsMore}
use Rattle.qt_grammar.specs.Outcome.{Outcome, and_then, more_of}
use Rattle.qt_grammar.proofs.Sane.{same_or_before, Words, Apart, Sane, reads-ahead, more_or_begins, item-moves, more-ahead, ReadsItems, OpensItems, after_first}

module _ (ts : ℕ → PlacedTerminal) where
  -- the longest list of tokens that opens the form ends at j, and it spells this tree and no other
  pub record Found {A : Type 0} (r : Reading A) (o : Opening) (i : ℕ) (v : A) (j : ℕ) : Type 0 where
    pub reads : r i v j
    pub longest : (k : ℕ) → o i k → k ≤ j
    pub only : (w : A) → r i w j → w ≡ v

  -- the longest list of tokens that opens the form ends at j, and it spells no tree unless the token there could go on
  pub record Held {A : Type 0} (r : Reading A) (o : Opening) (more : Words) (i j : ℕ) : Type 0 where
    pub opens : o i j
    pub longest : (k : ℕ) → o i k → k ≤ j
    pub held : (w : A) → r i w j → more (terminal_at ts j)

  abbrev pub Refused : {A : Type 0} → Reading A → Opening → Words → ℕ → Refusal → Type 0
  Refused r o more i (Syntax j) = Held r o more i j
  Refused r o more i (Nest j) = Held r o more i j
  Refused r o more i OutOfMemory = ⊥

  abbrev pub Gives : {A : Type 0} → Reading A → Opening → Words → ℕ → Outcome A → Type 0
  Gives r o more i (Ok p) = Found r o i p.0 p.1
  Gives r o more i (Err e) = Refused r o more i e

  pub gives_weaker : {A : Type 0} (r : Reading A) (o : Opening) (more more' : Words) → ((n : ℕ) → more n → more' n) → (i : ℕ) (out : Outcome A) → Gives r o more i out → Gives r o more' i out
  gives_weaker r o more more' f i (Ok z) g = g
  gives_weaker r o more more' f i (Err (Syntax j)) g = record { opens = g.opens; longest = g.longest; held = λ w h. f _ (g.held w h) }
  gives_weaker r o more more' f i (Err (Nest j)) g = record { opens = g.opens; longest = g.longest; held = λ w h. f _ (g.held w h) }
  gives_weaker r o more more' f i (Err OutOfMemory) g = g

  module _ {A B C : Type 0} (k : A → B → C) (p : Reading A) (po : Opening) (pf : Words) (pn : Type 0) (pm : Words) (q : Reading B) (qo : Opening) (qf : Words) (qn : Type 0) (qm : Words) (sp : Sane ts p po pf pn pm) (sq : Sane ts q qo qf qn qm) (a : Apart pm qf) where
    abbrev more-then : Words
    more-then n = qm n ⊎ (qn × pm n)

    -- nothing of the second part is read from a place where the first part could go on
    goes_nowhere : (m l : ℕ) → pm (terminal_at ts m) → qo m l → l ≡ m
    goes_nowhere m l w h = elim (same_or_before m l (sq.ahead m l h)) [ inl e ↦ sym e | inr lt ↦ absurd (a _ w (sq.begins m l h lt)) ]

    -- where the first part may end
    junction : (i : ℕ) (x' : A) (m' m l : ℕ) → p i x' m' → m' ≤ m → po i m → qo m' l → (m' ≡ m) ⊎ ((l ≡ m') × (m' < m))
    junction i x' m' m l r le o h = elim (same_or_before m' m le) [
      | inl e ↦ inl e
      | inr lt ↦ inr (goes_nowhere m' l (sp.goes_on i x' m' m r o lt) h, lt)
    ]

    stuck_first : (i m : ℕ) → Held p po pm i m → Held (ReadsThen k p q) (OpensThen p po qo) more-then i m
    stuck_first i m s =
        let longest : (l : ℕ) → OpensThen p po qo i l → l ≤ m =
        λ l o. elim o [
          | inl h ↦ s.longest l h
          | inr h ↦ elim (junction i h.0 h.1 m l h.2 (s.longest h.1 (sp.whole i h.0 h.1 h.2)) s.opens h.3) [
            | inl e ↦
                let z : l ≡ m = goes_nowhere m l (s.held h.0 (subst (λ t. p i h.0 t) e h.2)) (subst (λ t. qo t l) e h.3) in omega (arith, z)
            | inr e ↦ omega (arith, e.0, e.1)
          ]
        ] in
        let held : (w : C) → ReadsThen k p q i w m → more-then (terminal_at ts m) =
        λ w h. elim (junction i h.0 h.2 m m h.3 (s.longest h.2 (sp.whole i h.0 h.2 h.3)) s.opens (sq.whole h.2 h.1 m h.4)) [
          | inl e ↦
              let z : pm (terminal_at ts m) = s.held h.0 (subst (λ t. p i h.0 t) e h.3) in
              elim (sq.some m h.1 m (subst (λ t. q t h.1 m) e h.4)) [ inl n ↦ inr (n, z) | inr lt ↦ absurd (omega (arith, lt)) ]
          | inr e ↦ absurd (omega (arith, e.0, e.1))
        ] in
        record { opens = inl s.opens; longest = longest; held = held }

    longest-second : (i : ℕ) (x : A) (m j : ℕ) → Found p po i x m → m ≤ j → ((l : ℕ) → qo m l → l ≤ j) → (l : ℕ) → OpensThen p po qo i l → l ≤ j
    longest-second i x m j f le long l (inl h) = let e : l ≤ m = f.longest l h in omega (arith, e, le)
    longest-second i x m j f le long l (inr (x', m', r, h)) =
        elim (junction i x' m' m l r (f.longest m' (sp.whole i x' m' r)) (sp.whole i x m f.reads) h) [
          | inl e ↦ long l (subst (λ t. qo t l) e h)
          | inr e ↦ omega (arith, e.0, e.1, le)
        ]

    -- any reading ends its first part at the same place
    same_middle : (i : ℕ) (x : A) (m j : ℕ) → Found p po i x m → m ≤ j → (w : C) (h : ReadsThen k p q i w j) → (h.2 ≡ m) × (h.0 ≡ x)
    same_middle i x m j f le w h = elim (junction i h.0 h.2 m j h.3 (f.longest h.2 (sp.whole i h.0 h.2 h.3)) (sp.whole i x m f.reads) (sq.whole h.2 h.1 j h.4)) [
      | inl e ↦ (e, f.only h.0 (subst (λ t. p i h.0 t) e h.3))
      | inr e ↦ absurd (omega (arith, e.0, e.1, le))
    ]

    found_both : (i : ℕ) (x : A) (m : ℕ) (y : B) (j : ℕ) → Found p po i x m → Found q qo m y j → Found (ReadsThen k p q) (OpensThen p po qo) i (k x y) j
    found_both i x m y j f g =
        let le : m ≤ j = reads-ahead ts q qo qf qn qm sq m y j g.reads in
        record {
          reads = (x, y, m, f.reads, g.reads, refl);
          longest = longest-second i x m j f le g.longest;
          only = λ w h. let s : (h.2 ≡ m) × (h.0 ≡ x) = same_middle i x m j f le w h in
              let t : h.1 ≡ y = g.only h.1 (subst (λ t. q t h.1 j) s.0 h.4) in
              h.5 ∙ ap (λ z. k z h.1) s.1 ∙ ap (λ z. k x z) t;
        }

    stuck_second : (i : ℕ) (x : A) (m j : ℕ) → Found p po i x m → Held q qo qm m j → Held (ReadsThen k p q) (OpensThen p po qo) more-then i j
    stuck_second i x m j f s =
        let le : m ≤ j = sq.ahead m j s.opens in
        record {
          opens = inr (x, m, f.reads, s.opens);
          longest = longest-second i x m j f le s.longest;
          held = λ w h. let e : (h.2 ≡ m) × (h.0 ≡ x) = same_middle i x m j f le w h in inl (s.held h.1 (subst (λ t. q t h.1 j) e.0 h.4));
        }

    gives_second : (i : ℕ) (x : A) (m : ℕ) → Found p po i x m → (out : Outcome B) → Gives q qo qm m out
        → Gives (ReadsThen k p q) (OpensThen p po qo) more-then i (and_then out (λ y j. Ok (k x y, j)))
    gives_second i x m f (Ok s) g = found_both i x m s.0 s.1 f g
    gives_second i x m f (Err (Syntax j)) g = stuck_second i x m j f g
    gives_second i x m f (Err (Nest j)) g = stuck_second i x m j f g
    gives_second i x m f (Err OutOfMemory) g = g

    pub gives-then : (i : ℕ) (out : Outcome A) (run : ℕ → Outcome B) → Gives p po pm i out → ((m : ℕ) → Gives q qo qm m (run m))
        → Gives (ReadsThen k p q) (OpensThen p po qo) more-then i (and_then out (λ x m. and_then (run m) (λ y j. Ok (k x y, j))))
    gives-then i (Ok s) run f g = gives_second i s.0 s.1 f (run s.1) (g s.1)
    gives-then i (Err (Syntax j)) run f g = stuck_first i j f
    gives-then i (Err (Nest j)) run f g = stuck_first i j f
    gives-then i (Err OutOfMemory) run f g = f

  -- ---- so many items

  module _ {B C : Type 0} (step : C → B → C) (q : Reading B) (qo : Opening) (qf qm : Words) (sq : Sane ts q qo qf ⊥ qm) (a : Apart qm qf) where
    abbrev pub ReadsTail : C → Reading C
    ReadsTail c i v j = (n : ℕ) × ReadsMore step q n c i v j

    abbrev pub OpensTail : C → Opening
    OpensTail c i j = (v : C) × (m : ℕ) × ReadsTail c i v m × qo m j

    abbrev pub more-tail : Words
    more-tail n = qm n ⊎ qf n

    pub goes_nowhere_else : (n : ℕ) (c : C) (m : ℕ) (v : C) (j l : ℕ) → qm (terminal_at ts m) → ReadsMore step q n c m v j → qo j l → (j ≡ m) × (l ≡ m)
    goes_nowhere_else n c m v j l w t h = elim (more_or_begins ts step q qo qf qm sq a n c m v j t) [
      | inr z ↦ absurd (a _ w z.0)
      | inl e ↦ elim (same_or_before j l (sq.ahead j l h)) [
        | inl same ↦ (e.0, sym same ∙ e.0)
        | inr lt ↦ absurd (a _ w (subst (λ t. qf (terminal_at ts t)) e.0 (sq.begins j l h lt)))
      ]
    ]

    stops : (c : C) (i : ℕ) → (qf (terminal_at ts i) → ⊥) → Found (ReadsTail c) (OpensTail c) i c i
    stops c i never = record {
      reads = (zero, (refl, refl));
      longest = λ l h. elim (more_or_begins ts step q qo qf qm sq a h.2.0 c i h.0 h.1 h.2.1) [
        | inr z ↦ absurd (never z.0)
        | inl e ↦ elim (same_or_before h.1 l (sq.ahead h.1 l h.3)) [
          | inl same ↦ omega (arith, same, e.0)
          | inr lt ↦ absurd (never (subst (λ t. qf (terminal_at ts t)) e.0 (sq.begins h.1 l h.3 lt)))
        ]
      ];
      only = λ w h. elim (more_or_begins ts step q qo qf qm sq a h.0 c i w i h.1) [ inl e ↦ e.1 | inr z ↦ absurd (never z.0) ];
    }

    longest-more : (c : C) (i : ℕ) (y : B) (m j : ℕ) → Found q qo i y m → m ≤ j → ((l : ℕ) → OpensTail (step c y) m l → l ≤ j)
        → (n : ℕ) (v : C) (m' l : ℕ) → ReadsMore step q n c i v m' → qo m' l → l ≤ j
    longest-more c i y m j f le long zero v m' l (e, e2) h = let z : l ≤ m = f.longest l (subst (λ t. qo t l) e2 h) in omega (arith, z, le)
    longest-more c i y m j f le long (suc n) v m' l (y', m1, g, t) h =
        elim (same_or_before m1 m (f.longest m1 (sq.whole i y' m1 g))) [
          | inl e ↦
              let ey : y' ≡ y = f.only y' (subst (λ u. q i y' u) e g) in
              long l (v, m', (n, subst (λ u. ReadsMore step q n (step c u) m v m') ey (subst (λ u. ReadsMore step q n (step c y') u v m') e t)), h)
          | inr lt ↦
              let z : (m' ≡ m1) × (l ≡ m1) = goes_nowhere_else n (step c y') m1 v m' l (sq.goes_on i y' m1 m g (sq.whole i y m f.reads) lt) t h in omega (arith, z.1, lt, le)
        ]

    only-more : (c : C) (i : ℕ) (y : B) (m j : ℕ) (X : C → Type 0) → Found q qo i y m → m ≤ j → ((w : C) → ReadsTail (step c y) m w j → X w)
        → (n : ℕ) (w : C) → ReadsMore step q n c i w j → X w
    only-more c i y m j X f le only zero w (e, e2) =
        let lt : i < m = item-moves ts step q qo qf qm sq a i y m f.reads in absurd (omega (arith, e2, le, lt))
    only-more c i y m j X f le only (suc n) w (y', m1, g, t) =
        elim (same_or_before m1 m (f.longest m1 (sq.whole i y' m1 g))) [
          | inl e ↦
              let ey : y' ≡ y = f.only y' (subst (λ u. q i y' u) e g) in
              only w (n, subst (λ u. ReadsMore step q n (step c u) m w j) ey (subst (λ u. ReadsMore step q n (step c y') u w j) e t))
          | inr lt ↦
              let z : (j ≡ m1) × (j ≡ m1) = goes_nowhere_else n (step c y') m1 w j j (sq.goes_on i y' m1 m g (sq.whole i y m f.reads) lt) t (sq.nil j) in absurd (omega (arith, z.0, lt, le))
        ]

    found_more : (c : C) (i : ℕ) (y : B) (m : ℕ) (v : C) (j : ℕ) → Found q qo i y m → Found (ReadsTail (step c y)) (OpensTail (step c y)) m v j → Found (ReadsTail c) (OpensTail c) i v j
    found_more c i y m v j f g =
        let le : m ≤ j = more-ahead ts step q qo qf qm sq a g.reads.0 (step c y) m v j g.reads.1 in
        record {
          reads = (suc g.reads.0, (y, m, f.reads, g.reads.1));
          longest = λ l h. longest-more c i y m j f le g.longest h.2.0 h.0 h.1 l h.2.1 h.3;
          only = λ w h. only-more c i y m j (λ w. w ≡ v) f le g.only h.0 w h.1;
        }

    held_more : (c : C) (i : ℕ) (y : B) (m j : ℕ) → Found q qo i y m → Held (ReadsTail (step c y)) (OpensTail (step c y)) more-tail m j → Held (ReadsTail c) (OpensTail c) more-tail i j
    held_more c i y m j f s =
        let e1 : m ≤ s.opens.1 = more-ahead ts step q qo qf qm sq a s.opens.2.0 (step c y) m s.opens.0 s.opens.1 s.opens.2.1 in
        let e2 : s.opens.1 ≤ j = sq.ahead s.opens.1 j s.opens.3 in
        let le : m ≤ j = omega (arith, e1, e2) in
        record {
          opens = (s.opens.0, s.opens.1, (suc s.opens.2.0, (y, m, f.reads, s.opens.2.1)), s.opens.3);
          longest = λ l h. longest-more c i y m j f le s.longest h.2.0 h.0 h.1 l h.2.1 h.3;
          held = λ w h. only-more c i y m j (λ w. more-tail (terminal_at ts j)) f le s.held h.0 w h.1;
        }

    held_item : (c : C) (i j : ℕ) → qf (terminal_at ts i) → Held q qo qm i j → Held (ReadsTail c) (OpensTail c) more-tail i j
    held_item c i j b s =
        let tail : (n : ℕ) (v : C) (m l : ℕ) → ReadsMore step q n c i v m → qo m l → (l ≤ j) =
        λ n v m l. elim n as (λ n. ReadsMore step q n c i v m → qo m l → (l ≤ j)) [
          | zero ↦ λ t h. s.longest l (subst (λ t. qo t l) t.1 h)
          | suc n ↦ λ t h. elim (same_or_before t.1 j (s.longest t.1 (sq.whole i t.0 t.1 t.2))) [
            | inl e ↦ let z : (m ≡ t.1) × (l ≡ t.1) = goes_nowhere_else n (step c t.0) t.1 v m l (subst (λ u. qm (terminal_at ts u)) (sym e) (s.held t.0 (subst (λ u. q i t.0 u) e t.2))) t.3 h in omega (arith, z.1, e)
            | inr lt ↦ let z : (m ≡ t.1) × (l ≡ t.1) = goes_nowhere_else n (step c t.0) t.1 v m l (sq.goes_on i t.0 t.1 j t.2 s.opens lt) t.3 h in omega (arith, z.1, lt)
          ]
        ] in
        let held : (n : ℕ) (w : C) → ReadsMore step q n c i w j → more-tail (terminal_at ts j) =
        λ n w. elim n as (λ n. ReadsMore step q n c i w j → more-tail (terminal_at ts j)) [
          | zero ↦ λ t. inr (subst (λ u. qf (terminal_at ts u)) (sym t.1) b)
          | suc n ↦ λ t. elim (same_or_before t.1 j (s.longest t.1 (sq.whole i t.0 t.1 t.2))) [
            | inl e ↦ inl (s.held t.0 (subst (λ u. q i t.0 u) e t.2))
            | inr lt ↦ let z : (j ≡ t.1) × (j ≡ t.1) = goes_nowhere_else n (step c t.0) t.1 w j j (sq.goes_on i t.0 t.1 j t.2 s.opens lt) t.3 (sq.nil j) in absurd (omega (arith, z.0, lt))
          ]
        ] in
        record {
          opens = (c, i, (zero, (refl, refl)), s.opens);
          longest = λ l h. tail h.2.0 h.0 h.1 l h.2.1 h.3;
          held = λ w h. held h.0 w h.1;
        }

    module _ (begins : ℕ → Bool) (item : ℕ → Outcome B) (turns : ℕ) (yes : (i : ℕ) → begins i ≡ true → qf (terminal_at ts i)) (never : (i : ℕ) → begins i ≡ false → qf (terminal_at ts i) → ⊥)
        (ends : (i : ℕ) → turns ≤ i → qf (terminal_at ts i) → ⊥) (gives : (i : ℕ) → Gives q qo qm i (item i)) where
      gives_item : (n : ℕ) (c : C) (i : ℕ) → qf (terminal_at ts i) → (out : Outcome B) → Gives q qo qm i out
          → ((y : B) (m : ℕ) → i < m → Gives (ReadsTail (step c y)) (OpensTail (step c y)) more-tail m (more_of begins step item n (step c y) m))
          → Gives (ReadsTail c) (OpensTail c) more-tail i (and_then out (λ y m. more_of begins step item n (step c y) m))
      gives_item n c i b (Ok s) f rest = gives_rest (more_of begins step item n (step c s.0) s.1) (rest s.0 s.1 (item-moves ts step q qo qf qm sq a i s.0 s.1 f.reads))
        where
          gives_rest : (out : Outcome C) → Gives (ReadsTail (step c s.0)) (OpensTail (step c s.0)) more-tail s.1 out → Gives (ReadsTail c) (OpensTail c) more-tail i out
          gives_rest (Ok z) g = found_more c i s.0 s.1 z.0 z.1 f g
          gives_rest (Err (Syntax j)) g = held_more c i s.0 s.1 j f g
          gives_rest (Err (Nest j)) g = held_more c i s.0 s.1 j f g
          gives_rest (Err OutOfMemory) g = g
      gives_item n c i b (Err (Syntax j)) f rest = held_item c i j b f
      gives_item n c i b (Err (Nest j)) f rest = held_item c i j b f
      gives_item n c i b (Err OutOfMemory) f rest = f

      pub gives-more : (n : ℕ) (c : C) (i : ℕ) → turns ≤ n + i → Gives (ReadsTail c) (OpensTail c) more-tail i (more_of begins step item n c i)
      gives-more zero c i h = stops c i (ends i (omega (arith, h)))
      gives-more (suc n) c i h = at_test (begins i) refl (λ y m lt. gives-more n (step c y) m (omega (arith, h, lt)))
        where
          at_test : (b : Bool) → begins i ≡ b → ((y : B) (m : ℕ) → i < m → Gives (ReadsTail (step c y)) (OpensTail (step c y)) more-tail m (more_of begins step item n (step c y) m))
              → Gives (ReadsTail c) (OpensTail c) more-tail i (cond b (and_then (item i) (λ y m. more_of begins step item n (step c y) m)) (Ok (c, i)))
          at_test true e rest = gives_item n c i (yes i e) (item i) (gives i) rest
          at_test false e rest = stops c i (never i e)

  -- ---- operands with separators

  module _ {A B C : Type 0} (first : A → C) (step : C → B → C) (p : Reading A) (po : Opening) (pf pm : Words) (q : Reading B) (qo : Opening) (qf : Words) (qm : Words) (sp : Sane ts p po pf ⊥ pm) (sq : Sane ts q qo qf ⊥ qm) (a : Apart qm qf) (b : Apart pm qf) where
    abbrev R : Reading C
    R = ReadsItems ts first step p po pf pm q qo qf qm sp sq a b

    abbrev O : Opening
    O = OpensItems ts first step p po pf pm q qo qf qm sp sq a b

    abbrev pub more-items : Words
    more-items n = pm n ⊎ (qm n ⊎ qf n)

    ends_first : (n : ℕ) (c : C) (m : ℕ) (v : C) (j l : ℕ) → pm (terminal_at ts m) → ReadsMore step q n c m v j → qo j l → (j ≡ m) × (l ≡ m)
    ends_first n c m v j l w t h =
        let e : j ≡ m = after_first ts first step p po pf pm q qo qf qm sp sq a b n c m v j w t in
        elim (same_or_before j l (sq.ahead j l h)) [
          | inl same ↦ (e, sym same ∙ e)
          | inr lt ↦ absurd (b _ w (subst (λ t. qf (terminal_at ts t)) e (sq.begins j l h lt)))
        ]

    abbrev T : C → Reading C
    T = ReadsTail step q qo qf qm sq a

    abbrev U : C → Opening
    U = OpensTail step q qo qf qm sq a

    longest-items : (i : ℕ) (x : A) (m j : ℕ) → Found p po i x m → m ≤ j → ((l : ℕ) → U (first x) m l → l ≤ j) → (l : ℕ) → O i l → l ≤ j
    longest-items i x m j f le long l (inl h) = let e : l ≤ m = f.longest l h in omega (arith, e, le)
    longest-items i x m j f le long l (inr (v', m', (x', m0, n0, r, t), h)) =
        elim (same_or_before m0 m (f.longest m0 (sp.whole i x' m0 r))) [
          | inl e ↦
              let ex : x' ≡ x = f.only x' (subst (λ u. p i x' u) e r) in
              long l (v', m', (n0, subst (λ u. ReadsMore step q n0 (first u) m v' m') ex (subst (λ u. ReadsMore step q n0 (first x') u v' m') e t)), h)
          | inr lt ↦
              let z : (m' ≡ m0) × (l ≡ m0) = ends_first n0 (first x') m0 v' m' l (sp.goes_on i x' m0 m r (sp.whole i x m f.reads) lt) t h in omega (arith, z.1, lt, le)
        ]

    only-items : (i : ℕ) (x : A) (m j : ℕ) (X : C → Type 0) → Found p po i x m → m ≤ j → ((w : C) → T (first x) m w j → X w) → (w : C) → R i w j → X w
    only-items i x m j X f le only w (x', m0, n0, r, t) =
        elim (same_or_before m0 m (f.longest m0 (sp.whole i x' m0 r))) [
          | inl e ↦
              let ex : x' ≡ x = f.only x' (subst (λ u. p i x' u) e r) in
              only w (n0, subst (λ u. ReadsMore step q n0 (first u) m w j) ex (subst (λ u. ReadsMore step q n0 (first x') u w j) e t))
          | inr lt ↦
              let z : (j ≡ m0) × (j ≡ m0) = ends_first n0 (first x') m0 w j j (sp.goes_on i x' m0 m r (sp.whole i x m f.reads) lt) t (sq.nil j) in absurd (omega (arith, z.0, lt, le))
        ]

    held_first : (i j : ℕ) → Held p po pm i j → Held R O more-items i j
    held_first i j s =
        let ends : (x' : A) (m0 : ℕ) → p i x' m0 → (m0 ≤ j) × pm (terminal_at ts m0) =
        λ x' m0 r. let le : m0 ≤ j = s.longest m0 (sp.whole i x' m0 r) in elim (same_or_before m0 j le) [
          | inl e ↦ (le, subst (λ u. pm (terminal_at ts u)) (sym e) (s.held x' (subst (λ u. p i x' u) e r)))
          | inr lt ↦ (le, sp.goes_on i x' m0 j r s.opens lt)
        ] in
        record {
          opens = inl s.opens;
          longest = λ l o. elim o [
            | inl h ↦ s.longest l h
            | inr h ↦
                let w : (h.2.1 ≤ j) × pm (terminal_at ts h.2.1) = ends h.2.0 h.2.1 h.2.3 in
                let z : (h.1 ≡ h.2.1) × (l ≡ h.2.1) = ends_first h.2.2 (first h.2.0) h.2.1 h.0 h.1 l w.1 h.2.4 h.3 in omega (arith, z.1, w.0)
          ];
          held = λ v h.
              let w : (h.1 ≤ j) × pm (terminal_at ts h.1) = ends h.0 h.1 h.3 in
              let z : (j ≡ h.1) × (j ≡ h.1) = ends_first h.2 (first h.0) h.1 v j j w.1 h.4 (sq.nil j) in inl (subst (λ u. pm (terminal_at ts u)) (sym z.0) w.1);
        }

    held_tail : (i : ℕ) (x : A) (m : ℕ) → Found p po i x m → (j : ℕ) → Held (T (first x)) (U (first x)) (λ n. qm n ⊎ qf n) m j → Held R O more-items i j
    held_tail i x m f j s =
        let e1 : m ≤ s.opens.1 = more-ahead ts step q qo qf qm sq a s.opens.2.0 (first x) m s.opens.0 s.opens.1 s.opens.2.1 in
        let e2 : s.opens.1 ≤ j = sq.ahead s.opens.1 j s.opens.3 in
        let le : m ≤ j = omega (arith, e1, e2) in
        record {
          opens = inr (s.opens.0, s.opens.1, (x, m, s.opens.2.0, f.reads, s.opens.2.1), s.opens.3);
          longest = longest-items i x m j f le s.longest;
          held = λ w h. inr (only-items i x m j (λ w. qm (terminal_at ts j) ⊎ qf (terminal_at ts j)) f le s.held w h);
        }

    gives_tail : (i : ℕ) (x : A) (m : ℕ) → Found p po i x m → (out : Outcome C) → Gives (T (first x)) (U (first x)) (λ n. qm n ⊎ qf n) m out → Gives R O more-items i out
    gives_tail i x m f (Ok z) g =
        let le : m ≤ z.1 = more-ahead ts step q qo qf qm sq a g.reads.0 (first x) m z.0 z.1 g.reads.1 in
        record {
          reads = (x, m, g.reads.0, f.reads, g.reads.1);
          longest = longest-items i x m z.1 f le g.longest;
          only = only-items i x m z.1 (λ w. w ≡ z.0) f le g.only;
        }
    gives_tail i x m f (Err (Syntax j)) g = held_tail i x m f j g
    gives_tail i x m f (Err (Nest j)) g = held_tail i x m f j g
    gives_tail i x m f (Err OutOfMemory) g = g

    pub gives-items : (i : ℕ) (out : Outcome A) (run : C → ℕ → Outcome C) → Gives p po pm i out
        → ((c : C) (m : ℕ) → i < m → Gives (T c) (U c) (λ n. qm n ⊎ qf n) m (run c m))
        → Gives R O more-items i (and_then out (λ x m. run (first x) m))
    gives-items i (Ok s) run f g = gives_tail i s.0 s.1 f (run (first s.0) s.1)
        (g (first s.0) s.1 (elim (sp.some i s.0 s.1 f.reads) [ inl z ↦ absurd z | inr lt ↦ lt ]))
    gives-items i (Err (Syntax j)) run f g = held_first i j f
    gives-items i (Err (Nest j)) run f g = held_first i j f
    gives-items i (Err OutOfMemory) run f g = f
