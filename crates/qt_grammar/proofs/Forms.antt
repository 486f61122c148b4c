-- Each form of a tested grammar is read from the left.
use Rattle.std.proofs.Common.{◌≡◌, ℕ, ◌+◌, ◌≤◌, ◌<◌, ◌⊎◌, inl, inr, Bool, true, false, ◌&&◌, not, cond, List, [], ◌++◌, Option, Some, None, Ok, Err, refl, sym, ◌∙◌, ap, subst, arith}
use Rattle.qt_terminals.specs.Terminals.{PlacedTerminal}
use Rattle.qt_grammar.specs.declared.refusal.Refusal.TheVariants.{Syntax, Nest, OutOfMemory}
use Rattle.qt_grammar.specs.Sorts.{Sort, Value, Name, sort}
use Rattle.qt_grammar.specs.Form.{Form, one, operator, counted, here, empty, as_tree, then_, either, maybe, nearest, chain, named, member, terminal_at, begun, within, Reading, Opening, ReadsOne, OpensOne, ReadsOperator, OpensOperator, ReadsBy, OpensBy, ReadsThen, OpensThen, pair_of, stepped}
use Rattle.qt_grammar.specs.Outcome.{Outcome, and_then, more_of}
use Rattle.qt_grammar.specs.Lookahead.{first, nullable, joined, first_of}
use Rattle.qt_grammar.specs.Reading.{run}
use Rattle.qt_grammar.proofs.Sane.{Sane, sane-then, sane-items, sane-either, sane-as, sane-weaker, sane-empty, same_or_before, ReadsItems, OpensItems}
use Rattle.qt_grammar.proofs.Munch.{Found, Held, Gives, gives_weaker, gives-then, gives-items, gives-more}
use Rattle.qt_grammar.proofs.LookaheadTests.{In, apart, subset, apart_sound, subset_sound, and_left, and_right, not_true, in_left, in_right, in_joined, follow, follow_of, first_item, good}

module _ (ts : ℕ → PlacedTerminal) where
  abbrev pub Sound : {A : Type 0} → Reading A → Opening → List ℕ → Bool → List ℕ → Type 0
  Sound r o f n m = Sane ts r o (In f) (n ≡ true) (In m)

  -- ---- each way to build a form, over lists of words

  module _ {A : Type 0} (p : Reading A) (po : Opening) (pf : List ℕ) (pm : List ℕ) where
    pub solid : (pn : Bool) → not pn ≡ true → Sound p po pf pn pm → Sane ts p po (In pf) ⊥ (In pm)
    solid pn h s = sane-weaker ts {A = A} {B = ℕ} (λ x. 0) p po _ _ _ s _ _ _ (λ n a. a) (λ e. not_true pn h e) (λ n a. a)

    pub fluid : Sane ts p po (In pf) ⊥ (In pm) → Sound p po pf false pm
    fluid s = sane-weaker ts {A = A} {B = ℕ} (λ x. 0) p po _ _ _ s _ _ _ (λ n a. a) (λ e. absurd e) (λ n a. a)

  pub sound_one : (ws : List ℕ) → Sound (ReadsOne ts ws) (OpensOne ts ws) ws false []
  sound_one ws = record {
    ahead = (λ i j o. elim o [ inl e ↦ omega (arith, e) | inr e ↦ omega (arith, e.0) ]);
    nil = (λ i. inl refl);
    whole = (λ i v j h. inr (h.2, h.0));
    begins = (λ i j o lt. elim o [ inl e ↦ absurd (omega (arith, e, lt)) | inr e ↦ e.1 ]);
    some = (λ i v j h. inr (omega (arith, h.2)));
    goes_on = (λ i v j k h o lt. elim o [ inl e ↦ absurd (omega (arith, e, lt, h.2)) | inr e ↦ absurd (omega (arith, e.0, lt, h.2)) ]);
  }

  pub sound_operator : (cap : ℕ) (ws : List ℕ) (e : Option ℕ) → Sound (ReadsOperator ts cap ws e) (OpensOperator ts cap ws e) ws false []
  sound_operator cap ws e = record {
    ahead = (λ i j o. elim o [ inl e ↦ omega (arith, e) | inr e ↦ omega (arith, e.0) ]);
    nil = (λ i. inl refl);
    whole = (λ i v j h. inr (h.3, h.0, h.1));
    begins = (λ i j o lt. elim o [ inl e ↦ absurd (omega (arith, e, lt)) | inr e ↦ e.1 ]);
    some = (λ i v j h. inr (omega (arith, h.3)));
    goes_on = (λ i v j k h o lt. elim o [ inl e ↦ absurd (omega (arith, e, lt, h.3)) | inr e ↦ absurd (omega (arith, e.0, lt, h.3)) ]);
  }

  -- an expression, whose operators are counted from where it begins
  pub sound_counted : {A : Type 0} (p : Option ℕ → Reading A) (po : Option ℕ → Opening) (pf : List ℕ) (pn : Bool) (pm : List ℕ) → ((e : Option ℕ) → Sound (p e) (po e) pf pn pm)
      → (e : Option ℕ) → Sound (λ i v j. p (begun ts e i) i v j) (λ i j. po (begun ts e i) i j) pf pn pm
  sound_counted p po pf pn pm s e = record {
    ahead = (λ i j. (s (begun ts e i)).ahead i j);
    nil = (λ i. (s (begun ts e i)).nil i);
    whole = (λ i v j. (s (begun ts e i)).whole i v j);
    begins = (λ i j. (s (begun ts e i)).begins i j);
    some = (λ i v j. (s (begun ts e i)).some i v j);
    goes_on = (λ i v j k. (s (begun ts e i)).goes_on i v j k);
  }

  pub sound_here : Sound (λ i v j. (v ≡ (ts i).place) × (j ≡ i)) (λ i j. j ≡ i) [] true []
  sound_here = record {
    ahead = (λ i j e. omega (arith, e));
    nil = (λ i. refl);
    whole = (λ i v j h. h.1);
    begins = (λ i j e lt. absurd (omega (arith, e, lt)));
    some = (λ i v j h. inl refl);
    goes_on = (λ i v j l h o lt. absurd (omega (arith, h.1, o, lt)));
  }

  pub sound_empty : {A : Type 0} (c : A) → Sound (λ i v j. (v ≡ c) × (j ≡ i)) (λ i j. j ≡ i) [] true []
  sound_empty {A} c = sane-weaker ts {A = A} {B = A} (λ x. x) (λ i v j. (v ≡ c) × (j ≡ i)) (λ i j. j ≡ i) _ _ _ (sane-empty ts c) _ _ _ (λ n e. absurd e) (λ e. refl) (λ n e. absurd e)

  pub run_counted : {A : Type 0} (p : Option ℕ → Reading A) (po : Option ℕ → Opening) (pm : List ℕ) (e : Option ℕ) (i : ℕ) (out : Outcome A)
      → Gives ts (p (begun ts e i)) (po (begun ts e i)) (In pm) i out → Gives ts (λ i v j. p (begun ts e i) i v j) (λ i j. po (begun ts e i) i j) (In pm) i out
  run_counted p po pm e i (Ok z) g = record { reads = g.reads; longest = g.longest; only = g.only }
  run_counted p po pm e i (Err (Syntax j)) g = record { opens = g.opens; longest = g.longest; held = g.held }
  run_counted p po pm e i (Err (Nest j)) g = record { opens = g.opens; longest = g.longest; held = g.held }
  run_counted p po pm e i (Err OutOfMemory) g = g

  module _ {A B C : Type 0} (k : A → B → C) (p : Reading A) (po : Opening) (pf : List ℕ) (pn : Bool) (pm : List ℕ) (q : Reading B) (qo : Opening) (qf : List ℕ) (qn : Bool) (qm : List ℕ)
      (sp : Sound p po pf pn pm) (sq : Sound q qo qf qn qm) (a : apart pm qf ≡ true) where
    pub sound_then : Sound (ReadsThen k p q) (OpensThen p po qo) (joined pf pn qf) (pn && qn) (joined qm qn pm)
    sound_then = sane-weaker ts {A = C} {B = C} (λ x. x) (ReadsThen k p q) (OpensThen p po qo) _ _ _
        (sane-then ts k p po _ _ _ q qo _ _ _ sp sq (apart_sound pm qf a)) _ _ _
        (in_joined pf pn qf) (λ e. both_true pn qn e.0 e.1) (in_joined qm qn pm)
      where
        both_true : (b c : Bool) → b ≡ true → c ≡ true → (b && c) ≡ true
        both_true true c e f = f
        both_true false c e f = e

    pub run_then : (i : ℕ) (out : Outcome A) (run : ℕ → Outcome B) → Gives ts p po (In pm) i out → ((m : ℕ) → Gives ts q qo (In qm) m (run m))
        → Gives ts (ReadsThen k p q) (OpensThen p po qo) (In (joined qm qn pm)) i (and_then out (λ x m. and_then (run m) (λ y j. Ok (k x y, j))))
    run_then i out run f g = gives_weaker ts (ReadsThen k p q) (OpensThen p po qo) _ _ (in_joined qm qn pm) i _ (gives-then ts k p po _ _ _ q qo _ _ _ sp sq (apart_sound pm qf a) i out run f g)

  module _ {A B : Type 0} (k : A → B) (p : Reading A) (po : Opening) (pf : List ℕ) (pn : Bool) (pm : List ℕ) (sp : Sound p po pf pn pm) where
    abbrev ReadsAs : Reading B
    ReadsAs i v j = (x : A) × p i x j × (v ≡ k x)

    pub sound_as : Sound ReadsAs po pf pn pm
    sound_as = sane-as ts k p po _ _ _ sp

    pub run_as : (i : ℕ) (out : Outcome A) → Gives ts p po (In pm) i out → Gives ts ReadsAs po (In pm) i (and_then out (λ x j. Ok (k x, j)))
    run_as i (Ok z) g = record { reads = (z.0, g.reads, refl); longest = g.longest; only = λ w h. h.2 ∙ ap k (g.only h.0 h.1) }
    run_as i (Err (Syntax j)) g = record { opens = g.opens; longest = g.longest; held = λ w h. g.held h.0 h.1 }
    run_as i (Err (Nest j)) g = record { opens = g.opens; longest = g.longest; held = λ w h. g.held h.0 h.1 }
    run_as i (Err OutOfMemory) g = g

  module _ {A : Type 0} (p : Reading A) (po : Opening) (pf pm : List ℕ) (q : Reading A) (qo : Opening) (qf qm : List ℕ)
      (sp : Sane ts p po (In pf) ⊥ (In pm)) (sq : Sane ts q qo (In qf) ⊥ (In qm)) (a : apart pf qf ≡ true) where
    abbrev ReadsEither : Reading A
    ReadsEither i v j = p i v j ⊎ q i v j

    abbrev OpensEither : Opening
    OpensEither i j = po i j ⊎ qo i j

    pub sound_either : Sound ReadsEither OpensEither (pf ++ qf) false (pm ++ qm)
    sound_either = sane-weaker ts {A = A} {B = A} (λ x. x) ReadsEither OpensEither _ _ _ (sane-either ts p q po qo _ _ _ _ sp sq (apart_sound pf qf a)) _ _ _
        (λ n h. elim h [ inl t ↦ in_left pf qf n t | inr t ↦ in_right pf qf n t ]) (λ e. absurd e) (λ n h. elim h [ inl t ↦ in_left pm qm n t | inr t ↦ in_right pm qm n t ])

    -- the other form reads nothing here
    never_right : (i : ℕ) → In pf (terminal_at ts i) → (k : ℕ) → qo i k → k ≡ i
    never_right i w k o = elim (same_or_before i k (sq.ahead i k o)) [ inl e ↦ sym e | inr lt ↦ absurd (apart_sound pf qf a _ w (sq.begins i k o lt)) ]

    never_left : (i : ℕ) → (In pf (terminal_at ts i) → ⊥) → (k : ℕ) → po i k → k ≡ i
    never_left i w k o = elim (same_or_before i k (sp.ahead i k o)) [ inl e ↦ sym e | inr lt ↦ absurd (w (sp.begins i k o lt)) ]

    not_still : {X : Type 0} (r : Reading A) (o : Opening) (f m : List ℕ) → Sane ts r o (In f) ⊥ (In m) → (i j : ℕ) (v : A) → r i v j → j ≡ i → X
    not_still r o f m s i j v h e = elim (s.some i v j h) [ inl z ↦ absurd z | inr lt ↦ absurd (omega (arith, e, lt)) ]

    left : (i : ℕ) → In pf (terminal_at ts i) → (out : Outcome A) → Gives ts p po (In pm) i out → Gives ts ReadsEither OpensEither (In (pm ++ qm)) i out
    left i w (Ok z) g = record {
      reads = inl g.reads;
      longest = λ k o. elim o [ inl h ↦ g.longest k h | inr h ↦ let e : i ≤ z.1 = sp.ahead i z.1 (sp.whole i z.0 z.1 g.reads) in let e2 : k ≡ i = never_right i w k h in omega (arith, e, e2) ];
      only = λ v h. elim h [ inl t ↦ g.only v t | inr t ↦ not_still q qo qf qm sq i z.1 v t (never_right i w z.1 (sq.whole i v z.1 t)) ];
    }
    left i w (Err (Syntax j)) g = held_left i w j g
      where
        held_left : (i : ℕ) → In pf (terminal_at ts i) → (j : ℕ) → Held ts p po (In pm) i j → Held ts ReadsEither OpensEither (In (pm ++ qm)) i j
        held_left i w j g = record {
          opens = inl g.opens;
          longest = λ k o. elim o [ inl h ↦ g.longest k h | inr h ↦ let e : i ≤ j = sp.ahead i j g.opens in let e2 : k ≡ i = never_right i w k h in omega (arith, e, e2) ];
          held = λ v h. elim h [ inl t ↦ in_left pm qm _ (g.held v t) | inr t ↦ not_still q qo qf qm sq i j v t (never_right i w j (sq.whole i v j t)) ];
        }
    left i w (Err (Nest j)) g = left-2 g
      where
        left-2 : Held ts p po (In pm) i j → Held ts ReadsEither OpensEither (In (pm ++ qm)) i j
        left-2 g = record {
          opens = inl g.opens;
          longest = λ k o. elim o [ inl h ↦ g.longest k h | inr h ↦ let e : i ≤ j = sp.ahead i j g.opens in let e2 : k ≡ i = never_right i w k h in omega (arith, e, e2) ];
          held = λ v h. elim h [ inl t ↦ in_left pm qm _ (g.held v t) | inr t ↦ not_still q qo qf qm sq i j v t (never_right i w j (sq.whole i v j t)) ];
        }
    left i w (Err OutOfMemory) g = g

    held_right : (i : ℕ) → (In pf (terminal_at ts i) → ⊥) → (j : ℕ) → Held ts q qo (In qm) i j → Held ts ReadsEither OpensEither (In (pm ++ qm)) i j
    held_right i w j g = record {
      opens = inr g.opens;
      longest = λ k o. elim o [ inr h ↦ g.longest k h | inl h ↦ let e : i ≤ j = sq.ahead i j g.opens in let e2 : k ≡ i = never_left i w k h in omega (arith, e, e2) ];
      held = λ v h. elim h [ inr t ↦ in_right pm qm _ (g.held v t) | inl t ↦ not_still p po pf pm sp i j v t (never_left i w j (sp.whole i v j t)) ];
    }

    right : (i : ℕ) → (In pf (terminal_at ts i) → ⊥) → (out : Outcome A) → Gives ts q qo (In qm) i out → Gives ts ReadsEither OpensEither (In (pm ++ qm)) i out
    right i w (Ok z) g = record {
      reads = inr g.reads;
      longest = λ k o. elim o [ inr h ↦ g.longest k h | inl h ↦ let e : i ≤ z.1 = sq.ahead i z.1 (sq.whole i z.0 z.1 g.reads) in let e2 : k ≡ i = never_left i w k h in omega (arith, e, e2) ];
      only = λ v h. elim h [ inr t ↦ g.only v t | inl t ↦ not_still p po pf pm sp i z.1 v t (never_left i w z.1 (sp.whole i v z.1 t)) ];
    }
    right i w (Err (Syntax j)) g = held_right i w j g
    right i w (Err (Nest j)) g = held_right i w j g
    right i w (Err OutOfMemory) g = g

    pub run_either : (i : ℕ) (f g : Outcome A) → Gives ts p po (In pm) i f → Gives ts q qo (In qm) i g → Gives ts ReadsEither OpensEither (In (pm ++ qm)) i (cond (member (terminal_at ts i) pf) f g)
    run_either i f g gf gg = at_test (member (terminal_at ts i) pf) refl
      where
        at_test : (b : Bool) → member (terminal_at ts i) pf ≡ b → Gives ts ReadsEither OpensEither (In (pm ++ qm)) i (cond b f g)
        at_test true e = left i e f gf
        at_test false e = right i (λ t. cc (t, e)) g gg

  module _ {A : Type 0} (p : Reading A) (po : Opening) (pf pm : List ℕ) (sp : Sane ts p po (In pf) ⊥ (In pm)) where
    p-moves : (i j : ℕ) (v : A) → p i v j → i < j
    p-moves i j v h = elim (sp.some i v j h) [ inl z ↦ absurd z | inr lt ↦ lt ]

    abbrev ReadsMaybe : Reading (Option A)
    ReadsMaybe i v j = ((x : A) × p i x j × (v ≡ Some x)) ⊎ ((v ≡ None) × (j ≡ i))

    maybe-goes_on : (i : ℕ) (v : Option A) (j k : ℕ) → ReadsMaybe i v j → po i k → j < k → In (pm ++ pf) (terminal_at ts j)
    maybe-goes_on i v j k (inl h) o lt = in_left pm pf _ (sp.goes_on i h.0 j k h.1 o lt)
    maybe-goes_on i v j k (inr h) o lt = in_right pm pf _ (subst (λ t. In pf (terminal_at ts t)) (sym h.1) (sp.begins i k o (omega (arith, h.1, lt))))

    pub sound_maybe : Sound ReadsMaybe po pf true (pm ++ pf)
    sound_maybe = record {
      ahead = sp.ahead;
      nil = sp.nil;
      begins = sp.begins;
      whole = (λ i v j h. elim h [ inl t ↦ sp.whole i t.0 j t.1 | inr t ↦ subst (λ u. po i u) (sym t.1) (sp.nil i) ]);
      some = (λ i v j h. inl refl);
      goes_on = maybe-goes_on;
    }

    maybe_found : (i : ℕ) (x : A) (j : ℕ) → Found ts p po i x j → Found ts ReadsMaybe po i (Some x) j
    maybe_found i x j g = record {
      reads = inl (x, g.reads, refl);
      longest = g.longest;
      only = λ w h. elim h [ inl t ↦ t.2 ∙ ap Some (g.only t.0 t.1) | inr t ↦ let lt : i < j = p-moves i j x g.reads in absurd (omega (arith, t.1, lt)) ];
    }

    maybe_held : (i j : ℕ) → In pf (terminal_at ts i) → Held ts p po (In pm) i j → Held ts ReadsMaybe po (In (pm ++ pf)) i j
    maybe_held i j w g = record {
      opens = g.opens;
      longest = g.longest;
      held = λ v h. elim h [ inl t ↦ in_left pm pf _ (g.held t.0 t.1) | inr t ↦ in_right pm pf _ (subst (λ u. In pf (terminal_at ts u)) (sym t.1) w) ];
    }

    stays : (i : ℕ) → (In pf (terminal_at ts i) → ⊥) → (k : ℕ) → po i k → k ≤ i
    stays i never k o = elim (same_or_before i k (sp.ahead i k o)) [ inl e ↦ omega (arith, e) | inr lt ↦ absurd (never (sp.begins i k o lt)) ]

    maybe_none : (i : ℕ) → (In pf (terminal_at ts i) → ⊥) → Found ts ReadsMaybe po i None i
    maybe_none i never = record {
      reads = inr (refl, refl);
      longest = stays i never;
      only = λ w h. elim h [ inl t ↦ let lt : i < i = p-moves i i t.0 t.1 in absurd (omega (arith, lt)) | inr t ↦ t.0 ];
    }

    pub run_maybe : (i : ℕ) (out : Outcome A) → Gives ts p po (In pm) i out
        → Gives ts ReadsMaybe po (In (pm ++ pf)) i (cond (member (terminal_at ts i) pf) (and_then out (λ x j. Ok (Some x, j))) (Ok (None, i)))
    run_maybe i out g = at_test (member (terminal_at ts i) pf) refl
      where
        begun : In pf (terminal_at ts i) → (out : Outcome A) → Gives ts p po (In pm) i out → Gives ts ReadsMaybe po (In (pm ++ pf)) i (and_then out (λ x j. Ok (Some x, j)))
        begun w (Ok z) g = maybe_found i z.0 z.1 g
        begun w (Err (Syntax j)) g = maybe_held i j w g
        begun w (Err (Nest j)) g = maybe_held i j w g
        begun w (Err OutOfMemory) g = g

        at_test : (b : Bool) → member (terminal_at ts i) pf ≡ b → Gives ts ReadsMaybe po (In (pm ++ pf)) i (cond b (and_then out (λ x j. Ok (Some x, j))) (Ok (None, i)))
        at_test true e = begun e out g
        at_test false e = maybe_none i (λ t. cc (t, e))

    module _ (ws : List ℕ) (sub : subset pf ws ≡ true) where
      abbrev ReadsNearest : Reading (Option A)
      ReadsNearest i v j = ((x : A) × p i x j × (v ≡ Some x)) ⊎ ((v ≡ None) × (j ≡ i) × (member (terminal_at ts i) ws ≡ false))

      nearest-goes_on : (i : ℕ) (v : Option A) (j k : ℕ) → ReadsNearest i v j → po i k → j < k → In pm (terminal_at ts j)
      nearest-goes_on i v j k (inl h) o lt = sp.goes_on i h.0 j k h.1 o lt
      nearest-goes_on i v j k (inr h) o lt =
          let w : member (terminal_at ts i) ws ≡ true = subset_sound pf ws sub _ (sp.begins i k o (omega (arith, h.1, lt))) in
          let u : member (terminal_at ts i) ws ≡ false = h.2 in absurd (cc (w, u))

      pub sound_nearest : Sound ReadsNearest po pf true pm
      sound_nearest = record {
        ahead = sp.ahead;
        nil = sp.nil;
        begins = sp.begins;
        whole = (λ i v j h. elim h [ inl t ↦ sp.whole i t.0 j t.1 | inr t ↦ subst (λ u. po i u) (sym t.1) (sp.nil i) ]);
        some = (λ i v j h. inl refl);
        goes_on = nearest-goes_on;
      }

      nearest_held : (i j : ℕ) → In ws (terminal_at ts i) → Held ts p po (In pm) i j → Held ts ReadsNearest po (In pm) i j
      nearest_held i j w g = record {
        opens = g.opens;
        longest = g.longest;
        held = λ v h. elim h [ inl t ↦ g.held t.0 t.1 | inr t ↦ let u : member (terminal_at ts i) ws ≡ false = t.2 in absurd (cc (w, u)) ];
      }

      pub run_nearest : (i : ℕ) (out : Outcome A) → Gives ts p po (In pm) i out
          → Gives ts ReadsNearest po (In pm) i (cond (member (terminal_at ts i) ws) (and_then out (λ x j. Ok (Some x, j))) (Ok (None, i)))
      run_nearest i out g = at_test (member (terminal_at ts i) ws) refl
        where
          begun : In ws (terminal_at ts i) → (out : Outcome A) → Gives ts p po (In pm) i out → Gives ts ReadsNearest po (In pm) i (and_then out (λ x j. Ok (Some x, j)))
          begun w (Ok z) g = record {
            reads = inl (z.0, g.reads, refl);
            longest = g.longest;
            only = λ v h. elim h [ inl t ↦ t.2 ∙ ap Some (g.only t.0 t.1) | inr t ↦ let u : member (terminal_at ts i) ws ≡ false = t.2 in absurd (cc (w, u)) ];
          }
          begun w (Err (Syntax j)) g = nearest_held i j w g
          begun w (Err (Nest j)) g = nearest_held i j w g
          begun w (Err OutOfMemory) g = g

          at_test : (b : Bool) → member (terminal_at ts i) ws ≡ b → Gives ts ReadsNearest po (In pm) i (cond b (and_then out (λ x j. Ok (Some x, j))) (Ok (None, i)))
          at_test true e = begun e out g
          at_test false e = record {
            reads = inr (refl, refl, e);
            longest = stays i (λ t. let u : member (terminal_at ts i) ws ≡ true = subset_sound pf ws sub _ t in cc (u, e));
            only = λ w h. elim h [ inl t ↦ let lt : i < i = p-moves i i t.0 t.1 in absurd (omega (arith, lt)) | inr t ↦ t.0 ];
          }

  module _ {A B C : Type 0} (init : A → C) (step : C → B → A → C) (p : Reading A) (po : Opening) (pf pm : List ℕ) (sp : Sane ts p po (In pf) ⊥ (In pm))
      (q : Reading B) (qo : Opening) (qf : List ℕ) (qn : Bool) (qm : List ℕ) (sq : Sound q qo qf qn qm) (ap1 : apart pm (joined qf qn pf) ≡ true) (ap2 : apart qm pf ≡ true) where
    and_false : (b : Bool) → (b && false) ≡ true → ⊥
    and_false true e = cc e
    and_false false e = cc e

    abbrev Item : Reading (B × A)
    Item = ReadsThen pair_of q p

    abbrev OpensItem : Opening
    OpensItem = OpensThen q qo po

    pub sane_item : Sane ts Item OpensItem (In (joined qf qn pf)) ⊥ (In pm)
    sane_item = sane-weaker ts {A = B × A} {B = ℕ} (λ x. 0) Item OpensItem _ _ _ (sound_then pair_of q qo qf qn qm p po pf false pm sq (fluid p po pf pm sp) ap2) _ _ _ (λ n a. a) (and_false qn) (λ n a. a)

    abbrev Chained : Reading C
    Chained = ReadsItems ts init (stepped step) p po _ _ Item OpensItem _ _ sp sane_item (apart_sound pm _ ap1) (apart_sound pm _ ap1)

    abbrev OpensChained : Opening
    OpensChained = OpensItems ts init (stepped step) p po _ _ Item OpensItem _ _ sp sane_item (apart_sound pm _ ap1) (apart_sound pm _ ap1)

    pub sound_chain : Sound Chained OpensChained pf false (pm ++ joined qf qn pf)
    sound_chain = sane-weaker ts {A = C} {B = C} (λ x. x) Chained OpensChained _ _ _ (sane-items ts init (stepped step) p po _ _ Item OpensItem _ _ sp sane_item (apart_sound pm _ ap1) (apart_sound pm _ ap1)) _ _ _
        (λ n a. a) (λ e. absurd e) words
      where
        words : (n : ℕ) → In pm n ⊎ (In pm n ⊎ In (joined qf qn pf) n) → In (pm ++ joined qf qn pf) n
        words n (inl t) = in_left pm _ n t
        words n (inr (inl t)) = in_left pm _ n t
        words n (inr (inr t)) = in_right pm (joined qf qn pf) n t

    module _ (turns : ℕ) (last : (i : ℕ) → turns ≤ i → terminal_at ts i ≡ 0) (end : not (member 0 (joined qf qn pf)) ≡ true)
        (run_p : ℕ → Outcome A) (gives_p : (i : ℕ) → Gives ts p po (In pm) i (run_p i)) (run_q : ℕ → Outcome B) (gives_q : (i : ℕ) → Gives ts q qo (In qm) i (run_q i)) where
      abbrev begins : ℕ → Bool
      begins i = member (terminal_at ts i) (joined qf qn pf)

      abbrev item : ℕ → Outcome (B × A)
      item i = and_then (run_q i) (λ y m. and_then (run_p m) (λ x j. Ok (pair_of y x, j)))

      gives_item : (i : ℕ) → Gives ts Item OpensItem (In pm) i (item i)
      gives_item i = run_then pair_of q qo qf qn qm p po pf false pm sq (fluid p po pf pm sp) ap2 i (run_q i) run_p (gives_q i) gives_p

      pub run_chain : (i : ℕ) → Gives ts Chained OpensChained (In (pm ++ joined qf qn pf)) i (and_then (run_p i) (λ x m. more_of begins (stepped step) item turns (init x) m))
      run_chain i = gives_weaker ts Chained OpensChained _ _ words i _
          (gives-items ts init (stepped step) p po _ _ Item OpensItem _ _ sp sane_item (apart_sound pm _ ap1) (apart_sound pm _ ap1) i (run_p i) (λ c m. more_of begins (stepped step) item turns c m) (gives_p i)
          (λ c m lt. gives-more ts (stepped step) Item OpensItem _ _ sane_item (apart_sound pm _ ap1) begins item turns (λ i e. e) (λ i e t. cc (t, e)) ended gives_item turns c m (omega arith)))
        where
          words : (n : ℕ) → In pm n ⊎ (In pm n ⊎ In (joined qf qn pf) n) → In (pm ++ joined qf qn pf) n
          words n (inl t) = in_left pm _ n t
          words n (inr (inl t)) = in_left pm _ n t
          words n (inr (inr t)) = in_right pm (joined qf qn pf) n t

          ended : (i : ℕ) → turns ≤ i → In (joined qf qn pf) (terminal_at ts i) → ⊥
          ended i le t = not_true _ end (subst (λ n. In (joined qf qn pf) n) (last i le) t)

  -- ---- each form of a tested grammar

  module _ (cap : ℕ) (named_reads : (n : Name) → Option ℕ → Reading (Value (sort n))) (named_opens : (n : Name) → Option ℕ → Opening)
      (named_sane : (n : Name) (e : Option ℕ) → Sane ts (named_reads n e) (named_opens n e) (In (first_of n)) ⊥ (In (follow_of n))) where
    abbrev R : {s : Sort} → Form s → Option ℕ → Reading (Value s)
    R f e = ReadsBy ts cap named_reads f e

    abbrev O : {s : Sort} → Form s → Option ℕ → Opening
    O f e = OpensBy ts cap named_reads named_opens f e

    -- the parts of the tests
    l1 : (a b c : Bool) → ((a && b) && c) ≡ true → a ≡ true
    l1 a b c h = and_left a b (and_left (a && b) c h)

    l2 : (a b c : Bool) → ((a && b) && c) ≡ true → b ≡ true
    l2 a b c h = and_right a b (and_left (a && b) c h)

    pub sound : {s : Sort} (f : Form s) → good f ≡ true → (e : Option ℕ) → Sound (R f e) (O f e) (first f) (nullable f) (follow f)
    sound (one ws) h e = sound_one ws
    sound (operator ws) h e = sound_operator cap ws e
    sound (counted f) h e = sound_counted (R f) (O f) (first f) (nullable f) (follow f) (sound f h) e
    sound here h e = sound_here
    sound (empty x) h e = sound_empty x
    sound (as_tree k f) h e = sound_as k (R f e) (O f e) (first f) (nullable f) (follow f) (sound f h e)
    sound (then_ k f g) h e =
        sound_then k (R f e) (O f e) (first f) (nullable f) (follow f) (R g e) (O g e) (first g) (nullable g) (follow g)
        (sound f (l1 (good f) (good g) _ h) e) (sound g (l2 (good f) (good g) _ h) e) (and_right (good f && good g) _ h)
    sound (either f g) h e =
        let t : ((not (nullable f) && not (nullable g)) && apart (first f) (first g)) ≡ true = and_right (good f && good g) _ h in
        sound_either (R f e) (O f e) (first f) (follow f) (R g e) (O g e) (first g) (follow g)
        (solid (R f e) (O f e) (first f) (follow f) (nullable f) (l1 _ _ _ t) (sound f (l1 (good f) (good g) _ h) e))
        (solid (R g e) (O g e) (first g) (follow g) (nullable g) (l2 _ _ _ t) (sound g (l2 (good f) (good g) _ h) e))
        (and_right _ (apart (first f) (first g)) t)
    sound (maybe f) h e =
        sound_maybe (R f e) (O f e) (first f) (follow f) (solid (R f e) (O f e) (first f) (follow f) (nullable f) (and_right (good f) _ h) (sound f (and_left (good f) _ h) e))
    sound (nearest ws f) h e =
        sound_nearest (R f e) (O f e) (first f) (follow f) (solid (R f e) (O f e) (first f) (follow f) (nullable f) (l2 (good f) _ _ h) (sound f (l1 (good f) _ _ h) e)) ws (and_left (subset (first f) ws) (subset ws (first f)) (and_right _ (subset (first f) ws && subset ws (first f)) h))
    sound (chain a b f g) h e =
        let t : ((not (nullable f) && not (member 0 (first_item f g))) && (apart (follow f) (first_item f g) && apart (follow g) (first f))) ≡ true = and_right (good f && good g) _ h in
        let u : (apart (follow f) (first_item f g) && apart (follow g) (first f)) ≡ true = and_right _ (apart (follow f) (first_item f g) && apart (follow g) (first f)) t in
        sound_chain a b (R f e) (O f e) (first f) (follow f)
        (solid (R f e) (O f e) (first f) (follow f) (nullable f) (l1 _ _ _ t) (sound f (l1 (good f) (good g) _ h) e))
        (R g e) (O g e) (first g) (nullable g) (follow g) (sound g (l2 (good f) (good g) _ h) e) (and_left (apart (follow f) (first_item f g)) _ u) (and_right _ (apart (follow g) (first f)) u)
    sound (named n) h e = fluid (R (named n) e) (O (named n) e) _ _ (named_sane n e)

    abbrev pub solid_form : {s : Sort} (f : Form s) → good f ≡ true → not (nullable f) ≡ true → (e : Option ℕ) → Sane ts (R f e) (O f e) (In (first f)) ⊥ (In (follow f))
    solid_form f h n e = solid (R f e) (O f e) (first f) (follow f) (nullable f) n (sound f h e)

    module _ (turns : ℕ) (last : (i : ℕ) → turns ≤ i → terminal_at ts i ≡ 0)
        (run_named : (n : Name) → Option ℕ → ℕ → Outcome (Value (sort n))) (named_gives : (n : Name) (e : Option ℕ) (i : ℕ) → Gives ts (named_reads n e) (named_opens n e) (In (follow_of n)) i (run_named n e i)) where
      abbrev X : {s : Sort} → Form s → Option ℕ → ℕ → Outcome (Value s)
      X f e i = run ts cap turns run_named f e i

      abbrev Good : {s : Sort} → Form s → Type 0
      Good f = (e : Option ℕ) (i : ℕ) → Gives ts (R f e) (O f e) (In (follow f)) i (X f e i)

      gives_one : (ws : List ℕ) (i : ℕ) → Gives ts (ReadsOne ts ws) (OpensOne ts ws) (In []) i (X (one ws) None i)
      gives_one ws i = at_test (member (terminal_at ts i) ws) refl
        where
          at_test : (b : Bool) → member (terminal_at ts i) ws ≡ b → Gives ts (ReadsOne ts ws) (OpensOne ts ws) (In []) i (cond b (Ok (ts i, i + 1)) (Err (Syntax i)))
          at_test true e = record {
            reads = (e, refl, refl);
            longest = λ k o. elim o [ inl t ↦ omega (arith, t) | inr t ↦ omega (arith, t.0) ];
            only = λ w h. h.1;
          }
          at_test false e = record {
            opens = inl refl;
            longest = λ k o. elim o [ inl t ↦ omega (arith, t) | inr t ↦ let u : member (terminal_at ts i) ws ≡ true = t.1 in absurd (cc (u, e)) ];
            held = λ w h. let u : member (terminal_at ts i) ws ≡ true = h.0 in absurd (cc (u, e));
          }

      gives_operator : (ws : List ℕ) (e : Option ℕ) (i : ℕ) → Gives ts (ReadsOperator ts cap ws e) (OpensOperator ts cap ws e) (In []) i (X (operator ws) e i)
      gives_operator ws e i = at_test (member (terminal_at ts i) ws) (within cap e ((ts i).operators)) refl refl
        where
          at_test : (b c : Bool) → member (terminal_at ts i) ws ≡ b → within cap e ((ts i).operators) ≡ c
              → Gives ts (ReadsOperator ts cap ws e) (OpensOperator ts cap ws e) (In []) i (cond b (cond c (Ok (ts i, i + 1)) (Err (Nest i))) (Err (Syntax i)))
          at_test true true e1 e2 = record {
            reads = (e1, e2, refl, refl);
            longest = λ k o. elim o [ inl t ↦ omega (arith, t) | inr t ↦ omega (arith, t.0) ];
            only = λ w h. h.2;
          }
          at_test true false e1 e2 = record {
            opens = inl refl;
            longest = λ k o. elim o [ inl t ↦ omega (arith, t) | inr t ↦ let u : within cap e ((ts i).operators) ≡ true = t.2 in absurd (cc (u, e2)) ];
            held = λ w h. let u : within cap e ((ts i).operators) ≡ true = h.1 in absurd (cc (u, e2));
          }
          at_test false c e1 e2 = record {
            opens = inl refl;
            longest = λ k o. elim o [ inl t ↦ omega (arith, t) | inr t ↦ let u : member (terminal_at ts i) ws ≡ true = t.1 in absurd (cc (u, e1)) ];
            held = λ w h. let u : member (terminal_at ts i) ws ≡ true = h.0 in absurd (cc (u, e1));
          }

      pub gives : {s : Sort} (f : Form s) → good f ≡ true → Good f
      gives (one ws) h e i = gives_one ws i
      gives (operator ws) h e i = gives_operator ws e i
      gives (counted f) h e i = run_counted (R f) (O f) (follow f) e i (X f (begun ts e i) i) (gives f h (begun ts e i) i)
      gives here h e i = record { reads = (refl, refl); longest = λ k e. omega (arith, e); only = λ w h. h.0 }
      gives (empty x) h e i = record { reads = (refl, refl); longest = λ k e. omega (arith, e); only = λ w h. h.0 }
      gives (as_tree k f) h e i = run_as k (R f e) (O f e) (first f) (nullable f) (follow f) (sound f h e) i (X f e i) (gives f h e i)
      gives (then_ k f g) h e i =
          run_then k (R f e) (O f e) (first f) (nullable f) (follow f) (R g e) (O g e) (first g) (nullable g) (follow g)
          (sound f (l1 (good f) (good g) _ h) e) (sound g (l2 (good f) (good g) _ h) e) (and_right (good f && good g) _ h) i (X f e i) (X g e)
          (gives f (l1 (good f) (good g) _ h) e i) (gives g (l2 (good f) (good g) _ h) e)
      gives (either f g) h e i =
          let t : ((not (nullable f) && not (nullable g)) && apart (first f) (first g)) ≡ true = and_right (good f && good g) _ h in
          run_either (R f e) (O f e) (first f) (follow f) (R g e) (O g e) (first g) (follow g)
          (solid_form f (l1 (good f) (good g) _ h) (l1 _ _ _ t) e) (solid_form g (l2 (good f) (good g) _ h) (l2 _ _ _ t) e) (and_right _ (apart (first f) (first g)) t)
          i (X f e i) (X g e i) (gives f (l1 (good f) (good g) _ h) e i) (gives g (l2 (good f) (good g) _ h) e i)
      gives (maybe f) h e i = run_maybe (R f e) (O f e) (first f) (follow f) (solid_form f (and_left (good f) _ h) (and_right (good f) _ h) e) i (X f e i) (gives f (and_left (good f) _ h) e i)
      gives (nearest ws f) h e i =
          run_nearest (R f e) (O f e) (first f) (follow f) (solid_form f (l1 (good f) _ _ h) (l2 (good f) _ _ h) e) ws (and_left (subset (first f) ws) (subset ws (first f)) (and_right _ (subset (first f) ws && subset ws (first f)) h)) i (X f e i) (gives f (l1 (good f) _ _ h) e i)
      gives (chain a b f g) h e i =
          let t : ((not (nullable f) && not (member 0 (first_item f g))) && (apart (follow f) (first_item f g) && apart (follow g) (first f))) ≡ true = and_right (good f && good g) _ h in
          let u : (apart (follow f) (first_item f g) && apart (follow g) (first f)) ≡ true = and_right _ (apart (follow f) (first_item f g) && apart (follow g) (first f)) t in
          run_chain a b (R f e) (O f e) (first f) (follow f) (solid_form f (l1 (good f) (good g) _ h) (l1 _ _ _ t) e)
          (R g e) (O g e) (first g) (nullable g) (follow g) (sound g (l2 (good f) (good g) _ h) e) (and_left (apart (follow f) (first_item f g)) _ u) (and_right _ (apart (follow g) (first f)) u)
          turns last (l2 (not (nullable f)) (not (member 0 (first_item f g))) _ t) (X f e) (gives f (l1 (good f) (good g) _ h) e) (X g e) (gives g (l2 (good f) (good g) _ h) e) i
      gives (named n) h e i = named_gives n e i
