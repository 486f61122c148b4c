-- Each form of a tested grammar: a first terminal that fits is read on, and a token that is refused whatever the limits leaves no
-- tree before it.
use Rattle.std.proofs.Common.{◌≡◌, ℕ, ◌+◌, ◌≤◌, ◌<◌, ◌⊎◌, inl, inr, Bool, true, false, ◌&&◌, not, cond, List, Option, Some, None, Ok, Err, refl, sym, subst, arith}
use Rattle.qt_terminals.specs.Terminals.{PlacedTerminal}
use Rattle.qt_grammar.specs.declared.refusal.Refusal.TheVariants.{Syntax, Nest}
use Rattle.qt_grammar.specs.Sorts.{Sort, Value, Name, sort}
use Rattle.qt_grammar.specs.Form.{Form, one, operator, counted, here, empty, as_tree, then_, either, maybe, nearest, chain, named, member, terminal_at, begun, within, Reading, Opening, ReadsBy, OpensBy, ReadsThen, OpensThen, pair_of, stepped}
use Rattle.qt_grammar.specs.Outcome.{Outcome, and_then}
use Rattle.qt_grammar.specs.Lookahead.{first, nullable, joined, first_of}
use Rattle.qt_grammar.specs.Reading.{run, rest_of}
use Rattle.qt_grammar.proofs.Sane.{Sane}
use Rattle.qt_grammar.proofs.Munch.{Gives}
use Rattle.qt_grammar.proofs.LookaheadTests.{In, apart, subset, apart_sound, subset_sound, and_left, and_right, joined_in, follow, follow_of, first_item, good}
use Rattle.qt_grammar.proofs.Forms.{Sound, fluid, sound, solid_form, gives, run_then, sane_item}
use Rattle.qt_grammar.proofs.Depth.{refuses_form}
use Rattle.qt_grammar.proofs.Stuck.{Ahead, Moved, ahead_then, moved_then, ahead_more, gives_ahead, and_syntax, NoTree, none_then, none_items}

module _ (ts : ℕ → PlacedTerminal) (cap : ℕ) (named_reads : (n : Name) → Option ℕ → Reading (Value (sort n))) (named_opens : (n : Name) → Option ℕ → Opening)
    (named_sane : (n : Name) (e : Option ℕ) → Sane ts (named_reads n e) (named_opens n e) (In (first_of n)) ⊥ (In (follow_of n)))
    (turns : ℕ) (last : (i : ℕ) → turns ≤ i → terminal_at ts i ≡ 0)
    (run_named : (n : Name) → Option ℕ → ℕ → Outcome (Value (sort n))) (named_gives : (n : Name) (e : Option ℕ) (i : ℕ) → Gives ts (named_reads n e) (named_opens n e) (In (follow_of n)) i (run_named n e i))
    (named_refuses : (n : Name) (e : Option ℕ) (i : ℕ) → member (terminal_at ts i) (first_of n) ≡ false → run_named n e i ≡ Err (Syntax i)) where
  abbrev R : {s : Sort} → Form s → Option ℕ → Reading (Value s)
  R f e = ReadsBy ts cap named_reads f e

  abbrev O : {s : Sort} → Form s → Option ℕ → Opening
  O f e = OpensBy ts cap named_reads named_opens f e

  abbrev X : {s : Sort} → Form s → Option ℕ → ℕ → Outcome (Value s)
  X f e i = run ts cap turns run_named f e i

  sane : {s : Sort} (f : Form s) → good f ≡ true → (e : Option ℕ) → Sound ts (R f e) (O f e) (first f) (nullable f) (follow f)
  sane f h e = sound ts cap named_reads named_opens named_sane f h e

  solid : {s : Sort} (f : Form s) → good f ≡ true → not (nullable f) ≡ true → (e : Option ℕ) → Sane ts (R f e) (O f e) (In (first f)) ⊥ (In (follow f))
  solid f h n e = solid_form ts cap named_reads named_opens named_sane f h n e

  given : {s : Sort} (f : Form s) → good f ≡ true → (e : Option ℕ) (i : ℕ) → Gives ts (R f e) (O f e) (In (follow f)) i (X f e i)
  given f h e i = gives ts cap named_reads named_opens named_sane turns last run_named named_gives f h e i

  ahead_form : {s : Sort} (f : Form s) → good f ≡ true → (e : Option ℕ) (i : ℕ) → Ahead i (X f e i)
  ahead_form f h e i = gives_ahead ts (R f e) (O f e) (In (first f)) (nullable f ≡ true) (In (follow f)) (sane f h e) i (X f e i) (given f h e i)

  -- the parts of the tests
  left_good : (a b c : Bool) → ((a && b) && c) ≡ true → a ≡ true
  left_good a b c h = and_left a b (and_left (a && b) c h)

  right_good : (a b c : Bool) → ((a && b) && c) ≡ true → b ≡ true
  right_good a b c h = and_right a b (and_left (a && b) c h)

  -- ---- a first terminal that fits

  abbrev pair : {A : Type 0} {s t : Sort} → (Value s → Value t → A) → Form s → Form t → Option ℕ → ℕ → Outcome A
  pair k f g e i = and_then (X f e i) (λ x m. and_then (X g e m) (λ y j. Ok (k x y, j)))

  ahead_last : {A B : Type 0} (out : Outcome A) (k : A → B) (m : ℕ) → Ahead m out → Ahead m (and_then out (λ y j. Ok (k y, j)))
  ahead_last out k m h = ahead_then m out (λ y j. Ok (k y, j)) h (λ y j. omega arith)

  ahead_pair : {A : Type 0} {s t : Sort} (k : Value s → Value t → A) (f : Form s) (g : Form t) → good f ≡ true → good g ≡ true → (e : Option ℕ) (i : ℕ) → Ahead i (pair k f g e i)
  ahead_pair k f g gf gg e i = ahead_then i (X f e i) (λ x m. and_then (X g e m) (λ y j. Ok (k x y, j))) (ahead_form f gf e i) (λ x m. ahead_last (X g e m) (k x) m (ahead_form g gg e m))

  abbrev Moves : {s : Sort} → Form s → Option ℕ → ℕ → Type 0
  Moves f e i = In (first f) (terminal_at ts i) → Moved i (X f e i)

  moves_pair : {A : Type 0} {s t : Sort} (k : Value s → Value t → A) (f : Form s) (g : Form t) → good f ≡ true → good g ≡ true → (e : Option ℕ) (i : ℕ) → Moves f e i → Moves g e i
      → In (joined (first f) (nullable f) (first g)) (terminal_at ts i) → Moved i (pair k f g e i)
  moves_pair {A} {s} {t} k f g gf gg e i mf mg w = at_test (member (terminal_at ts i) (first f)) refl
    where
      second : Value s → ℕ → Outcome A
      second x m = and_then (X g e m) (λ y j. Ok (k x y, j))

      skipped : nullable f ≡ true → In (first g) (terminal_at ts i) → member (terminal_at ts i) (first f) ≡ false → Moved i (and_then (X f e i) second)
      skipped n v h = elim (refuses_form ts cap turns run_named named_refuses f e i gf h) [
        | inl z ↦ subst (λ o. Moved i (and_then {A = Value s} {B = A} o second)) (sym z.1.1) (moved_then i (X g e i) (λ y j. Ok (k z.1.0 y, j)) (mg v) (λ y j. omega arith))
        | inr z ↦ absurd (cc (n, z.0))
      ]

      at_test : (b : Bool) → member (terminal_at ts i) (first f) ≡ b → Moved i (and_then (X f e i) second)
      at_test true h = moved_then i (X f e i) second (mf h) (λ x m. ahead_last (X g e m) (k x) m (ahead_form g gg e m))
      at_test false h = elim (joined_in (first f) (nullable f) (first g) (terminal_at ts i) w) [ inl u ↦ absurd (cc (u, h)) | inr u ↦ skipped u.0 u.1 h ]

  moved_some : {A B : Type 0} (i : ℕ) (out : Outcome A) (k : A → B) → Moved i out → Moved i (and_then out (λ x j. Ok (k x, j)))
  moved_some i out k h = moved_then i out (λ x j. Ok (k x, j)) h (λ x j. omega arith)

  moved_cond : {A : Type 0} (i : ℕ) (b : Bool) (x y : Outcome A) → b ≡ true → Moved i x → Moved i (cond b x y)
  moved_cond i true x y e h = h
  moved_cond i false x y e h = absurd (cc e)

  module _ (named_moves : (n : Name) (e : Option ℕ) (i : ℕ) → In (first_of n) (terminal_at ts i) → Moved i (run_named n e i)) where
    moves_operator : (ws : List ℕ) (e : Option ℕ) (i : ℕ) → Moves (operator ws) e i
    moves_operator ws e i w = moved_cond i (member (terminal_at ts i) ws) _ _ w (at_test (within cap e ((ts i).operators)))
      where
        at_test : (b : Bool) → Moved {A = PlacedTerminal} i (cond b (Ok (ts i, i + 1)) (Err (Nest i)))
        at_test true = omega arith
        at_test false = tt

    pub moves_form : {s : Sort} (f : Form s) → good f ≡ true → (e : Option ℕ) (i : ℕ) → Moves f e i
    moves_form (one ws) h e i w = moved_cond {A = PlacedTerminal} i (member (terminal_at ts i) ws) (Ok (ts i, i + 1)) (Err (Syntax i)) w (omega arith)
    moves_form (operator ws) h e i w = moves_operator ws e i w
    moves_form (counted f) h e i w = moves_form f h (begun ts e i) i w
    moves_form here h e i w = absurd (cc w)
    moves_form (empty x) h e i w = absurd (cc w)
    moves_form (as_tree k f) h e i w = moved_some i (X f e i) k (moves_form f h e i w)
    moves_form (then_ k f g) h e i w =
        let gf : good f ≡ true = left_good (good f) (good g) _ h in
        let gg : good g ≡ true = right_good (good f) (good g) _ h in
        moves_pair k f g gf gg e i (moves_form f gf e i) (moves_form g gg e i) w
    moves_form (either f g) h e i w =
        let gf : good f ≡ true = left_good (good f) (good g) _ h in
        let gg : good g ≡ true = right_good (good f) (good g) _ h in
        at_test (member (terminal_at ts i) (first f)) refl (moves_form f gf e i) (moves_form g gg e i)
      where
        at_test : (b : Bool) → member (terminal_at ts i) (first f) ≡ b → Moves f e i → Moves g e i → Moved i (cond b (X f e i) (X g e i))
        at_test true z mf mg = mf z
        at_test false z mf mg = elim (joined_in (first f) true (first g) (terminal_at ts i) w) [ inl u ↦ absurd (cc (u, z)) | inr u ↦ mg u.1 ]
    moves_form (maybe f) h e i w = moved_cond i (member (terminal_at ts i) (first f)) _ _ w (moved_some i (X f e i) Some (moves_form f (and_left (good f) _ h) e i w))
    moves_form (nearest ws f) h e i w =
        let sub : subset (first f) ws ≡ true = and_left (subset (first f) ws) (subset ws (first f)) (and_right (good f && not (nullable f)) (subset (first f) ws && subset ws (first f)) h) in
        moved_cond i (member (terminal_at ts i) ws) _ _ (subset_sound (first f) ws sub (terminal_at ts i) w) (moved_some i (X f e i) Some (moves_form f (left_good (good f) (not (nullable f)) _ h) e i w))
    moves_form (chain a b f g) h e i w =
        let gf : good f ≡ true = left_good (good f) (good g) _ h in
        let gg : good g ≡ true = right_good (good f) (good g) _ h in
        moved_then i (X f e i) (λ x m. rest_of (λ i. member (terminal_at ts i) (first_item f g)) b (X f e) (X g e) turns (a x) m) (moves_form f gf e i w)
        (λ x m. ahead_more (λ i. member (terminal_at ts i) (first_item f g)) (stepped b) (λ i. pair pair_of g f e i) (λ i. ahead_pair pair_of g f gg gf e i) turns (a x) m)
    moves_form (named n) h e i w = named_moves n e i w

    -- ---- no tree

    module _ (named_none : (n : Name) (e : Option ℕ) (i : ℕ) → NoTree (named_reads n e) i (run_named n e i)) where
      abbrev None-of : {s : Sort} → Form s → Option ℕ → Type 0
      None-of f e = (i : ℕ) → NoTree (R f e) i (X f e i)

      none_one : (ws : List ℕ) (e : Option ℕ) → None-of (one ws) e
      none_one ws e i n w h r = at_test (member (terminal_at ts i) ws) r.0 h
        where
          at_test : (b : Bool) → b ≡ true → cond {A = Outcome PlacedTerminal} b (Ok (ts i, i + 1)) (Err (Syntax i)) ≡ Err (Syntax n) → ⊥
          at_test true z h = cc h
          at_test false z h = cc z

      none_operator : (ws : List ℕ) (e : Option ℕ) → None-of (operator ws) e
      none_operator ws e i n w h r = at_test (member (terminal_at ts i) ws) (within cap e ((ts i).operators)) r.0 h
        where
          at_test : (b c : Bool) → b ≡ true → cond {A = Outcome PlacedTerminal} b (cond c (Ok (ts i, i + 1)) (Err (Nest i))) (Err (Syntax i)) ≡ Err (Syntax n) → ⊥
          at_test true true z h = cc h
          at_test true false z h = cc h
          at_test false c z h = cc z

      none_as : {A B : Type 0} (k : A → B) (r : Reading A) (i : ℕ) (out : Outcome A) → NoTree r i out → (n : ℕ) (w : A) → and_then out (λ x j. Ok (k x, j)) ≡ Err (Syntax n) → r i w n → ⊥
      none_as k r i out none n w h t = elim (and_syntax out (λ x j. Ok (k x, j)) n h) [ inl u ↦ none n w u t | inr u ↦ cc u.2 ]

      none_pair : {A : Type 0} {s t : Sort} (k : Value s → Value t → A) (f : Form s) (g : Form t) → good f ≡ true → good g ≡ true → apart (follow f) (first g) ≡ true → (e : Option ℕ) → None-of f e → None-of g e
          → (i : ℕ) → NoTree (ReadsThen k (R f e) (R g e)) i (pair k f g e i)
      none_pair k f g gf gg a e nf ng i =
          none_then ts k (R f e) (O f e) (In (first f)) (nullable f ≡ true) (In (follow f)) (R g e) (O g e) (In (first g)) (nullable g ≡ true) (In (follow g)) (sane f gf e) (sane g gg e) (apart_sound (follow f) (first g) a)
          i (X f e i) (X g e) (given f gf e i) (nf i) (given g gg e) ng

      none_either : {s : Sort} (f g : Form s) → good f ≡ true → good g ≡ true → not (nullable f) ≡ true → not (nullable g) ≡ true → apart (first f) (first g) ≡ true → (e : Option ℕ) → None-of f e → None-of g e → None-of (either f g) e
      none_either {s} f g gf gg sf sg a e nf ng i n w h r = at_test (member (terminal_at ts i) (first f)) refl h r
        where
          begins : {s : Sort} (f : Form s) → good f ≡ true → not (nullable f) ≡ true → (w : Value s) → R f e i w n → In (first f) (terminal_at ts i)
          begins f gf sf w r =
              let p : Sane ts (R f e) (O f e) (In (first f)) ⊥ (In (follow f)) = solid f gf sf e in
              elim (p.some i w n r) [ inl z ↦ absurd z | inr lt ↦ p.begins i n (p.whole i w n r) lt ]

          at_test : (b : Bool) → member (terminal_at ts i) (first f) ≡ b → cond b (X f e i) (X g e i) ≡ Err (Syntax n) → R f e i w n ⊎ R g e i w n → ⊥
          at_test true z h (inl r) = nf i n w h r
          at_test true z h (inr r) = apart_sound (first f) (first g) a (terminal_at ts i) z (begins g gg sg w r)
          at_test false z h (inl r) = let u : member (terminal_at ts i) (first f) ≡ true = begins f gf sf w r in cc (u, z)
          at_test false z h (inr r) = ng i n w h r

      none_maybe : {s : Sort} (f : Form s) → good f ≡ true → (e : Option ℕ) → None-of f e → None-of (maybe f) e
      none_maybe {s} f gf e nf i n w h r = at_test (member (terminal_at ts i) (first f)) refl h r
        where
          still : In (first f) (terminal_at ts i) → n ≡ i → X f e i ≡ Err (Syntax n) → ⊥
          still z q u = let lt : i < n = subst (λ o. Moved i o) u (moves_form f gf e i z) in omega (arith, q, lt)

          at_test : (b : Bool) → member (terminal_at ts i) (first f) ≡ b → cond b (and_then (X f e i) (λ x j. Ok (Some x, j))) (Ok (None, i)) ≡ Err (Syntax n) → ((x : Value s) × R f e i x n × (w ≡ Some x)) ⊎ ((w ≡ None) × (n ≡ i)) → ⊥
          at_test true z h (inl r) = none_as Some (R f e) i (X f e i) (nf i) n r.0 h r.1
          at_test true z h (inr r) = elim (and_syntax (X f e i) (λ x j. Ok (Some x, j)) n h) [ inl u ↦ still z r.1 u | inr u ↦ cc u.2 ]
          at_test false z h r = cc h

      none_nearest : {s : Sort} (ws : List ℕ) (f : Form s) (e : Option ℕ) → None-of f e → None-of (nearest ws f) e
      none_nearest {s} ws f e nf i n w h r = at_test (member (terminal_at ts i) ws) refl h r
        where
          at_test : (b : Bool) → member (terminal_at ts i) ws ≡ b → cond b (and_then (X f e i) (λ x j. Ok (Some x, j))) (Ok (None, i)) ≡ Err (Syntax n)
              → ((x : Value s) × R f e i x n × (w ≡ Some x)) ⊎ ((w ≡ None) × (n ≡ i) × (member (terminal_at ts i) ws ≡ false)) → ⊥
          at_test true z h (inl r) = none_as Some (R f e) i (X f e i) (nf i) n r.0 h r.1
          at_test true z h (inr r) = let u : member (terminal_at ts i) ws ≡ false = r.2 in cc (z, u)
          at_test false z h r = cc h

      none_chain : (s t u : Sort) (a : Value s → Value u) (b : Value u → Value t → Value s → Value u) (f : Form s) (g : Form t) → good f ≡ true → good g ≡ true → not (nullable f) ≡ true → apart (follow f) (first_item f g) ≡ true → apart (follow g) (first f) ≡ true
          → (e : Option ℕ) → None-of f e → None-of g e → None-of (chain a b f g) e
      none_chain s t u a b f g gf gg sf ap1 ap2 e nf ng i n w h (x, m, l, r, p) =
          none_items ts a (stepped b) (R f e) (O f e) (In (first f)) (In (follow f)) (ReadsThen pair_of (R g e) (R f e)) (OpensThen (R g e) (O g e) (O f e)) (In (first_item f g)) (In (follow f)) (solid f gf sf e)
          (sane_item ts a b (R f e) (O f e) (first f) (follow f) (solid f gf sf e) (R g e) (O g e) (first g) (nullable g) (follow g) (sane g gg e) ap1 ap2)
          (apart_sound (follow f) (first_item f g) ap1) (apart_sound (follow f) (first_item f g) ap1)
          (λ i. member (terminal_at ts i) (first_item f g)) (λ i. pair pair_of g f e i)
          (λ i. run_then ts pair_of (R g e) (O g e) (first g) (nullable g) (follow g) (R f e) (O f e) (first f) false (follow f) (sane g gg e) (fluid ts (R f e) (O f e) (first f) (follow f) (solid f gf sf e)) ap2 i (X g e i) (X f e) (given g gg e i) (given f gf e))
          (none_pair pair_of g f gg gf ap2 e ng nf)
          (λ i z. moves_pair pair_of g f gg gf e i (moves_form g gg e i) (moves_form f gf e i) z)
          turns i (X f e i) (given f gf e i) (nf i) n w h x m l r p

      pub none_form : {s : Sort} (f : Form s) → good f ≡ true → (e : Option ℕ) → None-of f e
      none_form (one ws) h e i n w q r = none_one ws e i n w q r
      none_form (operator ws) h e i n w q r = none_operator ws e i n w q r
      none_form (counted f) h e i n w q r = none_form f h (begun ts e i) i n w q r
      none_form here h e i n w q r = cc q
      none_form (empty x) h e i n w q r = cc q
      none_form (as_tree k f) h e i n w q r = none_as k (R f e) i (X f e i) (none_form f h e i) n r.0 q r.1
      none_form (then_ k f g) h e i n w q r =
          let gf : good f ≡ true = left_good (good f) (good g) _ h in
          let gg : good g ≡ true = right_good (good f) (good g) _ h in
          none_pair k f g gf gg (and_right (good f && good g) _ h) e (none_form f gf e) (none_form g gg e) i n w q r
      none_form (either f g) h e i n w q r =
          let gf : good f ≡ true = left_good (good f) (good g) _ h in
          let gg : good g ≡ true = right_good (good f) (good g) _ h in
          let t : ((not (nullable f) && not (nullable g)) && apart (first f) (first g)) ≡ true = and_right (good f && good g) _ h in
          none_either f g gf gg (left_good _ _ _ t) (right_good _ _ _ t) (and_right _ (apart (first f) (first g)) t) e (none_form f gf e) (none_form g gg e) i n w q r
      none_form (maybe f) h e i n w q r =
          let gf : good f ≡ true = and_left (good f) _ h in
          none_maybe f gf e (none_form f gf e) i n w q r
      none_form (nearest ws f) h e i n w q r = none_nearest ws f e (none_form f (left_good (good f) (not (nullable f)) _ h) e) i n w q r
      none_form (chain a b f g) h e i n w q r =
          let gf : good f ≡ true = left_good (good f) (good g) _ h in
          let gg : good g ≡ true = right_good (good f) (good g) _ h in
          let t : ((not (nullable f) && not (member 0 (first_item f g))) && (apart (follow f) (first_item f g) && apart (follow g) (first f))) ≡ true = and_right (good f && good g) _ h in
          let u : (apart (follow f) (first_item f g) && apart (follow g) (first f)) ≡ true = and_right _ (apart (follow f) (first_item f g) && apart (follow g) (first f)) t in
          none_chain _ _ _ a b f g gf gg (left_good _ _ _ t) (and_left (apart (follow f) (first_item f g)) _ u) (and_right _ (apart (follow g) (first f)) u) e (none_form f gf e) (none_form g gg e) i n w q r
      none_form (named n) h e i m w q r = named_none n e i m w q r
