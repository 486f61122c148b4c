-- Two streams whose tokens agree before a place: up to it the same lists open a form.
use Rattle.std.proofs.Common.{◌≡◌, ℕ, zero, suc, ◌≤◌, ◌<◌, ◌⊎◌, inl, inr, Bool, true, false, ◌&&◌, not, IsTrue, Option, refl, sym, ◌∙◌, ap, subst, arith}
use Rattle.qt_terminals.specs.Terminals.{PlacedTerminal}
use Rattle.qt_grammar.specs.Sorts.{Sort, Value, Name, sort}
use Rattle.qt_grammar.specs.Form.{Form, one, operator, counted, here, empty, as_tree, then_, either, maybe, nearest, chain, named, member, terminal_at, begun, within, Reading, Opening, ReadsBy, OpensBy, ReadsThen, OpensThen, ReadsMore, ReadsChain, OpensChain, pair_of, stepped}
use Rattle.qt_grammar.specs.Lookahead.{first, nullable, first_of}
use Rattle.qt_grammar.specs.Language.{rule}
use Rattle.qt_grammar.specs.Spelling.{ReadsTo, OpensTo}
use Rattle.qt_grammar.proofs.Sane.{Sane, reads-ahead}
use Rattle.qt_grammar.proofs.LookaheadTests.{In, apart, and_left, and_right, follow, follow_of, first_item, good}
use Rattle.qt_grammar.proofs.Forms.{Sound, sound, solid_form}
use Rattle.qt_grammar.proofs.Tables.{tested}
use Rattle.qt_grammar.proofs.Named.{Reads, Opens, sane_to}
use Rattle.qt_grammar.proofs.Agree.{Whole, Onwards, left_good, right_good}

module _ (n : ℕ) where
  below_or_not : (m : ℕ) → (m < n) ⊎ (n ≤ m)
  below_or_not m = grind arith

  -- the same readings before the place, the same openings up to it
  abbrev pub SameReads : {A : Type 0} → Reading A → Reading A → Type 0
  SameReads {A} r r' = (i : ℕ) (v : A) (j : ℕ) → j < n → r i v j → r' i v j

  abbrev pub SameOpens : Opening → Opening → Type 0
  SameOpens o o' = (i k : ℕ) → k ≤ n → o i k → o' i k

  abbrev pub ReadsOn : {A : Type 0} → Reading A → Type 0
  ReadsOn {A} r = (i : ℕ) (v : A) (j : ℕ) → r i v j → i ≤ j

  -- ---- parts in turn

  reads_then : {A B C : Type 0} (k : A → B → C) (p p' : Reading A) (q q' : Reading B) → SameReads p p' → SameReads q q' → ReadsOn q → SameReads (ReadsThen k p q) (ReadsThen k p' q')
  reads_then k p p' q q' sp sq on i v j lt (x, y, m, h, t, e) =
      let le : m ≤ j = on m y j t in (x, y, m, sp i x m (omega (arith, le, lt)) h, sq m y j lt t, e)

  more_on : {B C : Type 0} (step : C → B → C) (q : Reading B) → ReadsOn q → (l : ℕ) (c : C) → ReadsOn (ReadsMore step q l c)
  more_on step q on zero c i v j (e, f) = omega (arith, f)
  more_on step q on (suc l) c i v j (y, m, h, t) = let a : i ≤ m = on i y m h in let b : m ≤ j = more_on step q on l (step c y) m v j t in omega (arith, a, b)

  reads_more : {B C : Type 0} (step : C → B → C) (q q' : Reading B) → SameReads q q' → ReadsOn q → (l : ℕ) (c : C) → SameReads (ReadsMore step q l c) (ReadsMore step q' l c)
  reads_more step q q' s on zero c i v j lt h = h
  reads_more step q q' s on (suc l) c i v j lt (y, m, h, t) =
      let le : m ≤ j = more_on step q on l (step c y) m v j t in
      (y, m, s i y m (omega (arith, le, lt)) h, reads_more step q q' s on l (step c y) m v j lt t)

  opens_then : {A : Type 0} (r r' : Reading A) (p p' q q' : Opening) → SameReads r r' → Whole r p → SameOpens p p' → SameOpens q q' → Onwards q → SameOpens (OpensThen r p q) (OpensThen r' p' q')
  opens_then r r' p p' q q' sr w sp sq on i k le (inl h) = inl (sp i k le h)
  opens_then r r' p p' q q' sr w sp sq on i k le (inr (x, m, h, o)) =
      let a : m ≤ k = on m k o in
      elim (below_or_not m) [
        | inl lt ↦ inr (x, m, sr i x m lt h, sq m k le o)
        | inr ge ↦ inl (sp i k le (subst (λ t. p i t) (omega (arith, a, le, ge)) (w i x m h)))
      ]

  -- the last of some items
  last_item : {B C : Type 0} (step : C → B → C) (q : Reading B) → ReadsOn q → (l : ℕ) (c : C) (i : ℕ) (v : C) (m : ℕ) → ReadsMore step q (suc l) c i v m
      → (u : C) × (h : ℕ) × (y : B) × ReadsMore step q l c i u h × q h y m
  last_item step q on zero c i v m (y, m1, r, (e, f)) = (c, i, y, (refl, refl), subst (λ t. q i y t) (sym f) r)
  last_item step q on (suc l) c i v m (y, m1, r, t) =
      let z = last_item step q on l (step c y) m1 v m t in (z.0, z.1, z.2, (y, m1, r, z.3), z.4)

  module _ {A B C : Type 0} (first : A → C) (step : C → B → A → C) (r r' : Reading A) (s s' : Reading B) (p p' q q' : Opening)
      (sr : SameReads r r') (ss : SameReads s s') (wr : Whole r p) (ws : Whole s q) (sp : SameOpens p p') (sq : SameOpens q q') (op : Onwards p) (oq : Onwards q)
      (moves : (i : ℕ) (v : A) (j : ℕ) → r i v j → i < j) where
    on_r : ReadsOn r
    on_r i v j h = op i j (wr i v j h)

    on_s : ReadsOn s
    on_s i v j h = oq i j (ws i v j h)

    abbrev Item : Reading (B × A)
    Item = ReadsThen pair_of s r

    abbrev Item' : Reading (B × A)
    Item' = ReadsThen pair_of s' r'

    on_item : ReadsOn Item
    on_item i v j (x, y, m, h, t, e) = let a : i ≤ m = on_s i x m h in let b : m ≤ j = on_r m y j t in omega (arith, a, b)

    item_moves : (i : ℕ) (v : B × A) (j : ℕ) → Item i v j → i < j
    item_moves i v j (x, y, m, h, t, e) = let a : i ≤ m = on_s i x m h in let b : m < j = moves m y j t in omega (arith, a, b)

    same_item : SameReads Item Item'
    same_item = reads_then pair_of s s' r r' ss sr on_r

    same_opens_item : SameOpens (OpensThen s q p) (OpensThen s' q' p')
    same_opens_item = opens_then s s' q q' p p' ss ws sq sp op

    same_more : (l : ℕ) (c : C) → SameReads (ReadsMore (stepped step) Item l c) (ReadsMore (stepped step) Item' l c)
    same_more = reads_more (stepped step) Item Item' same_item on_item

    reads_chain : SameReads (ReadsChain first step r s) (ReadsChain first step r' s')
    reads_chain i v j lt (x, m, l, h, t) =
        let le : m ≤ j = more_on (stepped step) Item on_item l (first x) m v j t in
        (x, m, l, sr i x m (omega (arith, le, lt)) h, same_more l (first x) m v j lt t)

    -- a chain that is read up to the place itself: its last item opens it
    at_end : (i k : ℕ) → k ≤ n → (x : A) (m l : ℕ) (v : C) → r i x m → ReadsMore (stepped step) Item l (first x) m v k → OpensChain first step r' s' p' q' i k
    at_end i k le x m zero v h (e, f) = inl (sp i k le (subst (λ t. p i t) (sym f) (wr i x m h)))
    at_end i k le x m (suc l) v h t =
        let z = last_item (stepped step) Item on_item l (first x) m v k t in
        let lt : z.1 < k = item_moves z.1 z.2 k z.4 in
        let a : m ≤ z.1 = more_on (stepped step) Item on_item l (first x) m z.0 z.1 z.3 in
        let opened : OpensThen s q p z.1 k = inr ((z.4).0, (z.4).2, (z.4).3, wr (z.4).2 (z.4).1 k (z.4).4) in
        inr (z.0, z.1, (x, m, l, sr i x m (omega (arith, a, lt, le)) h, same_more l (first x) m z.0 z.1 (omega (arith, lt, le)) z.3), same_opens_item z.1 k le opened)

    opens_chain : SameOpens (OpensChain first step r s p q) (OpensChain first step r' s' p' q')
    opens_chain i k le (inl h) = inl (sp i k le h)
    opens_chain i k le (inr (v, m, (x, m0, l, h, t), o)) =
        let a : m ≤ k = item_on m k o in
        elim (below_or_not m) [
          | inl lt ↦ inr (v, m, reads_chain i v m lt (x, m0, l, h, t), same_opens_item m k le o)
          | inr ge ↦ at_end i k le x m0 l v h (subst (λ u. ReadsMore (stepped step) Item l (first x) m0 v u) (omega (arith, a, le, ge)) t)
        ]
      where
        item_on : (m k : ℕ) → OpensThen s q p m k → m ≤ k
        item_on m k (inl h) = oq m k h
        item_on m k (inr (y, l, h, t)) = let a : m ≤ l = on_s m y l h in let b : l ≤ k = op l k t in omega (arith, a, b)

  -- ---- each form of a tested grammar

  module _ (ts ts' : ℕ → PlacedTerminal) (agree : (k : ℕ) → k < n → ts k ≡ ts' k) (cap : ℕ) where
    module _ (nr nr' : (m : Name) → Option ℕ → Reading (Value (sort m))) (no : (m : Name) → Option ℕ → Opening)
        (sane : (m : Name) (e : Option ℕ) → Sane ts (nr m e) (no m e) (In (first_of m)) ⊥ (In (follow_of m)))
        (same_r : (m : Name) (e : Option ℕ) → SameReads (nr m e) (nr' m e)) where
      abbrev R : {s : Sort} → Form s → Option ℕ → Reading (Value s)
      R f e = ReadsBy ts cap nr f e

      abbrev R' : {s : Sort} → Form s → Option ℕ → Reading (Value s)
      R' f e = ReadsBy ts' cap nr' f e

      abbrev O : {s : Sort} → Form s → Option ℕ → Opening
      O f e = OpensBy ts cap nr no f e

      sound_here : {s : Sort} (f : Form s) → good f ≡ true → (e : Option ℕ) → Sound ts (R f e) (O f e) (first f) (nullable f) (follow f)
      sound_here f h e = sound ts cap nr no sane f h e

      reads_on : {s : Sort} (f : Form s) → good f ≡ true → (e : Option ℕ) → ReadsOn (R f e)
      reads_on f h e i v j r = reads-ahead ts (R f e) (O f e) (In (first f)) (nullable f ≡ true) (In (follow f)) (sound_here f h e) i v j r

      solid_moves : {s : Sort} (f : Form s) → good f ≡ true → not (nullable f) ≡ true → (e : Option ℕ) (i : ℕ) (v : Value s) (j : ℕ) → R f e i v j → i < j
      solid_moves f h t e i v j r = elim ((solid_form ts cap nr no sane f h t e).some i v j r) [ inl z ↦ absurd z | inr lt ↦ lt ]

      same_begun : (e : Option ℕ) (i : ℕ) → i < n → begun ts e i ≡ begun ts' e i
      same_begun e i lt = ap (λ (t : PlacedTerminal). begun (λ k. t) e i) (agree i lt)

      -- the parts of a chain's test
      chain_solid : {s t : Sort} (f : Form s) (g : Form t) (c : Bool) → (c && ((not (nullable f) && not (member 0 (first_item f g))) && (apart (follow f) (first_item f g) && apart (follow g) (first f)))) ≡ true → not (nullable f) ≡ true
      chain_solid f g c h =
          left_good (not (nullable f)) (not (member 0 (first_item f g))) (apart (follow f) (first_item f g) && apart (follow g) (first f))
          (and_right c ((not (nullable f) && not (member 0 (first_item f g))) && (apart (follow f) (first_item f g) && apart (follow g) (first f))) h)

      pub same_reads : {s : Sort} (f : Form s) → good f ≡ true → (e : Option ℕ) → SameReads (R f e) (R' f e)
      same_reads (one ws) h e i v j lt (w, q, l) =
          let z : ts i ≡ ts' i = agree i (omega (arith, l, lt)) in
          (subst (λ (t : PlacedTerminal). IsTrue (member (terminal_at (λ k. t) i) ws)) z w, q ∙ z, l)
      same_reads (operator ws) h e i v j lt (w, b, q, l) =
          let z : ts i ≡ ts' i = agree i (omega (arith, l, lt)) in
          (subst (λ (t : PlacedTerminal). IsTrue (member (terminal_at (λ k. t) i) ws)) z w, subst (λ (t : PlacedTerminal). IsTrue (within cap e (t.operators))) z b, q ∙ z, l)
      same_reads (counted f) h e i v j lt r =
          let le : i ≤ j = reads_on f h (begun ts e i) i v j r in
          subst (λ t. R' f t i v j) (same_begun e i (omega (arith, le, lt))) (same_reads f h (begun ts e i) i v j lt r)
      same_reads here h e i v j lt (q, l) = (q ∙ ap (λ (t : PlacedTerminal). t.place) (agree i (omega (arith, l, lt))), l)
      same_reads (empty x) h e i v j lt r = r
      same_reads (as_tree k f) h e i v j lt (x, r, q) = (x, same_reads f h e i x j lt r, q)
      same_reads (then_ k f g) h e i v j lt r =
          let gf : good f ≡ true = left_good (good f) (good g) _ h in
          let gg : good g ≡ true = right_good (good f) (good g) _ h in
          reads_then k (R f e) (R' f e) (R g e) (R' g e) (same_reads f gf e) (same_reads g gg e) (reads_on g gg e) i v j lt r
      same_reads (either f g) h e i v j lt (inl r) = inl (same_reads f (left_good (good f) (good g) _ h) e i v j lt r)
      same_reads (either f g) h e i v j lt (inr r) = inr (same_reads g (right_good (good f) (good g) _ h) e i v j lt r)
      same_reads (maybe f) h e i v j lt (inl (x, r, q)) = inl (x, same_reads f (and_left (good f) _ h) e i x j lt r, q)
      same_reads (maybe f) h e i v j lt (inr r) = inr r
      same_reads (nearest ws f) h e i v j lt (inl (x, r, q)) = inl (x, same_reads f (left_good (good f) (not (nullable f)) _ h) e i x j lt r, q)
      same_reads (nearest ws f) h e i v j lt (inr (q, l, w)) = inr (q, l, subst (λ (t : PlacedTerminal). member (terminal_at (λ k. t) i) ws ≡ false) (agree i (omega (arith, l, lt))) w)
      same_reads (chain a b f g) h e i v j lt r =
          let gf : good f ≡ true = left_good (good f) (good g) _ h in
          let gg : good g ≡ true = right_good (good f) (good g) _ h in
          reads_chain a b (R f e) (R' f e) (R g e) (R' g e) (O f e) (O f e) (O g e) (O g e) (same_reads f gf e) (same_reads g gg e) ((sound_here f gf e).whole) ((sound_here g gg e).whole) (λ i k le o. o) (λ i k le o. o) ((sound_here f gf e).ahead) ((sound_here g gg e).ahead)
          (solid_moves f gf (chain_solid f g (good f && good g) h) e) i v j lt r
      same_reads (named m) h e i v j lt r = same_r m e i v j lt r

      module _ (no' : (m : Name) → Option ℕ → Opening) (sane' : (m : Name) (e : Option ℕ) → Sane ts' (nr' m e) (no' m e) (In (first_of m)) ⊥ (In (follow_of m)))
          (same_o : (m : Name) (e : Option ℕ) → SameOpens (no m e) (no' m e)) where
        abbrev O' : {s : Sort} → Form s → Option ℕ → Opening
        O' f e = OpensBy ts' cap nr' no' f e

        pub same_opens : {s : Sort} (f : Form s) → good f ≡ true → (e : Option ℕ) → SameOpens (O f e) (O' f e)
        same_opens (one ws) h e i k le (inl q) = inl q
        same_opens (one ws) h e i k le (inr (l, w)) = inr (l, subst (λ (t : PlacedTerminal). IsTrue (member (terminal_at (λ k. t) i) ws)) (agree i (omega (arith, l, le))) w)
        same_opens (operator ws) h e i k le (inl q) = inl q
        same_opens (operator ws) h e i k le (inr (l, w, b)) =
            let z : ts i ≡ ts' i = agree i (omega (arith, l, le)) in
            inr (l, subst (λ (t : PlacedTerminal). IsTrue (member (terminal_at (λ k. t) i) ws)) z w, subst (λ (t : PlacedTerminal). IsTrue (within cap e (t.operators))) z b)
        same_opens (counted f) h e i k le o = elim (below_or_not i) [
          | inl lt ↦ subst (λ t. O' f t i k) (same_begun e i lt) (same_opens f h (begun ts e i) i k le o)
          | inr ge ↦
              let on : i ≤ k = (sound_here f h (begun ts e i)).ahead i k o in
              subst (λ t. O' f (begun ts' e i) i t) (omega (arith, on, ge, le)) ((sound ts' cap nr' no' sane' f h (begun ts' e i)).nil i)
        ]
        same_opens here h e i k le o = o
        same_opens (empty x) h e i k le o = o
        same_opens (as_tree k f) h e i l le o = same_opens f h e i l le o
        same_opens (then_ k f g) h e i l le o =
            let gf : good f ≡ true = left_good (good f) (good g) _ h in
            let gg : good g ≡ true = right_good (good f) (good g) _ h in
            opens_then (R f e) (R' f e) (O f e) (O' f e) (O g e) (O' g e) (same_reads f gf e) ((sound_here f gf e).whole) (same_opens f gf e) (same_opens g gg e) ((sound_here g gg e).ahead) i l le o
        same_opens (either f g) h e i k le (inl o) = inl (same_opens f (left_good (good f) (good g) _ h) e i k le o)
        same_opens (either f g) h e i k le (inr o) = inr (same_opens g (right_good (good f) (good g) _ h) e i k le o)
        same_opens (maybe f) h e i k le o = same_opens f (and_left (good f) _ h) e i k le o
        same_opens (nearest ws f) h e i k le o = same_opens f (left_good (good f) (not (nullable f)) _ h) e i k le o
        same_opens (chain a b f g) h e i k le o =
            let gf : good f ≡ true = left_good (good f) (good g) _ h in
            let gg : good g ≡ true = right_good (good f) (good g) _ h in
            opens_chain a b (R f e) (R' f e) (R g e) (R' g e) (O f e) (O' f e) (O g e) (O' g e) (same_reads f gf e) (same_reads g gg e) ((sound_here f gf e).whole) ((sound_here g gg e).whole) (same_opens f gf e) (same_opens g gg e) ((sound_here f gf e).ahead) ((sound_here g gg e).ahead)
            (solid_moves f gf (chain_solid f g (good f && good g) h) e) i k le o
        same_opens (named m) h e i k le o = same_o m e i k le o

    same_reads_to : (d : ℕ) (m : Name) (e : Option ℕ) → SameReads (ReadsTo ts cap d m e) (ReadsTo ts' cap d m e)
    same_reads_to zero m e i v j lt r = r
    same_reads_to (suc d) m e i v j lt r = same_reads (ReadsTo ts cap d) (ReadsTo ts' cap d) (OpensTo ts cap d) (sane_to ts cap d) (same_reads_to d) (rule m) (tested m) e i v j lt r

    same_opens_to : (d : ℕ) (m : Name) (e : Option ℕ) → SameOpens (OpensTo ts cap d m e) (OpensTo ts' cap d m e)
    same_opens_to zero m e i k le o = o
    same_opens_to (suc d) m e i k le o =
        same_opens (ReadsTo ts cap d) (ReadsTo ts' cap d) (OpensTo ts cap d) (sane_to ts cap d) (same_reads_to d) (OpensTo ts' cap d) (sane_to ts' cap d) (same_opens_to d) (rule m) (tested m) e i k le o

    -- before the place the same trees are read, and up to it the same lists open
    pub reads_alike : (d : ℕ) {s : Sort} (f : Form s) → good f ≡ true → (e : Option ℕ) → SameReads (Reads ts cap d f e) (Reads ts' cap d f e)
    reads_alike d f h e i v j lt r = same_reads (ReadsTo ts cap d) (ReadsTo ts' cap d) (OpensTo ts cap d) (sane_to ts cap d) (same_reads_to d) f h e i v j lt r

    pub opens_alike : (d : ℕ) {s : Sort} (f : Form s) → good f ≡ true → (e : Option ℕ) → SameOpens (Opens ts cap d f e) (Opens ts' cap d f e)
    opens_alike d f h e i k le o =
        same_opens (ReadsTo ts cap d) (ReadsTo ts' cap d) (OpensTo ts cap d) (sane_to ts cap d) (same_reads_to d) (OpensTo ts' cap d) (sane_to ts' cap d) (same_opens_to d) f h e i k le o
