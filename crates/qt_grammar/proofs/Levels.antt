-- The grammar, read within so many levels, and the depth of its tokens.
use Rattle.std.proofs.Common.{◌≡◌, ℕ, zero, suc, ◌+◌, ◌≤◌, ◌<◌, inl, inr, Bool, true, false, Option, refl, sym, ap, subst, arith}
use Rattle.qt_terminals.specs.Terminals.{PlacedTerminal}
use Rattle.qt_grammar.specs.Sorts.{Sort, Value, Name, any, unary, block, single, an_index, a_range, a_set, an_entry, in_sizeof, in_array, parameters, gate_block, sort}
use Rattle.qt_grammar.specs.Form.{Form, one, operator, counted, here, empty, as_tree, then_, either, maybe, nearest, chain, named, member, terminal_at, begun, Reading, Opening, ReadsBy, OpensBy}
use Rattle.qt_grammar.specs.Language.{rule}
use Rattle.qt_grammar.specs.Lookahead.{first_of}
use Rattle.qt_grammar.specs.Spelling.{ReadsTo, OpensTo}
use Rattle.qt_grammar.specs.Depth.{closing, brackets_round, is_operator, is_single, and_one_if, Standing, Stands, StandsOpen, StandsTo, StandsOpenTo}
use Rattle.qt_grammar.proofs.Sane.{Sane, same_or_before}
use Rattle.qt_grammar.proofs.LookaheadTests.{In, apart, follow_of}
use Rattle.qt_grammar.proofs.Named.{Reads, Opens, sane_to}
use Rattle.qt_grammar.proofs.DepthTests.{outside, constructs_in, after, fits, fits_rule, outside_rule, not_member}
use Rattle.qt_grammar.proofs.Constructs.{below_or_not, B, Covers, if_more, covers_form, brackets_form}
use Rattle.qt_grammar.proofs.Bounds.{low_form, low_open_form}
use Rattle.qt_grammar.proofs.Shallow.{high_form, high_open_form}

-- ---- each token of what is opened has a depth

module _ (ts : ℕ → PlacedTerminal) (cap : ℕ) (reads : (n : Name) → Option ℕ → Reading (Value (sort n))) (stands : (n : Name) (e : Option ℕ) (i : ℕ) (v : Value (sort n)) (j : ℕ) → reads n e i v j → ℕ → Standing)
    (covers : (n : Name) (e : Option ℕ) (i : ℕ) (v : Value (sort n)) (j : ℕ) (h : reads n e i v j) (round k : ℕ) → i ≤ k → k < j → Covers ts (stands n e i v j h round) round k)
    (opens : (n : Name) → Option ℕ → Opening) (stands_open : (n : Name) (e : Option ℕ) (i j : ℕ) → opens n e i j → ℕ → Standing)
    (covers_open : (n : Name) (e : Option ℕ) (i j : ℕ) (h : opens n e i j) (round k : ℕ) → i ≤ k → k < j → Covers ts (stands_open n e i j h round) round k) where
  abbrev O : {s : Sort} (f : Form s) (e : Option ℕ) (i j : ℕ) → OpensBy ts cap reads opens f e i j → ℕ → Standing
  O f e i j h = StandsOpen ts cap reads stands opens stands_open f e i j h

  covered : {s : Sort} (f : Form s) (e : Option ℕ) (i : ℕ) (v : Value s) (j : ℕ) (h : ReadsBy ts cap reads f e i v j) (round k : ℕ) → i ≤ k → k < j → Covers ts (Stands ts cap reads stands f e i v j h round) round k
  covered f e i v j h round k a b = covers_form ts cap reads stands covers f e i v j h round k a b

  none : {A : Type 0} (i j k : ℕ) → j ≡ i → i ≤ k → k < j → A
  none i j k e a b = absurd (omega (arith, e, a, b))

  covers_token : (i j round k : ℕ) → j ≡ i + 1 → i ≤ k → k < j → Covers ts (λ k depth. (k ≡ i) × (depth ≡ round + brackets_round ts i)) round k
  covers_token i j round k e a b = let q : k ≡ i = omega (arith, e, a, b) in (round + brackets_round ts i, (q, refl), subst (λ t. round + brackets_round ts t ≤ round + brackets_round ts i) (sym q) (omega arith))

  pub covers_open_form : {s : Sort} (f : Form s) (e : Option ℕ) (i j : ℕ) (h : OpensBy ts cap reads opens f e i j) (round k : ℕ) → i ≤ k → k < j → Covers ts (O f e i j h round) round k
  covers_open_form (one ws) e i j (inl h) round k a b = none i j k h a b
  covers_open_form (one ws) e i j (inr h) round k a b = covers_token i j round k h.0 a b
  covers_open_form (operator ws) e i j (inl h) round k a b = none i j k h a b
  covers_open_form (operator ws) e i j (inr h) round k a b = covers_token i j round k h.0 a b
  covers_open_form (counted f) e i j h round k a b = covers_open_form f (begun ts e i) i j h round k a b
  covers_open_form here e i j h round k a b = none i j k h a b
  covers_open_form (empty x) e i j h round k a b = none i j k h a b
  covers_open_form (as_tree c f) e i j h round k a b = covers_open_form f e i j h round k a b
  covers_open_form (then_ c f g) e i j (inl h) round k a b = covers_open_form f e i j h round k a b
  covers_open_form (then_ c f g) e i j (inr (x, m, p, o)) round k a b = elim (below_or_not k m) [
    | inl lt ↦ let t = covered f e i x m p round k a lt in (t.0, inl t.1, t.2)
    | inr le ↦ let t = covers_open_form g e m j o (and_one_if (is_operator f) round) k le b in (t.0, inr t.1, if_more ts cap reads stands covers (is_operator f) round k t.0 t.2)
  ]
  covers_open_form (either f g) e i j (inl h) round k a b = covers_open_form f e i j h round k a b
  covers_open_form (either f g) e i j (inr h) round k a b = covers_open_form g e i j h round k a b
  covers_open_form (maybe f) e i j h round k a b = covers_open_form f e i j h round k a b
  covers_open_form (nearest ws f) e i j h round k a b = covers_open_form f e i j h round k a b
  covers_open_form (chain c d f g) e i j (inl h) round k a b = covers_open_form f e i j h round k a b
  covers_open_form (chain c d f g) e i j (inr (v, m, p, inl o)) round k a b = elim (below_or_not k m) [
    | inl lt ↦ let t = covered (chain c d f g) e i v m p round k a lt in (t.0, inl t.1, t.2)
    | inr le ↦ let t = covers_open_form g e m j o round k le b in (t.0, inr t.1, t.2)
  ]
  covers_open_form (chain c d f g) e i j (inr (v, m, p, inr (x, n, q, o))) round k a b = elim (below_or_not k m) [
    | inl lt ↦ let t = covered (chain c d f g) e i v m p round k a lt in (t.0, inl t.1, t.2)
    | inr le ↦ elim (below_or_not k n) [
      | inl lt ↦ let t = covered g e m x n q round k le lt in (t.0, inr (inl t.1), t.2)
      | inr le2 ↦ let t = covers_open_form f e n j o round k le2 b in (t.0, inr (inr t.1), t.2)
    ]
  ]
  covers_open_form (named n) e i j h round k a b =
      let z = covers_open n e i j h (and_one_if (is_single n) round) k a b in (z.0, z.1, if_more ts cap reads stands covers (is_single n) round k z.0 z.2)

-- no form with a name begins with what closes a bracket
first_open : (n : Name) → apart (first_of n) closing ≡ true
first_open any = refl
first_open unary = refl
first_open block = refl
first_open single = refl
first_open an_index = refl
first_open a_range = refl
first_open a_set = refl
first_open an_entry = refl
first_open in_sizeof = refl
first_open in_array = refl
first_open parameters = refl
first_open gate_block = refl

module _ (ts : ℕ → PlacedTerminal) (cap : ℕ) where
  -- ---- a form with a name

  pub keeps_to : (d : ℕ) (n : Name) (e : Option ℕ) (i : ℕ) (v : Value (sort n)) (j : ℕ) → ReadsTo ts cap d n e i v j → B ts j ≡ B ts i
  keeps_to zero n e i v j h = absurd h
  keeps_to (suc d) n e i v j h =
      let a : B ts j + 0 ≡ B ts i + constructs_in (after false outside (rule n)) = brackets_form ts cap (ReadsTo ts cap d) (StandsTo ts cap d) (keeps_to d) false (rule n) outside (fits_rule n) e i v j h (omega arith) in
      let o : constructs_in (after false outside (rule n)) ≡ 0 = ap constructs_in (outside_rule n) in
      omega (arith, a, o)

  pub covers_to : (d : ℕ) (n : Name) (e : Option ℕ) (i : ℕ) (v : Value (sort n)) (j : ℕ) (h : ReadsTo ts cap d n e i v j) (round k : ℕ) → i ≤ k → k < j → Covers ts (StandsTo ts cap d n e i v j h round) round k
  covers_to zero n e i v j h round k a b = absurd h
  covers_to (suc d) n e i v j h round k a b = covers_form ts cap (ReadsTo ts cap d) (StandsTo ts cap d) (covers_to d) (rule n) e i v j h round k a b

  pub covers_open_to : (d : ℕ) (n : Name) (e : Option ℕ) (i j : ℕ) (h : OpensTo ts cap d n e i j) (round k : ℕ) → i ≤ k → k < j → Covers ts (StandsOpenTo ts cap d n e i j h round) round k
  covers_open_to zero n e i j h round k a b = absurd (omega (arith, h, a, b))
  covers_open_to (suc d) n e i j h round k a b = covers_open_form ts cap (ReadsTo ts cap d) (StandsTo ts cap d) (covers_to d) (OpensTo ts cap d) (StandsOpenTo ts cap d) (covers_open_to d) (rule n) e i j h round k a b

  some_to : (d : ℕ) (n : Name) (e : Option ℕ) (i : ℕ) (v : Value (sort n)) (j : ℕ) → ReadsTo ts cap d n e i v j → 1 ≤ d
  some_to zero n e i v j h = absurd h
  some_to (suc d) n e i v j h = omega arith

  never : {l : ℕ} → (let b : Bool = false in b) ≡ true → 1 ≤ l
  never h = absurd (cc h)

  pub low_to : (d : ℕ) (n : Name) (e : Option ℕ) (i : ℕ) (v : Value (sort n)) (j : ℕ) (h : ReadsTo ts cap d n e i v j) (round base : ℕ) → B ts i + round ≡ base + 1 → (k depth : ℕ) → StandsTo ts cap d n e i v j h round k depth → depth ≤ base + d
  low_to zero n e i v j h round base b k depth s = absurd h
  low_to (suc d) n e i v j h round base b k depth s =
      let z : depth ≤ base + 1 + d =
      low_form ts cap (ReadsTo ts cap d) (StandsTo ts cap d) (keeps_to d) false d never (some_to d) (low_to d) (rule n) outside (fits_rule n) e i v j h round (base + 1) (omega (arith, b)) (omega arith) (omega arith) k depth s in
      omega (arith, z)

  pub low_open_to : (d : ℕ) (n : Name) (e : Option ℕ) (i j : ℕ) (h : OpensTo ts cap d n e i j) (round base : ℕ) → B ts i + round ≡ base + 1 → (k depth : ℕ) → StandsOpenTo ts cap d n e i j h round k depth → depth ≤ base + d
  low_open_to zero n e i j h round base b k depth s = absurd s
  low_open_to (suc d) n e i j h round base b k depth s =
      let z : depth ≤ base + 1 + d =
      low_open_form ts cap (ReadsTo ts cap d) (StandsTo ts cap d) (keeps_to d) false d never (some_to d) (low_to d) (OpensTo ts cap d) (StandsOpenTo ts cap d) (low_open_to d)
      (rule n) outside (fits_rule n) e i j h round (base + 1) (omega (arith, b)) (omega arith) (omega arith) k depth s in
      omega (arith, z)

  -- its first token stands in it, and so where no token is deeper than what stands round it nothing is read or opened
  too_deep : (n : Name) (stands : Standing) (i base round : ℕ) → In (first_of n) (terminal_at ts i) → B ts i + round ≡ base + 1 → Covers ts stands round i → ((k depth : ℕ) → stands k depth → depth ≤ base + 0) → ⊥
  too_deep n stands i base round w b c s =
      let o : member (terminal_at ts i) closing ≡ false = not_member (first_of n) closing (terminal_at ts i) (first_open n) w in
      let r : brackets_round ts i ≡ B ts i = rw o refl in
      omega (arith, r, b, c.2, s i c.0 c.1)

  pub high_to : (d l : ℕ) (n : Name) (e : Option ℕ) (i : ℕ) (v : Value (sort n)) (j : ℕ) (h : ReadsTo ts cap d n e i v j) (round base : ℕ) → B ts i + round ≡ base + 1
      → ((k depth : ℕ) → StandsTo ts cap d n e i v j h round k depth → depth ≤ base + l) → ReadsTo ts cap l n e i v j
  high_to zero l n e i v j h round base b s = absurd h
  high_to (suc d) zero n e i v j h round base b s =
      let sane : Sane ts (ReadsTo ts cap (suc d) n e) (OpensTo ts cap (suc d) n e) (In (first_of n)) ⊥ (In (follow_of n)) = sane_to ts cap (suc d) n e in
      elim (sane.some i v j h) [
        | inl x ↦ x
        | inr lt ↦ too_deep n (StandsTo ts cap (suc d) n e i v j h round) i base round (sane.begins i j (sane.whole i v j h) lt) b (covers_to (suc d) n e i v j h round i (omega arith) lt) s
      ]
  high_to (suc d) (suc l) n e i v j h round base b s =
      high_form ts cap (ReadsTo ts cap d) (StandsTo ts cap d) (keeps_to d) false (ReadsTo ts cap l) l (high_to d l) (rule n) outside (fits_rule n) e i v j h round (base + 1) (omega (arith, b)) (omega arith)
      (λ k depth o. let z : depth ≤ base + suc l = s k depth o in omega (arith, z))

  pub high_open_to : (d l : ℕ) (n : Name) (e : Option ℕ) (i j : ℕ) (h : OpensTo ts cap d n e i j) (round base : ℕ) → B ts i + round ≡ base + 1
      → ((k depth : ℕ) → StandsOpenTo ts cap d n e i j h round k depth → depth ≤ base + l) → OpensTo ts cap l n e i j
  high_open_to zero l n e i j h round base b s = subst (λ t. OpensTo ts cap l n e i t) (sym h) ((sane_to ts cap l n e).nil i)
  high_open_to (suc d) zero n e i j h round base b s =
      let sane : Sane ts (ReadsTo ts cap (suc d) n e) (OpensTo ts cap (suc d) n e) (In (first_of n)) ⊥ (In (follow_of n)) = sane_to ts cap (suc d) n e in
      elim (same_or_before i j (sane.ahead i j h)) [
        | inl q ↦ sym q
        | inr lt ↦ absurd (too_deep n (StandsOpenTo ts cap (suc d) n e i j h round) i base round (sane.begins i j h lt) b (covers_open_to (suc d) n e i j h round i (omega arith) lt) s)
      ]
  high_open_to (suc d) (suc l) n e i j h round base b s =
      high_open_form ts cap (ReadsTo ts cap d) (StandsTo ts cap d) (keeps_to d) false (ReadsTo ts cap l) l (high_to d l) (OpensTo ts cap d) (StandsOpenTo ts cap d) (OpensTo ts cap l) (high_open_to d l)
      (rule n) outside (fits_rule n) e i j h round (base + 1) (omega (arith, b)) (omega arith)
      (λ k depth o. let z : depth ≤ base + suc l = s k depth o in omega (arith, z))

  -- ---- any form

  module _ {s : Sort} (f : Form s) (e : Option ℕ) (i : ℕ) where
    pub covers_reads : (d : ℕ) (v : Value s) (j : ℕ) (h : Reads ts cap d f e i v j) (k : ℕ) → i ≤ k → k < j → Covers ts (Stands ts cap (ReadsTo ts cap d) (StandsTo ts cap d) f e i v j h 0) 0 k
    covers_reads d v j h k a b = covers_form ts cap (ReadsTo ts cap d) (StandsTo ts cap d) (covers_to d) f e i v j h 0 k a b

    pub covers_opens : (d j : ℕ) (h : Opens ts cap d f e i j) (k : ℕ) → i ≤ k → k < j → Covers ts (StandsOpen ts cap (ReadsTo ts cap d) (StandsTo ts cap d) (OpensTo ts cap d) (StandsOpenTo ts cap d) f e i j h 0) 0 k
    covers_opens d j h k a b = covers_open_form ts cap (ReadsTo ts cap d) (StandsTo ts cap d) (covers_to d) (OpensTo ts cap d) (StandsOpenTo ts cap d) (covers_open_to d) f e i j h 0 k a b

  -- ---- any form that passes the test

  module _ (solid : Bool) {s : Sort} (f : Form s) (fit : fits solid outside f ≡ true) (e : Option ℕ) (i : ℕ) where
    pub low_reads : (l : ℕ) → (solid ≡ true → 1 ≤ l) → (v : Value s) (j : ℕ) (h : Reads ts cap l f e i v j) (k depth : ℕ) → Stands ts cap (ReadsTo ts cap l) (StandsTo ts cap l) f e i v j h 0 k depth → depth ≤ B ts i + l
    low_reads l sl v j h k depth o = low_form ts cap (ReadsTo ts cap l) (StandsTo ts cap l) (keeps_to l) solid l sl (some_to l) (low_to l) f outside fit e i v j h 0 (B ts i) refl (omega arith) (omega arith) k depth o

    pub low_opens : (l : ℕ) → (solid ≡ true → 1 ≤ l) → (j : ℕ) (h : Opens ts cap l f e i j) (k depth : ℕ) → StandsOpen ts cap (ReadsTo ts cap l) (StandsTo ts cap l) (OpensTo ts cap l) (StandsOpenTo ts cap l) f e i j h 0 k depth → depth ≤ B ts i + l
    low_opens l sl j h k depth o =
        low_open_form ts cap (ReadsTo ts cap l) (StandsTo ts cap l) (keeps_to l) solid l sl (some_to l) (low_to l) (OpensTo ts cap l) (StandsOpenTo ts cap l) (low_open_to l) f outside fit e i j h 0 (B ts i) refl (omega arith) (omega arith) k depth o

    pub high_reads : (d l : ℕ) (v : Value s) (j : ℕ) (h : Reads ts cap d f e i v j) → ((k depth : ℕ) → Stands ts cap (ReadsTo ts cap d) (StandsTo ts cap d) f e i v j h 0 k depth → depth ≤ B ts i + l) → Reads ts cap l f e i v j
    high_reads d l v j h o = high_form ts cap (ReadsTo ts cap d) (StandsTo ts cap d) (keeps_to d) solid (ReadsTo ts cap l) l (high_to d l) f outside fit e i v j h 0 (B ts i) refl (omega arith) o

    pub high_opens : (d l j : ℕ) (h : Opens ts cap d f e i j) → ((k depth : ℕ) → StandsOpen ts cap (ReadsTo ts cap d) (StandsTo ts cap d) (OpensTo ts cap d) (StandsOpenTo ts cap d) f e i j h 0 k depth → depth ≤ B ts i + l) → Opens ts cap l f e i j
    high_opens d l j h o =
        high_open_form ts cap (ReadsTo ts cap d) (StandsTo ts cap d) (keeps_to d) solid (ReadsTo ts cap l) l (high_to d l) (OpensTo ts cap d) (StandsOpenTo ts cap d) (OpensTo ts cap l) (high_open_to d l) f outside fit e i j h 0 (B ts i) refl (omega arith) o
