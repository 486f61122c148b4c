-- Where no token is deeper than so much, a form is read and opened within so many levels.
use Rattle.std.proofs.Common.{◌≡◌, ℕ, ◌+◌, ◌≤◌, ◌⊎◌, inl, inr, Bool, true, Option, refl, sym, ap, subst, arith}
use Rattle.qt_terminals.specs.Terminals.{PlacedTerminal}
use Rattle.qt_grammar.specs.Sorts.{Sort, Value, Name, sort}
use Rattle.qt_grammar.specs.Form.{Form, one, operator, counted, here, empty, as_tree, then_, either, maybe, nearest, chain, named, begun, Reading, Opening, ReadsBy, OpensBy, ReadsThen, pair_of, stepped}
use Rattle.qt_grammar.specs.Depth.{open_before, is_operator, is_single, and_one_if, Standing, Stands, StandsOpen}
use Rattle.qt_grammar.proofs.DepthTests.{State, outside, constructs_in, brackets_in, same_side, next, after, fits, then_fits, either_fits, optional_fits, chain_fits, outside_is}
use Rattle.qt_grammar.proofs.Constructs.{same_constructs, B, Keeps, then_keeps, more_high, brackets_next, base_then, named_base, brackets_form, chain_low, form_keeps}

module _ (ts : ℕ → PlacedTerminal) (cap : ℕ) (reads : (n : Name) → Option ℕ → Reading (Value (sort n))) (stands : (n : Name) (e : Option ℕ) (i : ℕ) (v : Value (sort n)) (j : ℕ) → reads n e i v j → ℕ → Standing)
    (keeps : (n : Name) (e : Option ℕ) (i : ℕ) (v : Value (sort n)) (j : ℕ) → reads n e i v j → open_before ts j ≡ open_before ts i) (solid : Bool)
    (reads' : (n : Name) → Option ℕ → Reading (Value (sort n))) (l : ℕ)
    (high : (n : Name) (e : Option ℕ) (i : ℕ) (v : Value (sort n)) (j : ℕ) (h : reads n e i v j) (round base : ℕ) → open_before ts i + round ≡ base + 1 → ((k depth : ℕ) → stands n e i v j h round k depth → depth ≤ base + l) → reads' n e i v j) where
  abbrev R : {s : Sort} → Form s → Option ℕ → Reading (Value s)
  R f e = ReadsBy ts cap reads f e

  abbrev R' : {s : Sort} → Form s → Option ℕ → Reading (Value s)
  R' f e = ReadsBy ts cap reads' f e

  abbrev S : {s : Sort} (f : Form s) (e : Option ℕ) (i : ℕ) (v : Value s) (j : ℕ) → R f e i v j → ℕ → Standing
  S f e i v j h = Stands ts cap reads stands f e i v j h

  brackets : {s : Sort} (f : Form s) (p : State) → fits solid p f ≡ true → (e : Option ℕ) (i : ℕ) (v : Value s) (j : ℕ) → R f e i v j → brackets_in p ≤ B ts i → B ts j + constructs_in p ≡ B ts i + constructs_in (after solid p f)
  brackets f p fit e i v j h le = brackets_form ts cap reads stands keeps solid f p fit e i v j h le

  kept : {s : Sort} (n : ℕ) (f : Form s) (q : State) (e : Option ℕ) → brackets_in q ≤ n → fits solid q f ≡ true → same_side q (after solid q f) ≡ true → Keeps ts n (R f e)
  kept n f q e low fit same = form_keeps ts cap reads stands keeps solid n f q e low fit same

  abbrev Item : {s t : Sort} → Form s → Form t → Option ℕ → Reading (Value t × Value s)
  Item f g e = ReadsThen pair_of (R g e) (R f e)

  abbrev StandsInItem : {s t : Sort} (f : Form s) (g : Form t) (e : Option ℕ) (round i : ℕ) (z : Value t × Value s) (j : ℕ) → Item f g e i z j → Standing
  StandsInItem f g e round i z j h k depth = S g e i h.0 h.2 h.3 round k depth ⊎ S f e h.2 h.1 j h.4 round k depth

  -- no token of what was read is deeper
  abbrev Shallow : ℕ → Standing → Type 0
  Shallow base stands = (k depth : ℕ) → stands k depth → depth ≤ base + l

  pub high_form : {s : Sort} (f : Form s) (p : State) → fits solid p f ≡ true → (e : Option ℕ) (i : ℕ) (v : Value s) (j : ℕ) (h : R f e i v j) (round base : ℕ) → B ts i + round ≡ base + constructs_in p → brackets_in p ≤ B ts i
      → Shallow base (S f e i v j h round) → R' f e i v j
  high_form (one ws) p fit e i v j h round base b le s = h
  high_form (operator ws) p fit e i v j h round base b le s = h
  high_form (counted f) p fit e i v j h round base b le s = high_form f p fit (begun ts e i) i v j h round base b le s
  high_form here p fit e i v j h round base b le s = h
  high_form (empty x) p fit e i v j h round base b le s = h
  high_form (as_tree c f) p fit e i v j (x, h, z) round base b le s = (x, high_form f p fit e i x j h round base b le s, z)
  high_form (then_ c f g) p fit e i v j (x, y, m, h, t, z) round base b le s =
      let u = then_fits solid p f g fit in
      let q : State = after solid p f in
      let a : B ts m + constructs_in p ≡ B ts i + constructs_in q = brackets f p u.1 e i x m h le in (
        x,
        y,
        m,
        high_form f p u.1 e i x m h round base b le (λ k depth o. s k depth (inl o)),
        high_form g (next (is_operator f) q) u.2 e m y j t (and_one_if (is_operator f) round) base
            (base_then ts (is_operator f) p q (after solid (next (is_operator f) q) g) i m base round u.3 a b)
            (brackets_next ts (is_operator f) p q i m u.0 le a) (λ k depth o. s k depth (inr o)),
        z,
      )
  high_form (either f g) p fit e i v j (inl h) round base b le s =
      let u = either_fits solid p f g fit in
      let o : constructs_in p ≡ 0 = ap constructs_in (outside_is p u.0) in
      inl (high_form f outside u.1 e i v j h round base (omega (arith, b, o)) (omega arith) s)
  high_form (either f g) p fit e i v j (inr h) round base b le s =
      let u = either_fits solid p f g fit in
      let o : constructs_in p ≡ 0 = ap constructs_in (outside_is p u.0) in
      inr (high_form g outside u.3 e i v j h round base (omega (arith, b, o)) (omega arith) s)
  high_form (maybe f) p fit e i v j (inl (x, h, z)) round base b le s = inl (x, high_form f p (optional_fits solid p f fit).1 e i x j h round base b le s, z)
  high_form (maybe f) p fit e i v j (inr h) round base b le s = inr h
  high_form (nearest ws f) p fit e i v j (inl (x, h, z)) round base b le s = inl (x, high_form f p (optional_fits solid p f fit).1 e i x j h round base b le s, z)
  high_form (nearest ws f) p fit e i v j (inr h) round base b le s = inr h
  high_form (chain c d f g) p fit e i v j (x, m, n, h, t) round base b le s =
      let u = chain_fits solid p f g fit in
      let q : State = after solid p f in
      let o : (B ts m ≡ B ts i) × (brackets_in q ≤ B ts m) = chain_low ts cap reads stands keeps solid p q i m u.0 u.2 le (brackets f p u.1 e i x m h le) in
      let same : constructs_in p ≡ constructs_in q = same_constructs p q u.2 in
      let bq : B ts m + round ≡ base + constructs_in q = omega (arith, o.0, same, b) in
      let keep_g : Keeps ts (B ts m) (R g e) = kept (B ts m) g q e o.1 u.3 u.4 in
      let keep_f : Keeps ts (B ts m) (R f e) = kept (B ts m) f q e o.1 u.5 u.6 in (
        x,
        m,
        n,
        high_form f p u.1 e i x m h round base b le (λ k depth o. s k depth (inl o)),
        more_high ts (B ts m) (base + l) (stepped d) (Item f g e) (ReadsThen pair_of (R' g e) (R' f e)) (StandsInItem f g e round) (then_keeps ts (B ts m) pair_of (R g e) (R f e) keep_g keep_f)
            (λ i y j r at s.
            let at2 : B ts r.2 ≡ B ts m = keep_g i r.0 r.2 r.3 at in (
              r.0,
              r.1,
              r.2,
              high_form g q u.3 e i r.0 r.2 r.3 round base (subst (λ t. t + round ≡ base + constructs_in q) (sym at) bq) (subst (λ t. brackets_in q ≤ t) (sym at) o.1) (λ k depth o. s k depth (inl o)),
              high_form f q u.5 e r.2 r.1 j r.4 round base (subst (λ t. t + round ≡ base + constructs_in q) (sym at2) bq) (subst (λ t. brackets_in q ≤ t) (sym at2) o.1) (λ k depth o. s k depth (inr o)),
              r.5,
            ))
            n (c x) m v j t refl (λ k depth o. s k depth (inr o)),
      )
  high_form (named n) p fit e i v j h round base b le s = high n e i v j h (and_one_if (is_single n) round) base (named_base ts p (is_single n) i base round fit b) s

  -- behind a chain all is as behind its first operand
  behind_chain : (s t u : Sort) (c : Value s → Value u) (d : Value u → Value t → Value s → Value u) (f : Form s) (g : Form t) (p : State) → fits solid p (chain c d f g) ≡ true → (e : Option ℕ) (i : ℕ) (v : Value u) (m : ℕ) → R (chain c d f g) e i v m
      → (round base : ℕ) → B ts i + round ≡ base + constructs_in p → brackets_in p ≤ B ts i
      → (B ts m + round ≡ base + constructs_in (after solid p f)) × (brackets_in (after solid p f) ≤ B ts m)
  behind_chain s t u c d f g p fit e i v m h round base b le =
      let u = chain_fits solid p f g fit in
      let q : State = after solid p f in
      let a : B ts m + constructs_in p ≡ B ts i + constructs_in q = brackets (chain c d f g) p fit e i v m h le in
      let o : (B ts m ≡ B ts i) × (brackets_in q ≤ B ts m) = chain_low ts cap reads stands keeps solid p q i m u.0 u.2 le a in
      let same : constructs_in p ≡ constructs_in q = same_constructs p q u.2 in
      (omega (arith, o.0, same, b), o.1)

  -- the same of what is opened
  module _ (opens : (n : Name) → Option ℕ → Opening) (stands_open : (n : Name) (e : Option ℕ) (i j : ℕ) → opens n e i j → ℕ → Standing) (opens' : (n : Name) → Option ℕ → Opening)
      (high_open : (n : Name) (e : Option ℕ) (i j : ℕ) (h : opens n e i j) (round base : ℕ) → B ts i + round ≡ base + 1 → ((k depth : ℕ) → stands_open n e i j h round k depth → depth ≤ base + l) → opens' n e i j) where
    pub high_open_form : {s : Sort} (f : Form s) (p : State) → fits solid p f ≡ true → (e : Option ℕ) (i j : ℕ) (h : OpensBy ts cap reads opens f e i j) (round base : ℕ) → B ts i + round ≡ base + constructs_in p → brackets_in p ≤ B ts i
        → Shallow base (StandsOpen ts cap reads stands opens stands_open f e i j h round) → OpensBy ts cap reads' opens' f e i j
    high_open_form (one ws) p fit e i j h round base b le s = h
    high_open_form (operator ws) p fit e i j h round base b le s = h
    high_open_form (counted f) p fit e i j h round base b le s = high_open_form f p fit (begun ts e i) i j h round base b le s
    high_open_form here p fit e i j h round base b le s = h
    high_open_form (empty x) p fit e i j h round base b le s = h
    high_open_form (as_tree c f) p fit e i j h round base b le s = high_open_form f p fit e i j h round base b le s
    high_open_form (then_ c f g) p fit e i j (inl h) round base b le s = inl (high_open_form f p (then_fits solid p f g fit).1 e i j h round base b le s)
    high_open_form (then_ c f g) p fit e i j (inr (x, m, h, t)) round base b le s =
        let u = then_fits solid p f g fit in
        let q : State = after solid p f in
        let a : B ts m + constructs_in p ≡ B ts i + constructs_in q = brackets f p u.1 e i x m h le in
        inr (
          x,
          m,
          high_form f p u.1 e i x m h round base b le (λ k depth o. s k depth (inl o)),
          high_open_form g (next (is_operator f) q) u.2 e m j t (and_one_if (is_operator f) round) base
              (base_then ts (is_operator f) p q (after solid (next (is_operator f) q) g) i m base round u.3 a b)
              (brackets_next ts (is_operator f) p q i m u.0 le a) (λ k depth o. s k depth (inr o)),
        )
    high_open_form (either f g) p fit e i j (inl h) round base b le s =
        let u = either_fits solid p f g fit in
        let o : constructs_in p ≡ 0 = ap constructs_in (outside_is p u.0) in
        inl (high_open_form f outside u.1 e i j h round base (omega (arith, b, o)) (omega arith) s)
    high_open_form (either f g) p fit e i j (inr h) round base b le s =
        let u = either_fits solid p f g fit in
        let o : constructs_in p ≡ 0 = ap constructs_in (outside_is p u.0) in
        inr (high_open_form g outside u.3 e i j h round base (omega (arith, b, o)) (omega arith) s)
    high_open_form (maybe f) p fit e i j h round base b le s = high_open_form f p (optional_fits solid p f fit).1 e i j h round base b le s
    high_open_form (nearest ws f) p fit e i j h round base b le s = high_open_form f p (optional_fits solid p f fit).1 e i j h round base b le s
    high_open_form (chain c d f g) p fit e i j (inl h) round base b le s = inl (high_open_form f p (chain_fits solid p f g fit).1 e i j h round base b le s)
    high_open_form (chain c d f g) p fit e i j (inr (v, m, h, inl o)) round base b le s =
        let z = behind_chain _ _ _ c d f g p fit e i v m h round base b le in
        inr (
          v,
          m,
          high_form (chain c d f g) p fit e i v m h round base b le (λ k depth o. s k depth (inl o)),
          inl (high_open_form g (after solid p f) (chain_fits solid p f g fit).3 e m j o round base z.0 z.1 (λ k depth o. s k depth (inr o))),
        )
    high_open_form (chain c d f g) p fit e i j (inr (v, m, h, inr (x, n, t, o))) round base b le s =
        let z = behind_chain _ _ _ c d f g p fit e i v m h round base b le in
        let u = chain_fits solid p f g fit in
        let q : State = after solid p f in
        let same : B ts n ≡ B ts m = kept (B ts m) g q e z.1 u.3 u.4 m x n t refl in
        inr (
          v,
          m,
          high_form (chain c d f g) p fit e i v m h round base b le (λ k depth o. s k depth (inl o)),
          inr (
            x,
            n,
            high_form g q u.3 e m x n t round base z.0 z.1 (λ k depth o. s k depth (inr (inl o))),
            high_open_form f q u.5 e n j o round base (subst (λ t. t + round ≡ base + constructs_in q) (sym same) z.0) (subst (λ t. brackets_in q ≤ t) (sym same) z.1) (λ k depth o. s k depth (inr (inr o))),
          ),
        )
    high_open_form (named n) p fit e i j h round base b le s = high_open n e i j h (and_one_if (is_single n) round) base (named_base ts p (is_single n) i base round fit b) s
