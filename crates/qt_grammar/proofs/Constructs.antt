-- Where each form with a name stands in one construct, what is read within so many levels is what is read with every token so deep
-- at most.
use Rattle.std.proofs.Common.{◌≡◌, ℕ, zero, suc, ◌+◌, ◌≤◌, ◌<◌, ◌⊎◌, inl, inr, Bool, true, false, not, Option, refl, sym, ◌∙◌, ap, subst, arith}
use Rattle.qt_terminals.specs.Terminals.{PlacedTerminal}
use Rattle.qt_grammar.specs.Sorts.{Sort, Value, Name, sort}
use Rattle.qt_grammar.specs.Form.{Form, one, operator, counted, here, empty, as_tree, then_, either, maybe, nearest, chain, named, begun, Reading, ReadsBy, ReadsThen, ReadsMore, pair_of, stepped}
use Rattle.qt_grammar.specs.Depth.{open_before, brackets_round, is_operator, is_single, and_one_if, Standing, Stands, StandsInMore}
use Rattle.qt_grammar.proofs.LookaheadTests.{eqb_same}
use Rattle.qt_grammar.proofs.DepthTests.{State, outside, inside, deep, operand, constructs_in, brackets_in, is_outside, is_operand, same_side, named_fits, named_after, next, resume, joins, after, fits, both, then_fits, either_fits, optional_fits, chain_fits, outside_is, operand_is, few_brackets, all_brackets, one_moves, operator_moves}

pub same_constructs : (p q : State) → same_side p q ≡ true → constructs_in p ≡ constructs_in q
same_constructs p q h = eqb_same (constructs_in p) (constructs_in q) h

pub named_same : (p : State) → constructs_in (named_after p) ≡ constructs_in p
named_same outside = refl
named_same inside = refl
named_same deep = refl
named_same operand = refl

pub below_or_not : (k m : ℕ) → (k < m) ⊎ (m ≤ k)
below_or_not k m = grind arith

module _ (ts : ℕ → PlacedTerminal) where
  abbrev pub B : ℕ → ℕ
  B i = open_before ts i

  -- ---- items, which leave the brackets as they were

  abbrev pub Keeps : {A : Type 0} → ℕ → Reading A → Type 0
  Keeps {A} level q = (i : ℕ) (y : A) (j : ℕ) → q i y j → B i ≡ level → B j ≡ level

  pub more_keeps : {C D : Type 0} (level : ℕ) (step : D → C → D) (q : Reading C) → Keeps level q → (n : ℕ) (c : D) (i : ℕ) (v : D) (j : ℕ) → ReadsMore step q n c i v j → B i ≡ level → B j ≡ level
  more_keeps level step q keeps zero c i v j (e, l) b = ap B l ∙ b
  more_keeps level step q keeps (suc n) c i v j (y, m, h, t) b = more_keeps level step q keeps n (step c y) m v j t (keeps i y m h b)

  pub then_keeps : {A C D : Type 0} (level : ℕ) (k : A → C → D) (p : Reading A) (q : Reading C) → Keeps level p → Keeps level q → Keeps level (ReadsThen k p q)
  then_keeps level k p q a b i v j (x, y, m, r, s, e) h = b m y j s (a i x m r h)

  -- no token of the items is deeper than so much
  pub more_low : {C D : Type 0} (level bound : ℕ) (step : D → C → D) (q : Reading C) (stands : (i : ℕ) (y : C) (j : ℕ) → q i y j → Standing) → Keeps level q
      → ((i : ℕ) (y : C) (j : ℕ) (h : q i y j) → B i ≡ level → (k depth : ℕ) → stands i y j h k depth → depth ≤ bound)
      → (n : ℕ) (c : D) (i : ℕ) (v : D) (j : ℕ) (h : ReadsMore step q n c i v j) → B i ≡ level → (k depth : ℕ) → StandsInMore step q stands n c i v j h k depth → depth ≤ bound
  more_low level bound step q stands keeps low zero c i v j h b k depth s = absurd s
  more_low level bound step q stands keeps low (suc n) c i v j (y, m, h, t) b k depth (inl s) = low i y m h b k depth s
  more_low level bound step q stands keeps low (suc n) c i v j (y, m, h, t) b k depth (inr s) = more_low level bound step q stands keeps low n (step c y) m v j t (keeps i y m h b) k depth s

  -- where no token is deeper, the items are read in another way
  pub more_high : {C D : Type 0} (level bound : ℕ) (step : D → C → D) (q q' : Reading C) (stands : (i : ℕ) (y : C) (j : ℕ) → q i y j → Standing) → Keeps level q
      → ((i : ℕ) (y : C) (j : ℕ) (h : q i y j) → B i ≡ level → ((k depth : ℕ) → stands i y j h k depth → depth ≤ bound) → q' i y j)
      → (n : ℕ) (c : D) (i : ℕ) (v : D) (j : ℕ) (h : ReadsMore step q n c i v j) → B i ≡ level → ((k depth : ℕ) → StandsInMore step q stands n c i v j h k depth → depth ≤ bound) → ReadsMore step q' n c i v j
  more_high level bound step q q' stands keeps high zero c i v j h b s = h
  more_high level bound step q q' stands keeps high (suc n) c i v j (y, m, h, t) b s =
      (y, m, high i y m h b (λ k depth z. s k depth (inl z)), more_high level bound step q q' stands keeps high n (step c y) m v j t (keeps i y m h b) (λ k depth z. s k depth (inr z)))

  -- each token has a depth, no less than what stands round all and the brackets round it
  abbrev pub Covers : Standing → ℕ → ℕ → Type 0
  Covers stands round k = (depth : ℕ) × stands k depth × (round + brackets_round ts k ≤ depth)

  pub more_covers : {C D : Type 0} (round : ℕ) (step : D → C → D) (q : Reading C) (stands : (i : ℕ) (y : C) (j : ℕ) → q i y j → Standing)
      → ((i : ℕ) (y : C) (j : ℕ) (h : q i y j) (k : ℕ) → i ≤ k → k < j → Covers (stands i y j h) round k)
      → (n : ℕ) (c : D) (i : ℕ) (v : D) (j : ℕ) (h : ReadsMore step q n c i v j) (k : ℕ) → i ≤ k → k < j → Covers (StandsInMore step q stands n c i v j h) round k
  more_covers round step q stands covers zero c i v j h k a b = absurd (omega (arith, h.1, a, b))
  more_covers round step q stands covers (suc n) c i v j (y, m, h, t) k a b = elim (below_or_not k m) [
    | inl lt ↦ let z = covers i y m h k a lt in (z.0, inl z.1, z.2)
    | inr le ↦ let z = more_covers round step q stands covers n (step c y) m v j t k le b in (z.0, inr z.1, z.2)
  ]

  -- ---- how the constructs round a part come from those round the whole

  pub outside_end : (p q : State) (i j : ℕ) → is_outside p ≡ true → is_outside q ≡ true → B j + 0 ≡ B i + constructs_in q → B j + constructs_in p ≡ B i + 0
  outside_end p q i j a b h = let x : constructs_in p ≡ 0 = ap constructs_in (outside_is p a) in let y : constructs_in q ≡ 0 = ap constructs_in (outside_is q b) in omega (arith, h, x, y)

  pub same_end : (p q : State) (i j : ℕ) → same_side p q ≡ true → B j + constructs_in p ≡ B i + constructs_in q → B j ≡ B i
  same_end p q i j s h = omega (arith, h, same_constructs p q s)

  pub brackets_then : (op : Bool) (p q r : State) (i m j : ℕ) → joins op q r ≡ true → B m + constructs_in p ≡ B i + constructs_in q → B j + constructs_in (next op q) ≡ B m + constructs_in r → B j + constructs_in p ≡ B i + constructs_in (resume op q r)
  brackets_then true p q r i m j h a b = let o : constructs_in r ≡ 1 = operand_is r (both (is_outside q) (is_operand r) h).1 in omega (arith, o, a, b)
  brackets_then false p q r i m j h a b = omega (arith, a, b)

  pub brackets_next : (op : Bool) (p q : State) (i m : ℕ) → not (is_operand p) ≡ true → brackets_in p ≤ B i → B m + constructs_in p ≡ B i + constructs_in q → brackets_in (next op q) ≤ B m
  brackets_next true p q i m h le a = omega arith
  brackets_next false p q i m h le a = omega (arith, le, a, all_brackets p h, few_brackets q)

  pub base_then : (op : Bool) (p q r : State) (i m base round : ℕ) → joins op q r ≡ true → B m + constructs_in p ≡ B i + constructs_in q → B i + round ≡ base + constructs_in p → B m + and_one_if op round ≡ base + constructs_in (next op q)
  base_then true p q r i m base round h a b = let o : constructs_in q ≡ 0 = ap constructs_in (outside_is q (both (is_outside q) (is_operand r) h).0) in omega (arith, o, a, b)
  base_then false p q r i m base round h a b = omega (arith, a, b)

  pub named_base : (p : State) (alone : Bool) (i base round : ℕ) → named_fits p alone ≡ true → B i + round ≡ base + constructs_in p → B i + and_one_if alone round ≡ base + 1
  named_base outside true i base round h q = omega (arith, q)
  named_base outside false i base round h q = absurd (cc h)
  named_base inside true i base round h q = absurd (cc h)
  named_base inside false i base round h q = q
  named_base deep true i base round h q = absurd (cc h)
  named_base deep false i base round h q = q
  named_base operand true i base round h q = absurd (cc h)
  named_base operand false i base round h q = q

  module _ (cap : ℕ) (reads : (n : Name) → Option ℕ → Reading (Value (sort n))) (stands : (n : Name) (e : Option ℕ) (i : ℕ) (v : Value (sort n)) (j : ℕ) → reads n e i v j → ℕ → Standing) where
    abbrev pub R : {s : Sort} → Form s → Option ℕ → Reading (Value s)
    R f e = ReadsBy ts cap reads f e

    abbrev pub S : {s : Sort} (f : Form s) (e : Option ℕ) (i : ℕ) (v : Value s) (j : ℕ) → R f e i v j → ℕ → Standing
    S f e i v j h = Stands ts cap reads stands f e i v j h

    -- ---- each token has a depth

    module _ (covers : (n : Name) (e : Option ℕ) (i : ℕ) (v : Value (sort n)) (j : ℕ) (h : reads n e i v j) (round k : ℕ) → i ≤ k → k < j → Covers (stands n e i v j h round) round k) where
      covers_one : (i j round k : ℕ) → j ≡ i + 1 → i ≤ k → k < j → Covers (λ k depth. (k ≡ i) × (depth ≡ round + brackets_round ts i)) round k
      covers_one i j round k e a b = let q : k ≡ i = omega (arith, e, a, b) in (round + brackets_round ts i, (q, refl), subst (λ t. round + brackets_round ts t ≤ round + brackets_round ts i) (sym q) (omega arith))

      pub if_more : (op : Bool) (round k depth : ℕ) → and_one_if op round + brackets_round ts k ≤ depth → round + brackets_round ts k ≤ depth
      if_more true round k depth h = omega (arith, h)
      if_more false round k depth h = h

      pub covers_form : {s : Sort} (f : Form s) (e : Option ℕ) (i : ℕ) (v : Value s) (j : ℕ) (h : R f e i v j) (round k : ℕ) → i ≤ k → k < j → Covers (S f e i v j h round) round k
      covers_form (one ws) e i v j h round k a b = covers_one i j round k h.2 a b
      covers_form (operator ws) e i v j h round k a b = covers_one i j round k h.3 a b
      covers_form (counted f) e i v j h round k a b = covers_form f (begun ts e i) i v j h round k a b
      covers_form here e i v j h round k a b = absurd (omega (arith, h.1, a, b))
      covers_form (empty x) e i v j h round k a b = absurd (omega (arith, h.1, a, b))
      covers_form (as_tree c f) e i v j (x, h, z) round k a b = covers_form f e i x j h round k a b
      covers_form (then_ c f g) e i v j (x, y, m, p, q, z) round k a b = elim (below_or_not k m) [
        | inl lt ↦ let t = covers_form f e i x m p round k a lt in (t.0, inl t.1, t.2)
        | inr le ↦ let t = covers_form g e m y j q (and_one_if (is_operator f) round) k le b in (t.0, inr t.1, if_more (is_operator f) round k t.0 t.2)
      ]
      covers_form (either f g) e i v j (inl h) round k a b = covers_form f e i v j h round k a b
      covers_form (either f g) e i v j (inr h) round k a b = covers_form g e i v j h round k a b
      covers_form (maybe f) e i v j (inl (x, h, z)) round k a b = covers_form f e i x j h round k a b
      covers_form (maybe f) e i v j (inr h) round k a b = absurd (omega (arith, h.1, a, b))
      covers_form (nearest ws f) e i v j (inl (x, h, z)) round k a b = covers_form f e i x j h round k a b
      covers_form (nearest ws f) e i v j (inr h) round k a b = absurd (omega (arith, h.1, a, b))
      covers_form (chain c d f g) e i v j (x, m, n, p, t) round k a b = elim (below_or_not k m) [
        | inl lt ↦ let z = covers_form f e i x m p round k a lt in (z.0, inl z.1, z.2)
        | inr le ↦
            let z = more_covers round (stepped d) (ReadsThen pair_of (R g e) (R f e)) (λ i z j h k depth. S g e i h.0 h.2 h.3 round k depth ⊎ S f e h.2 h.1 j h.4 round k depth)
            (λ i z j h k a b. elim (below_or_not k h.2) [
              | inl lt ↦ let u = covers_form g e i h.0 h.2 h.3 round k a lt in (u.0, inl u.1, u.2)
              | inr le ↦ let u = covers_form f e h.2 h.1 j h.4 round k le b in (u.0, inr u.1, u.2)
            ]) n (c x) m v j t k le b in
            (z.0, inr z.1, z.2)
      ]
      covers_form (named n) e i v j h round k a b =
          let z = covers n e i v j h (and_one_if (is_single n) round) k a b in (z.0, z.1, if_more (is_single n) round k z.0 z.2)

    -- ---- how many brackets stay level

    module _ (keeps : (n : Name) (e : Option ℕ) (i : ℕ) (v : Value (sort n)) (j : ℕ) → reads n e i v j → B j ≡ B i) (solid : Bool) where
      -- a form leaves as many brackets level as the test says
      pub brackets_form : {s : Sort} (f : Form s) (p : State) → fits solid p f ≡ true → (e : Option ℕ) (i : ℕ) (v : Value s) (j : ℕ) → R f e i v j → brackets_in p ≤ B i
          → B j + constructs_in p ≡ B i + constructs_in (after solid p f)
      brackets_form (one ws) p fit e i v j h le = one_moves ts solid p ws i j fit h.0 h.2 le
      brackets_form (operator ws) p fit e i v j h le = let a : B j ≡ B i = operator_moves ts p ws i j fit h.0 h.3 in omega (arith, a)
      brackets_form (counted f) p fit e i v j h le = brackets_form f p fit (begun ts e i) i v j h le
      brackets_form here p fit e i v j h le = ap (λ t. B t + constructs_in p) h.1
      brackets_form (empty x) p fit e i v j h le = ap (λ t. B t + constructs_in p) h.1
      brackets_form (as_tree c f) p fit e i v j (x, h, z) le = brackets_form f p fit e i x j h le
      brackets_form (then_ c f g) p fit e i v j (x, y, m, h, t, z) le =
          let u = then_fits solid p f g fit in
          let a : B m + constructs_in p ≡ B i + constructs_in (after solid p f) = brackets_form f p u.1 e i x m h le in
          let b = brackets_form g (next (is_operator f) (after solid p f)) u.2 e m y j t (brackets_next (is_operator f) p (after solid p f) i m u.0 le a) in
          brackets_then (is_operator f) p (after solid p f) (after solid (next (is_operator f) (after solid p f)) g) i m j u.3 a b
      brackets_form (either f g) p fit e i v j (inl h) le =
          let u = either_fits solid p f g fit in
          outside_end p (after solid outside f) i j u.0 u.2 (brackets_form f outside u.1 e i v j h (omega arith))
      brackets_form (either f g) p fit e i v j (inr h) le =
          let u = either_fits solid p f g fit in
          outside_end p (after solid outside g) i j u.0 u.4 (brackets_form g outside u.3 e i v j h (omega arith))
      brackets_form (maybe f) p fit e i v j (inl (x, h, z)) le =
          let u = optional_fits solid p f fit in
          ap (λ t. t + constructs_in p) (same_end p (after solid p f) i j u.2 (brackets_form f p u.1 e i x j h le))
      brackets_form (maybe f) p fit e i v j (inr h) le = ap (λ t. B t + constructs_in p) h.1
      brackets_form (nearest ws f) p fit e i v j (inl (x, h, z)) le =
          let u = optional_fits solid p f fit in
          ap (λ t. t + constructs_in p) (same_end p (after solid p f) i j u.2 (brackets_form f p u.1 e i x j h le))
      brackets_form (nearest ws f) p fit e i v j (inr h) le = ap (λ t. B t + constructs_in p) h.1
      brackets_form (chain c d f g) p fit e i v j (x, m, n, h, t) le =
          let u = chain_fits solid p f g fit in
          let q : State = after solid p f in
          let a : B m + constructs_in p ≡ B i + constructs_in q = brackets_form f p u.1 e i x m h le in
          let same : constructs_in p ≡ constructs_in q = same_constructs p q u.2 in
          let low : brackets_in q ≤ B m = omega (arith, a, same, le, few_brackets q, all_brackets p u.0) in
          let kept : B j ≡ B m =
          more_keeps (B m) (stepped d) (ReadsThen pair_of (R g e) (R f e))
          (then_keeps (B m) pair_of (R g e) (R f e)
          (λ i y j h b. same_end q (after solid q g) i j u.4 (brackets_form g q u.3 e i y j h (subst (λ t. brackets_in q ≤ t) (sym b) low)) ∙ b)
          (λ i y j h b. same_end q (after solid q f) i j u.6 (brackets_form f q u.5 e i y j h (subst (λ t. brackets_in q ≤ t) (sym b) low)) ∙ b))
          n (c x) m v j t refl in
          omega (arith, a, kept)
      brackets_form (named n) p fit e i v j h le = omega (arith, keeps n e i v j h, named_same p)

      -- the parts of a chain, behind its first operand
      pub chain_low : (p q : State) (i m : ℕ) → not (is_operand p) ≡ true → same_side p q ≡ true → brackets_in p ≤ B i → B m + constructs_in p ≡ B i + constructs_in q → (B m ≡ B i) × (brackets_in q ≤ B m)
      chain_low p q i m n s le a = let same : constructs_in p ≡ constructs_in q = same_constructs p q s in (omega (arith, a, same), omega (arith, a, same, le, few_brackets q, all_brackets p n))

      pub form_keeps : (level : ℕ) {s : Sort} (f : Form s) (q : State) (e : Option ℕ) → brackets_in q ≤ level → fits solid q f ≡ true → same_side q (after solid q f) ≡ true → Keeps level (R f e)
      form_keeps level f q e low fit same i y j h b = same_end q (after solid q f) i j same (brackets_form f q fit e i y j h (subst (λ t. brackets_in q ≤ t) (sym b) low)) ∙ b
