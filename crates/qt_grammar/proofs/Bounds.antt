-- What is read or opened within so many levels has no deeper token, and where no token is deeper it is read or opened within so
-- many levels.
use Rattle.std.proofs.Common.{◌≡◌, ℕ, ◌+◌, ◌≤◌, ◌⊎◌, inl, inr, Bool, true, false, cond, List, Option, refl, sym, ap, subst, arith}
use Rattle.qt_terminals.specs.Terminals.{PlacedTerminal}
use Rattle.qt_grammar.specs.Sorts.{Sort, Value, Name, sort}
use Rattle.qt_grammar.specs.Form.{Form, one, operator, counted, here, empty, as_tree, then_, either, maybe, nearest, chain, named, begun, Reading, Opening, ReadsBy, OpensBy, ReadsThen, pair_of, stepped}
use Rattle.qt_grammar.specs.Depth.{open_before, brackets_round, is_operator, is_single, and_one_if, Standing, Stands, StandsOpen}
use Rattle.qt_grammar.proofs.DepthTests.{State, outside, inside, deep, operand, constructs_in, brackets_in, known_in, same_side, opened, one_after, named_after, next, resume, after, fits, then_fits, either_fits, optional_fits, chain_fits, outside_is, one_low, operator_low, plain}
use Rattle.qt_grammar.proofs.Constructs.{same_constructs, B, Keeps, then_keeps, more_low, brackets_next, base_then, named_base, brackets_form, chain_low, form_keeps}

known_opened : (solid : Bool) (l : ℕ) → (solid ≡ true → 1 ≤ l) → known_in (opened solid) ≤ l
known_opened true l h = h refl
known_opened false l h = omega arith

known_one : (solid : Bool) (l : ℕ) → (solid ≡ true → 1 ≤ l) → (p : State) (ws : List ℕ) → known_in p ≤ l → known_in (one_after solid p ws) ≤ l
known_one solid l h outside ws k = at_test (plain ws)
  where
    at_test : (b : Bool) → known_in (cond b outside (opened solid)) ≤ l
    at_test true = omega arith
    at_test false = known_opened solid l h
known_one solid l h inside ws k = omega arith
known_one solid l h deep ws k = at_test (plain ws)
  where
    at_test : (b : Bool) → known_in (cond b deep outside) ≤ l
    at_test true = k
    at_test false = omega arith
known_one solid l h operand ws k = omega arith

known_named : (l : ℕ) (p : State) → 1 ≤ l → known_in (named_after p) ≤ l
known_named l outside h = omega arith
known_named l inside h = h
known_named l deep h = h
known_named l operand h = omega arith

known_next : (op : Bool) (l : ℕ) (q : State) → known_in q ≤ l → known_in (next op q) ≤ l
known_next true l q h = omega arith
known_next false l q h = h

known_resume : (op : Bool) (l : ℕ) (q r : State) → known_in q ≤ l → known_in r ≤ l → known_in (resume op q r) ≤ l
known_resume true l q r h g = h
known_resume false l q r h g = g

module _ (ts : ℕ → PlacedTerminal) (cap : ℕ) (reads : (n : Name) → Option ℕ → Reading (Value (sort n))) (stands : (n : Name) (e : Option ℕ) (i : ℕ) (v : Value (sort n)) (j : ℕ) → reads n e i v j → ℕ → Standing)
    (keeps : (n : Name) (e : Option ℕ) (i : ℕ) (v : Value (sort n)) (j : ℕ) → reads n e i v j → open_before ts j ≡ open_before ts i) (solid : Bool) where
  abbrev R : {s : Sort} → Form s → Option ℕ → Reading (Value s)
  R f e = ReadsBy ts cap reads f e

  abbrev S : {s : Sort} (f : Form s) (e : Option ℕ) (i : ℕ) (v : Value s) (j : ℕ) → R f e i v j → ℕ → Standing
  S f e i v j h = Stands ts cap reads stands f e i v j h

  brackets : {s : Sort} (f : Form s) (p : State) → fits solid p f ≡ true → (e : Option ℕ) (i : ℕ) (v : Value s) (j : ℕ) → R f e i v j → brackets_in p ≤ B ts i → B ts j + constructs_in p ≡ B ts i + constructs_in (after solid p f)
  brackets f p fit e i v j h le = brackets_form ts cap reads stands keeps solid f p fit e i v j h le

  kept : {s : Sort} (n : ℕ) (f : Form s) (q : State) (e : Option ℕ) → brackets_in q ≤ n → fits solid q f ≡ true → same_side q (after solid q f) ≡ true → Keeps ts n (R f e)
  kept n f q e low fit same = form_keeps ts cap reads stands keeps solid n f q e low fit same

  -- an item of a chain, and where its tokens stand
  abbrev Item : {s t : Sort} → Form s → Form t → Option ℕ → Reading (Value t × Value s)
  Item f g e = ReadsThen pair_of (R g e) (R f e)

  abbrev StandsInItem : {s t : Sort} (f : Form s) (g : Form t) (e : Option ℕ) (round i : ℕ) (z : Value t × Value s) (j : ℕ) → Item f g e i z j → Standing
  StandsInItem f g e round i z j h k depth = S g e i h.0 h.2 h.3 round k depth ⊎ S f e h.2 h.1 j h.4 round k depth

  -- ---- no deeper token

  module _ (l : ℕ) (solid_l : solid ≡ true → 1 ≤ l) (some : (n : Name) (e : Option ℕ) (i : ℕ) (v : Value (sort n)) (j : ℕ) → reads n e i v j → 1 ≤ l)
      (low : (n : Name) (e : Option ℕ) (i : ℕ) (v : Value (sort n)) (j : ℕ) (h : reads n e i v j) (round base : ℕ) → B ts i + round ≡ base + 1 → (k depth : ℕ) → stands n e i v j h round k depth → depth ≤ base + l) where
    -- where a form with a name was read, one level was left
    known_form : {s : Sort} (f : Form s) (p : State) → (e : Option ℕ) (i : ℕ) (v : Value s) (j : ℕ) → R f e i v j → known_in p ≤ l → known_in (after solid p f) ≤ l
    known_form (one ws) p e i v j h k = known_one solid l solid_l p ws k
    known_form (operator ws) p e i v j h k = k
    known_form (counted f) p e i v j h k = known_form f p (begun ts e i) i v j h k
    known_form here p e i v j h k = k
    known_form (empty x) p e i v j h k = k
    known_form (as_tree c f) p e i v j (x, h, z) k = known_form f p e i x j h k
    known_form (then_ c f g) p e i v j (x, y, m, h, t, z) k =
        let a : known_in (after solid p f) ≤ l = known_form f p e i x m h k in
        known_resume (is_operator f) l (after solid p f) (after solid (next (is_operator f) (after solid p f)) g) a (known_form g (next (is_operator f) (after solid p f)) e m y j t (known_next (is_operator f) l (after solid p f) a))
    known_form (either f g) p e i v j h k = omega arith
    known_form (maybe f) p e i v j h k = k
    known_form (nearest ws f) p e i v j h k = k
    known_form (chain c d f g) p e i v j (x, m, n, h, t) k = known_form f p e i x m h k
    known_form (named n) p e i v j h k = known_named l p (some n e i v j h)

    pub low_form : {s : Sort} (f : Form s) (p : State) → fits solid p f ≡ true → (e : Option ℕ) (i : ℕ) (v : Value s) (j : ℕ) (h : R f e i v j) (round base : ℕ) → B ts i + round ≡ base + constructs_in p → brackets_in p ≤ B ts i → known_in p ≤ l
        → (k depth : ℕ) → S f e i v j h round k depth → depth ≤ base + l
    low_form (one ws) p fit e i v j h round base b le known k depth s = let z : round + brackets_round ts i ≤ base + l = one_low ts p ws i base round l fit h.0 b le known in omega (arith, s.1, z)
    low_form (operator ws) p fit e i v j h round base b le known k depth s = let z : round + brackets_round ts i ≤ base + l = operator_low ts p ws i base round l fit b known in omega (arith, s.1, z)
    low_form (counted f) p fit e i v j h round base b le known k depth s = low_form f p fit (begun ts e i) i v j h round base b le known k depth s
    low_form here p fit e i v j h round base b le known k depth s = absurd s
    low_form (empty x) p fit e i v j h round base b le known k depth s = absurd s
    low_form (as_tree c f) p fit e i v j (x, h, z) round base b le known k depth s = low_form f p fit e i x j h round base b le known k depth s
    low_form (then_ c f g) p fit e i v j (x, y, m, h, t, z) round base b le known k depth (inl s) =
        low_form f p (then_fits solid p f g fit).1 e i x m h round base b le known k depth s
    low_form (then_ c f g) p fit e i v j (x, y, m, h, t, z) round base b le known k depth (inr s) =
        let u = then_fits solid p f g fit in
        let q : State = after solid p f in
        let a : B ts m + constructs_in p ≡ B ts i + constructs_in q = brackets f p u.1 e i x m h le in
        low_form g (next (is_operator f) q) u.2 e m y j t (and_one_if (is_operator f) round) base
        (base_then ts (is_operator f) p q (after solid (next (is_operator f) q) g) i m base round u.3 a b)
        (brackets_next ts (is_operator f) p q i m u.0 le a) (known_next (is_operator f) l q (known_form f p e i x m h known)) k depth s
    low_form (either f g) p fit e i v j (inl h) round base b le known k depth s =
        let u = either_fits solid p f g fit in
        let o : constructs_in p ≡ 0 = ap constructs_in (outside_is p u.0) in
        low_form f outside u.1 e i v j h round base (omega (arith, b, o)) (omega arith) (omega arith) k depth s
    low_form (either f g) p fit e i v j (inr h) round base b le known k depth s =
        let u = either_fits solid p f g fit in
        let o : constructs_in p ≡ 0 = ap constructs_in (outside_is p u.0) in
        low_form g outside u.3 e i v j h round base (omega (arith, b, o)) (omega arith) (omega arith) k depth s
    low_form (maybe f) p fit e i v j (inl (x, h, z)) round base b le known k depth s = low_form f p (optional_fits solid p f fit).1 e i x j h round base b le known k depth s
    low_form (maybe f) p fit e i v j (inr h) round base b le known k depth s = absurd s
    low_form (nearest ws f) p fit e i v j (inl (x, h, z)) round base b le known k depth s = low_form f p (optional_fits solid p f fit).1 e i x j h round base b le known k depth s
    low_form (nearest ws f) p fit e i v j (inr h) round base b le known k depth s = absurd s
    low_form (chain c d f g) p fit e i v j (x, m, n, h, t) round base b le known k depth (inl s) =
        low_form f p (chain_fits solid p f g fit).1 e i x m h round base b le known k depth s
    low_form (chain c d f g) p fit e i v j (x, m, n, h, t) round base b le known k depth (inr s) =
        let u = chain_fits solid p f g fit in
        let q : State = after solid p f in
        let o : (B ts m ≡ B ts i) × (brackets_in q ≤ B ts m) = chain_low ts cap reads stands keeps solid p q i m u.0 u.2 le (brackets f p u.1 e i x m h le) in
        let kn : known_in q ≤ l = known_form f p e i x m h known in
        let same : constructs_in p ≡ constructs_in q = same_constructs p q u.2 in
        let bq : B ts m + round ≡ base + constructs_in q = omega (arith, o.0, same, b) in
        let keep_g : Keeps ts (B ts m) (R g e) = kept (B ts m) g q e o.1 u.3 u.4 in
        let keep_f : Keeps ts (B ts m) (R f e) = kept (B ts m) f q e o.1 u.5 u.6 in
        more_low ts (B ts m) (base + l) (stepped d) (Item f g e) (StandsInItem f g e round) (then_keeps ts (B ts m) pair_of (R g e) (R f e) keep_g keep_f)
        (λ i y j r at k depth s. elim s [
          | inl z ↦ low_form g q u.3 e i r.0 r.2 r.3 round base (subst (λ t. t + round ≡ base + constructs_in q) (sym at) bq) (subst (λ t. brackets_in q ≤ t) (sym at) o.1) kn k depth z
          | inr z ↦
              let at2 : B ts r.2 ≡ B ts m = keep_g i r.0 r.2 r.3 at in
              low_form f q u.5 e r.2 r.1 j r.4 round base (subst (λ t. t + round ≡ base + constructs_in q) (sym at2) bq) (subst (λ t. brackets_in q ≤ t) (sym at2) o.1) kn k depth z
        ])
        n (c x) m v j t refl k depth s
    low_form (named n) p fit e i v j h round base b le known k depth s = low n e i v j h (and_one_if (is_single n) round) base (named_base ts p (is_single n) i base round fit b) k depth s

    -- behind a chain all is as behind its first operand
    pub behind_chain : (s t u : Sort) (c : Value s → Value u) (d : Value u → Value t → Value s → Value u) (f : Form s) (g : Form t) (p : State) → fits solid p (chain c d f g) ≡ true → (e : Option ℕ) (i : ℕ) (v : Value u) (m : ℕ) → R (chain c d f g) e i v m
        → (round base : ℕ) → B ts i + round ≡ base + constructs_in p → brackets_in p ≤ B ts i → known_in p ≤ l
        → (B ts m + round ≡ base + constructs_in (after solid p f)) × (brackets_in (after solid p f) ≤ B ts m) × (known_in (after solid p f) ≤ l)
    behind_chain s t u c d f g p fit e i v m h round base b le known =
        let u = chain_fits solid p f g fit in
        let q : State = after solid p f in
        let a : B ts m + constructs_in p ≡ B ts i + constructs_in q = brackets (chain c d f g) p fit e i v m h le in
        let o : (B ts m ≡ B ts i) × (brackets_in q ≤ B ts m) = chain_low ts cap reads stands keeps solid p q i m u.0 u.2 le a in
        let same : constructs_in p ≡ constructs_in q = same_constructs p q u.2 in
        (omega (arith, o.0, same, b), o.1, known_form (chain c d f g) p e i v m h known)

    -- the same of what is opened
    module _ (opens : (n : Name) → Option ℕ → Opening) (stands_open : (n : Name) (e : Option ℕ) (i j : ℕ) → opens n e i j → ℕ → Standing)
        (low_open : (n : Name) (e : Option ℕ) (i j : ℕ) (h : opens n e i j) (round base : ℕ) → B ts i + round ≡ base + 1 → (k depth : ℕ) → stands_open n e i j h round k depth → depth ≤ base + l) where
      pub low_open_form : {s : Sort} (f : Form s) (p : State) → fits solid p f ≡ true → (e : Option ℕ) (i j : ℕ) (h : OpensBy ts cap reads opens f e i j) (round base : ℕ) → B ts i + round ≡ base + constructs_in p → brackets_in p ≤ B ts i → known_in p ≤ l
          → (k depth : ℕ) → StandsOpen ts cap reads stands opens stands_open f e i j h round k depth → depth ≤ base + l
      low_open_form (one ws) p fit e i j (inl h) round base b le known k depth s = absurd s
      low_open_form (one ws) p fit e i j (inr h) round base b le known k depth s = let z : round + brackets_round ts i ≤ base + l = one_low ts p ws i base round l fit h.1 b le known in omega (arith, s.1, z)
      low_open_form (operator ws) p fit e i j (inl h) round base b le known k depth s = absurd s
      low_open_form (operator ws) p fit e i j (inr h) round base b le known k depth s = let z : round + brackets_round ts i ≤ base + l = operator_low ts p ws i base round l fit b known in omega (arith, s.1, z)
      low_open_form (counted f) p fit e i j h round base b le known k depth s = low_open_form f p fit (begun ts e i) i j h round base b le known k depth s
      low_open_form here p fit e i j h round base b le known k depth s = absurd s
      low_open_form (empty x) p fit e i j h round base b le known k depth s = absurd s
      low_open_form (as_tree c f) p fit e i j h round base b le known k depth s = low_open_form f p fit e i j h round base b le known k depth s
      low_open_form (then_ c f g) p fit e i j (inl h) round base b le known k depth s = low_open_form f p (then_fits solid p f g fit).1 e i j h round base b le known k depth s
      low_open_form (then_ c f g) p fit e i j (inr (x, m, h, t)) round base b le known k depth (inl s) = low_form f p (then_fits solid p f g fit).1 e i x m h round base b le known k depth s
      low_open_form (then_ c f g) p fit e i j (inr (x, m, h, t)) round base b le known k depth (inr s) =
          let u = then_fits solid p f g fit in
          let q : State = after solid p f in
          let a : B ts m + constructs_in p ≡ B ts i + constructs_in q = brackets f p u.1 e i x m h le in
          low_open_form g (next (is_operator f) q) u.2 e m j t (and_one_if (is_operator f) round) base
          (base_then ts (is_operator f) p q (after solid (next (is_operator f) q) g) i m base round u.3 a b)
          (brackets_next ts (is_operator f) p q i m u.0 le a) (known_next (is_operator f) l q (known_form f p e i x m h known)) k depth s
      low_open_form (either f g) p fit e i j (inl h) round base b le known k depth s =
          let u = either_fits solid p f g fit in
          let o : constructs_in p ≡ 0 = ap constructs_in (outside_is p u.0) in
          low_open_form f outside u.1 e i j h round base (omega (arith, b, o)) (omega arith) (omega arith) k depth s
      low_open_form (either f g) p fit e i j (inr h) round base b le known k depth s =
          let u = either_fits solid p f g fit in
          let o : constructs_in p ≡ 0 = ap constructs_in (outside_is p u.0) in
          low_open_form g outside u.3 e i j h round base (omega (arith, b, o)) (omega arith) (omega arith) k depth s
      low_open_form (maybe f) p fit e i j h round base b le known k depth s = low_open_form f p (optional_fits solid p f fit).1 e i j h round base b le known k depth s
      low_open_form (nearest ws f) p fit e i j h round base b le known k depth s = low_open_form f p (optional_fits solid p f fit).1 e i j h round base b le known k depth s
      low_open_form (chain c d f g) p fit e i j (inl h) round base b le known k depth s = low_open_form f p (chain_fits solid p f g fit).1 e i j h round base b le known k depth s
      low_open_form (chain {s = a} {t = b2} {u} c d f g) p fit e i j (inr (v, m, h, inl o)) round base b le known k depth (inl s) = low_form {s = u} (chain c d f g) p fit e i v m h round base b le known k depth s
      low_open_form (chain {s = a} {t = b2} {u} c d f g) p fit e i j (inr (v, m, h, inl o)) round base b le known k depth (inr s) =
          let z = behind_chain a b2 u c d f g p fit e i v m h round base b le known in
          low_open_form g (after solid p f) (chain_fits solid p f g fit).3 e m j o round base z.0 z.1 z.2 k depth s
      low_open_form (chain {s = a} {t = b2} {u} c d f g) p fit e i j (inr (v, m, h, inr (x, n, t, o))) round base b le known k depth (inl s) = low_form {s = u} (chain c d f g) p fit e i v m h round base b le known k depth s
      low_open_form (chain {s = a} {t = b2} {u} c d f g) p fit e i j (inr (v, m, h, inr (x, n, t, o))) round base b le known k depth (inr (inl s)) =
          let z = behind_chain a b2 u c d f g p fit e i v m h round base b le known in
          low_form g (after solid p f) (chain_fits solid p f g fit).3 e m x n t round base z.0 z.1 z.2 k depth s
      low_open_form (chain {s = a} {t = b2} {u} c d f g) p fit e i j (inr (v, m, h, inr (x, n, t, o))) round base b le known k depth (inr (inr s)) =
          let z = behind_chain a b2 u c d f g p fit e i v m h round base b le known in
          let u = chain_fits solid p f g fit in
          let same : B ts n ≡ B ts m = kept (B ts m) g (after solid p f) e z.1 u.3 u.4 m x n t refl in
          low_open_form f (after solid p f) u.5 e n j o round base (subst (λ t. t + round ≡ base + constructs_in (after solid p f)) (sym same) z.0) (subst (λ t. brackets_in (after solid p f) ≤ t) (sym same) z.1) z.2 k depth s
      low_open_form (named n) p fit e i j h round base b le known k depth s = low_open n e i j h (and_one_if (is_single n) round) base (named_base ts p (is_single n) i base round fit b) k depth s
