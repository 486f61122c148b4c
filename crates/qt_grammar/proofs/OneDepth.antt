-- A token that is spelled, or opened, stands at one depth, and is one of the form's tokens.
use Rattle.std.proofs.Common.{◌≡◌, ℕ, zero, suc, ◌+◌, ◌≤◌, ◌<◌, ◌⊎◌, inl, inr, Option, sym, ◌∙◌, arith}
use Rattle.qt_terminals.specs.Terminals.{PlacedTerminal}
use Rattle.qt_grammar.specs.Sorts.{Sort, Value, Name, sort}
use Rattle.qt_grammar.specs.Form.{Form, one, operator, counted, here, empty, as_tree, then_, either, maybe, nearest, chain, named, begun, Reading, Opening, ReadsBy, OpensBy, ReadsThen, ReadsMore, pair_of, stepped}
use Rattle.qt_grammar.specs.Language.{rule}
use Rattle.qt_grammar.specs.Spelling.{ReadsTo, OpensTo}
use Rattle.qt_grammar.specs.Depth.{brackets_round, is_operator, is_single, and_one_if, Standing, Stands, StandsInMore, StandsOpen, StandsTo, StandsOpenTo}
use Rattle.qt_grammar.specs.Lookahead.{first_of}
use Rattle.qt_grammar.proofs.Sane.{reads-ahead}
use Rattle.qt_grammar.proofs.LookaheadTests.{In, follow_of}
use Rattle.qt_grammar.proofs.Named.{Reads, Opens, sane_to}

-- the token stands between two places, at one depth
pub record OnceIn (stands : Standing) (i j : ℕ) : Type 0 where
  pub from : (k depth : ℕ) → stands k depth → i ≤ k
  pub up_to : (k depth : ℕ) → stands k depth → k < j
  pub once : (k a b : ℕ) → stands k a → stands k b → a ≡ b

never : (stands : Standing) (i j : ℕ) → ((k depth : ℕ) → stands k depth → ⊥) → OnceIn stands i j
never stands i j n = record { from = λ k depth s. absurd (n k depth s); up_to = λ k depth s. absurd (n k depth s); once = λ k a b s t. absurd (n k a s) }

in_both : (p q : Standing) (i m j : ℕ) → i ≤ m → m ≤ j → OnceIn p i m → OnceIn q m j → OnceIn (λ k depth. p k depth ⊎ q k depth) i j
in_both p q i m j a b x y = record {
  from = λ k depth s. elim s [ inl t ↦ x.from k depth t | inr t ↦ let l : m ≤ k = y.from k depth t in omega (arith, a, l) ];
  up_to = λ k depth s. elim s [ inl t ↦ let l : k < m = x.up_to k depth t in omega (arith, b, l) | inr t ↦ y.up_to k depth t ];
  once = λ k c d s t. elim s [
    | inl u ↦ elim t [ inl v ↦ x.once k c d u v | inr v ↦ let l : k < m = x.up_to k c u in let g : m ≤ k = y.from k d v in absurd (omega (arith, l, g)) ]
    | inr u ↦ elim t [ inl v ↦ let l : k < m = x.up_to k d v in let g : m ≤ k = y.from k c u in absurd (omega (arith, l, g)) | inr v ↦ y.once k c d u v ]
  ];
}

more_once : {C D : Type 0} (step : D → C → D) (q : Reading C) (stands : (i : ℕ) (y : C) (j : ℕ) → q i y j → Standing) → ((i : ℕ) (y : C) (j : ℕ) → q i y j → i ≤ j) → ((i : ℕ) (y : C) (j : ℕ) (h : q i y j) → OnceIn (stands i y j h) i j)
    → (n : ℕ) (c : D) (i : ℕ) (v : D) (j : ℕ) (h : ReadsMore step q n c i v j) → (i ≤ j) × OnceIn (StandsInMore step q stands n c i v j h) i j
more_once step q stands ahead item zero c i v j h = (omega (arith, h.1), never (StandsInMore step q stands 0 c i v j h) i j (λ k depth s. s))
more_once step q stands ahead item (suc n) c i v j (y, m, h, t) =
    let a : i ≤ m = ahead i y m h in
    let z = more_once step q stands ahead item n (step c y) m v j t in
    let b : m ≤ j = z.0 in
    (omega (arith, a, b), in_both (stands i y m h) (StandsInMore step q stands n (step c y) m v j t) i m j a b (item i y m h) z.1)

module _ (ts : ℕ → PlacedTerminal) (cap : ℕ) where
  token_once : (i j round : ℕ) → j ≡ i + 1 → OnceIn (λ k depth. (k ≡ i) × (depth ≡ round + brackets_round ts i)) i j
  token_once i j round e = record { from = λ k depth s. omega (arith, s.0); up_to = λ k depth s. omega (arith, s.0, e); once = λ k a b s t. s.1 ∙ sym t.1 }

  module _ (reads : (n : Name) → Option ℕ → Reading (Value (sort n))) (stands : (n : Name) (e : Option ℕ) (i : ℕ) (v : Value (sort n)) (j : ℕ) → reads n e i v j → ℕ → Standing)
      (ahead : (n : Name) (e : Option ℕ) (i : ℕ) (v : Value (sort n)) (j : ℕ) → reads n e i v j → i ≤ j)
      (item : (n : Name) (e : Option ℕ) (i : ℕ) (v : Value (sort n)) (j : ℕ) (h : reads n e i v j) (round : ℕ) → OnceIn (stands n e i v j h round) i j) where
    abbrev R : {s : Sort} → Form s → Option ℕ → Reading (Value s)
    R f e = ReadsBy ts cap reads f e

    abbrev S : {s : Sort} (f : Form s) (e : Option ℕ) (i : ℕ) (v : Value s) (j : ℕ) → R f e i v j → ℕ → Standing
    S f e i v j h = Stands ts cap reads stands f e i v j h

    more_ahead : {C D : Type 0} (step : D → C → D) (q : Reading C) → ((i : ℕ) (y : C) (j : ℕ) → q i y j → i ≤ j) → (n : ℕ) (c : D) (i : ℕ) (v : D) (j : ℕ) → ReadsMore step q n c i v j → i ≤ j
    more_ahead step q a zero c i v j h = omega (arith, h.1)
    more_ahead step q a (suc n) c i v j (y, m, h, t) = let x : i ≤ m = a i y m h in let z : m ≤ j = more_ahead step q a n (step c y) m v j t in omega (arith, x, z)

    pub ahead_form : {s : Sort} (f : Form s) (e : Option ℕ) (i : ℕ) (v : Value s) (j : ℕ) → R f e i v j → i ≤ j
    ahead_form (one ws) e i v j h = omega (arith, h.2)
    ahead_form (operator ws) e i v j h = omega (arith, h.3)
    ahead_form (counted f) e i v j h = ahead_form f (begun ts e i) i v j h
    ahead_form here e i v j h = omega (arith, h.1)
    ahead_form (empty x) e i v j h = omega (arith, h.1)
    ahead_form (as_tree c f) e i v j (x, h, z) = ahead_form f e i x j h
    ahead_form (then_ c f g) e i v j (x, y, m, p, q, z) = let a : i ≤ m = ahead_form f e i x m p in let b : m ≤ j = ahead_form g e m y j q in omega (arith, a, b)
    ahead_form (either f g) e i v j (inl h) = ahead_form f e i v j h
    ahead_form (either f g) e i v j (inr h) = ahead_form g e i v j h
    ahead_form (maybe f) e i v j (inl (x, h, z)) = ahead_form f e i x j h
    ahead_form (maybe f) e i v j (inr h) = omega (arith, h.1)
    ahead_form (nearest ws f) e i v j (inl (x, h, z)) = ahead_form f e i x j h
    ahead_form (nearest ws f) e i v j (inr h) = omega (arith, h.1)
    ahead_form (chain c d f g) e i v j (x, m, n, p, t) =
        let a : i ≤ m = ahead_form f e i x m p in
        let b : m ≤ j =
        more_ahead (stepped d) (ReadsThen pair_of (R g e) (R f e))
        (λ i y j h. let a : i ≤ h.2 = ahead_form g e i h.0 h.2 h.3 in let b : h.2 ≤ j = ahead_form f e h.2 h.1 j h.4 in omega (arith, a, b)) n (c x) m v j t in
        omega (arith, a, b)
    ahead_form (named n) e i v j h = ahead n e i v j h

    pub once_form : {s : Sort} (f : Form s) (e : Option ℕ) (i : ℕ) (v : Value s) (j : ℕ) (h : R f e i v j) (round : ℕ) → OnceIn (S f e i v j h round) i j
    once_form (one ws) e i v j h round = token_once i j round h.2
    once_form (operator ws) e i v j h round = token_once i j round h.3
    once_form (counted f) e i v j h round = once_form f (begun ts e i) i v j h round
    once_form here e i v j h round = never (S here e i v j h round) i j (λ k depth s. s)
    once_form (empty x) e i v j h round = never (S (empty x) e i v j h round) i j (λ k depth s. s)
    once_form (as_tree c f) e i v j (x, h, z) round = once_form f e i x j h round
    once_form (then_ c f g) e i v j (x, y, m, p, q, z) round =
        in_both (S f e i x m p round) (S g e m y j q (and_one_if (is_operator f) round)) i m j (ahead_form f e i x m p) (ahead_form g e m y j q) (once_form f e i x m p round) (once_form g e m y j q (and_one_if (is_operator f) round))
    once_form (either f g) e i v j (inl h) round = once_form f e i v j h round
    once_form (either f g) e i v j (inr h) round = once_form g e i v j h round
    once_form (maybe f) e i v j (inl (x, h, z)) round = once_form f e i x j h round
    once_form (maybe f) e i v j (inr h) round = never (S (maybe f) e i v j (inr h) round) i j (λ k depth s. s)
    once_form (nearest ws f) e i v j (inl (x, h, z)) round = once_form f e i x j h round
    once_form (nearest ws f) e i v j (inr h) round = never (S (nearest ws f) e i v j (inr h) round) i j (λ k depth s. s)
    once_form (chain {s = a} {t = b} {u} c d f g) e i v j (x, m, n, p, t) round =
        let z =
        more_once (stepped d) (ReadsThen pair_of (R g e) (R f e)) (λ i z j h k depth. S g e i h.0 h.2 h.3 round k depth ⊎ S f e h.2 h.1 j h.4 round k depth)
        (λ i y j h. let a : i ≤ h.2 = ahead_form g e i h.0 h.2 h.3 in let b : h.2 ≤ j = ahead_form f e h.2 h.1 j h.4 in omega (arith, a, b))
        (λ i y j h. in_both (S g e i h.0 h.2 h.3 round) (S f e h.2 h.1 j h.4 round) i h.2 j (ahead_form g e i h.0 h.2 h.3) (ahead_form f e h.2 h.1 j h.4) (once_form g e i h.0 h.2 h.3 round) (once_form f e h.2 h.1 j h.4 round))
        n (c x) m v j t in
        in_both (S f e i x m p round)
        (StandsInMore (stepped d) (ReadsThen pair_of (R g e) (R f e)) (λ i z j h k depth. S g e i h.0 h.2 h.3 round k depth ⊎ S f e h.2 h.1 j h.4 round k depth) n (c x) m v j t)
        i m j (ahead_form f e i x m p) z.0 (once_form f e i x m p round) z.1
    once_form (named n) e i v j h round = item n e i v j h (and_one_if (is_single n) round)

    module _ (opens : (n : Name) → Option ℕ → Opening) (stands_open : (n : Name) (e : Option ℕ) (i j : ℕ) → opens n e i j → ℕ → Standing)
        (ahead_open : (n : Name) (e : Option ℕ) (i j : ℕ) → opens n e i j → i ≤ j)
        (item_open : (n : Name) (e : Option ℕ) (i j : ℕ) (h : opens n e i j) (round : ℕ) → OnceIn (stands_open n e i j h round) i j) where
      abbrev O : {s : Sort} → Form s → Option ℕ → Opening
      O f e = OpensBy ts cap reads opens f e

      abbrev SO : {s : Sort} (f : Form s) (e : Option ℕ) (i j : ℕ) → O f e i j → ℕ → Standing
      SO f e i j h = StandsOpen ts cap reads stands opens stands_open f e i j h

      pub ahead_open_form : {s : Sort} (f : Form s) (e : Option ℕ) (i j : ℕ) → O f e i j → i ≤ j
      ahead_open_form (one ws) e i j (inl h) = omega (arith, h)
      ahead_open_form (one ws) e i j (inr h) = omega (arith, h.0)
      ahead_open_form (operator ws) e i j (inl h) = omega (arith, h)
      ahead_open_form (operator ws) e i j (inr h) = omega (arith, h.0)
      ahead_open_form (counted f) e i j h = ahead_open_form f (begun ts e i) i j h
      ahead_open_form here e i j h = omega (arith, h)
      ahead_open_form (empty x) e i j h = omega (arith, h)
      ahead_open_form (as_tree c f) e i j h = ahead_open_form f e i j h
      ahead_open_form (then_ c f g) e i j (inl h) = ahead_open_form f e i j h
      ahead_open_form (then_ c f g) e i j (inr (x, m, p, o)) = let a : i ≤ m = ahead_form f e i x m p in let b : m ≤ j = ahead_open_form g e m j o in omega (arith, a, b)
      ahead_open_form (either f g) e i j (inl h) = ahead_open_form f e i j h
      ahead_open_form (either f g) e i j (inr h) = ahead_open_form g e i j h
      ahead_open_form (maybe f) e i j h = ahead_open_form f e i j h
      ahead_open_form (nearest ws f) e i j h = ahead_open_form f e i j h
      ahead_open_form (chain c d f g) e i j (inl h) = ahead_open_form f e i j h
      ahead_open_form (chain {s = a} {t = b} {u} c d f g) e i j (inr (v, m, p, inl o)) = let a : i ≤ m = ahead_form {s = u} (chain c d f g) e i v m p in let b : m ≤ j = ahead_open_form g e m j o in omega (arith, a, b)
      ahead_open_form (chain {s = a} {t = b} {u} c d f g) e i j (inr (v, m, p, inr (x, n, q, o))) =
          let a : i ≤ m = ahead_form {s = u} (chain c d f g) e i v m p in
          let b : m ≤ n = ahead_form g e m x n q in
          let c : n ≤ j = ahead_open_form f e n j o in omega (arith, a, b, c)
      ahead_open_form (named n) e i j h = ahead_open n e i j h

      pub once_open_form : {s : Sort} (f : Form s) (e : Option ℕ) (i j : ℕ) (h : O f e i j) (round : ℕ) → OnceIn (SO f e i j h round) i j
      once_open_form (one ws) e i j (inl h) round = never (SO (one ws) e i j (inl h) round) i j (λ k depth s. s)
      once_open_form (one ws) e i j (inr h) round = token_once i j round h.0
      once_open_form (operator ws) e i j (inl h) round = never (SO (operator ws) e i j (inl h) round) i j (λ k depth s. s)
      once_open_form (operator ws) e i j (inr h) round = token_once i j round h.0
      once_open_form (counted f) e i j h round = once_open_form f (begun ts e i) i j h round
      once_open_form here e i j h round = never (SO here e i j h round) i j (λ k depth s. s)
      once_open_form (empty {s = a} x) e i j h round = never (SO {s = a} (empty x) e i j h round) i j (λ k depth s. s)
      once_open_form (as_tree c f) e i j h round = once_open_form f e i j h round
      once_open_form (then_ c f g) e i j (inl h) round = once_open_form f e i j h round
      once_open_form (then_ c f g) e i j (inr (x, m, p, o)) round =
          in_both (S f e i x m p round) (SO g e m j o (and_one_if (is_operator f) round)) i m j (ahead_form f e i x m p) (ahead_open_form g e m j o) (once_form f e i x m p round) (once_open_form g e m j o (and_one_if (is_operator f) round))
      once_open_form (either f g) e i j (inl h) round = once_open_form f e i j h round
      once_open_form (either f g) e i j (inr h) round = once_open_form g e i j h round
      once_open_form (maybe f) e i j h round = once_open_form f e i j h round
      once_open_form (nearest ws f) e i j h round = once_open_form f e i j h round
      once_open_form (chain c d f g) e i j (inl h) round = once_open_form f e i j h round
      once_open_form (chain {s = a} {t = b} {u} c d f g) e i j (inr (v, m, p, inl o)) round =
          in_both (S {s = u} (chain c d f g) e i v m p round) (SO g e m j o round) i m j (ahead_form {s = u} (chain c d f g) e i v m p) (ahead_open_form g e m j o) (once_form {s = u} (chain c d f g) e i v m p round) (once_open_form g e m j o round)
      once_open_form (chain {s = a} {t = b} {u} c d f g) e i j (inr (v, m, p, inr (x, n, q, o))) round =
          let le : n ≤ j = ahead_open_form f e n j o in
          let before : m ≤ n = ahead_form g e m x n q in
          in_both (S {s = u} (chain c d f g) e i v m p round) (λ k depth. S g e m x n q round k depth ⊎ SO f e n j o round k depth) i m j (ahead_form {s = u} (chain c d f g) e i v m p) (omega (arith, le, before))
          (once_form {s = u} (chain c d f g) e i v m p round)
          (in_both (S g e m x n q round) (SO f e n j o round) m n j before le (once_form g e m x n q round) (once_open_form f e n j o round))
      once_open_form (named n) e i j h round = item_open n e i j h (and_one_if (is_single n) round)

  -- ---- a form with a name, and any form

  ahead_to : (d : ℕ) (n : Name) (e : Option ℕ) (i : ℕ) (v : Value (sort n)) (j : ℕ) → ReadsTo ts cap d n e i v j → i ≤ j
  ahead_to d n e i v j h = reads-ahead ts (ReadsTo ts cap d n e) (OpensTo ts cap d n e) (In (first_of n)) ⊥ (In (follow_of n)) (sane_to ts cap d n e) i v j h

  ahead_open_to : (d : ℕ) (n : Name) (e : Option ℕ) (i j : ℕ) → OpensTo ts cap d n e i j → i ≤ j
  ahead_open_to d n e i j h = (sane_to ts cap d n e).ahead i j h

  once_to : (d : ℕ) (n : Name) (e : Option ℕ) (i : ℕ) (v : Value (sort n)) (j : ℕ) (h : ReadsTo ts cap d n e i v j) (round : ℕ) → OnceIn (StandsTo ts cap d n e i v j h round) i j
  once_to zero n e i v j h round = absurd h
  once_to (suc d) n e i v j h round = once_form (ReadsTo ts cap d) (StandsTo ts cap d) (ahead_to d) (once_to d) (rule n) e i v j h round

  once_open_to : (d : ℕ) (n : Name) (e : Option ℕ) (i j : ℕ) (h : OpensTo ts cap d n e i j) (round : ℕ) → OnceIn (StandsOpenTo ts cap d n e i j h round) i j
  once_open_to zero n e i j h round = never (StandsOpenTo ts cap 0 n e i j h round) i j (λ k depth s. s)
  once_open_to (suc d) n e i j h round =
      once_open_form (ReadsTo ts cap d) (StandsTo ts cap d) (ahead_to d) (once_to d) (OpensTo ts cap d) (StandsOpenTo ts cap d) (ahead_open_to d) (once_open_to d) (rule n) e i j h round

  pub once_reads : {s : Sort} (f : Form s) (e : Option ℕ) (i d : ℕ) (v : Value s) (j : ℕ) (h : Reads ts cap d f e i v j) → OnceIn (Stands ts cap (ReadsTo ts cap d) (StandsTo ts cap d) f e i v j h 0) i j
  once_reads f e i d v j h = once_form (ReadsTo ts cap d) (StandsTo ts cap d) (ahead_to d) (once_to d) f e i v j h 0

  pub once_opens : {s : Sort} (f : Form s) (e : Option ℕ) (i d j : ℕ) (h : Opens ts cap d f e i j) → OnceIn (StandsOpen ts cap (ReadsTo ts cap d) (StandsTo ts cap d) (OpensTo ts cap d) (StandsOpenTo ts cap d) f e i j h 0) i j
  once_opens f e i d j h = once_open_form (ReadsTo ts cap d) (StandsTo ts cap d) (ahead_to d) (once_to d) (OpensTo ts cap d) (StandsOpenTo ts cap d) (ahead_open_to d) (once_open_to d) f e i j h 0
