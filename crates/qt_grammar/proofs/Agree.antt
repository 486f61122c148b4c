-- What opens a form up to a place depends on the tokens before that place alone; and what opens it, opens it at each place on
-- the way.
use Rattle.std.proofs.Common.{◌≡◌, ℕ, zero, suc, ◌+◌, ◌≤◌, ◌<◌, ◌⊎◌, inl, inr, Bool, true, ◌&&◌, not, IsTrue, Option, refl, sym, subst, arith}
use Rattle.qt_terminals.specs.Terminals.{PlacedTerminal}
use Rattle.qt_grammar.specs.Sorts.{Sort, Value, Name, sort}
use Rattle.qt_grammar.specs.Form.{Form, one, operator, counted, here, empty, as_tree, then_, either, maybe, nearest, chain, named, member, terminal_at, begun, Reading, Opening, ReadsBy, OpensBy, ReadsThen, OpensThen, ReadsMore, OpensChain, pair_of, stepped}
use Rattle.qt_grammar.specs.Lookahead.{first, nullable, first_of}
use Rattle.qt_grammar.specs.Language.{rule}
use Rattle.qt_grammar.specs.Spelling.{ReadsTo, OpensTo}
use Rattle.qt_grammar.proofs.Sane.{Sane, same_or_before}
use Rattle.qt_grammar.proofs.LookaheadTests.{In, and_left, and_right, follow, follow_of, good}
use Rattle.qt_grammar.proofs.Forms.{Sound, sound}
use Rattle.qt_grammar.proofs.Tables.{tested}
use Rattle.qt_grammar.proofs.Named.{Opens, sane_to}

le_or_lt : (k m : ℕ) → (k ≤ m) ⊎ (m < k)
le_or_lt k m = grind arith

-- what is read is opened, and no reading goes back
abbrev pub Whole : {A : Type 0} → Reading A → Opening → Type 0
Whole {A} r o = (i : ℕ) (v : A) (j : ℕ) → r i v j → o i j

abbrev pub Onwards : Opening → Type 0
Onwards o = (i j : ℕ) → o i j → i ≤ j

-- ---- each place on the way

abbrev pub Prefix : Opening → Type 0
Prefix o = (i j k : ℕ) → o i j → i ≤ k → k ≤ j → o i k

prefix_then : {A : Type 0} (r : Reading A) (p q : Opening) → Whole r p → Prefix p → Prefix q → Prefix (OpensThen r p q)
prefix_then r p q w pp pq i j k (inl h) a b = inl (pp i j k h a b)
prefix_then r p q w pp pq i j k (inr (x, m, h, o)) a b = elim (le_or_lt k m) [
  | inl le ↦ inl (pp i m k (w i x m h) a le)
  | inr lt ↦ inr (x, m, h, pq m j k o (omega (arith, lt)) b)
]

prefix_more : {B C : Type 0} (step : C → B → C) (q : Reading B) (qo : Opening) → Whole q qo → Prefix qo → ((i : ℕ) → qo i i) → (n : ℕ) (c : C) (i : ℕ) (v : C) (m k : ℕ) → ReadsMore step q n c i v m → i ≤ k → k ≤ m
    → (l : ℕ) × (u : C) × (h : ℕ) × ReadsMore step q l c i u h × qo h k
prefix_more step q qo w pq nil zero c i v m k (e, f) a b = (0, c, i, (refl, refl), subst (λ t. qo i t) (omega (arith, f, a, b)) (nil i))
prefix_more step q qo w pq nil (suc n) c i v m k (y, m1, r, t) a b = elim (le_or_lt k m1) [
  | inl le ↦ (0, c, i, (refl, refl), pq i m1 k (w i y m1 r) a le)
  | inr lt ↦
      let z = prefix_more step q qo w pq nil n (step c y) m1 v m k t (omega (arith, lt)) b in
      (suc z.0, z.1, z.2, (y, m1, r, z.3), z.4)
]

prefix_chain : {A B C : Type 0} (first : A → C) (step : C → B → A → C) (r : Reading A) (s : Reading B) (p q : Opening) → Whole r p → Prefix p → ((i : ℕ) → p i i) → Whole s q → Prefix q → ((i : ℕ) → q i i)
    → Onwards p → Prefix (OpensChain first step r s p q)
prefix_chain first step r s p q wr pp np ws pq nq on i j k (inl h) a b = inl (pp i j k h a b)
prefix_chain first step r s p q wr pp np ws pq nq on i j k (inr (v, m, (x, m0, n, h, t), o)) a b = elim (le_or_lt k m) [
  | inl le ↦ elim (le_or_lt k m0) [
    | inl before ↦ inl (pp i m0 k (wr i x m0 h) a before)
    | inr behind ↦
        let z = prefix_more (stepped step) (ReadsThen pair_of s r) (OpensThen s q p) (λ i y j g. inr (g.0, g.2, g.3, wr g.2 g.1 j g.4)) (prefix_then s q p ws pq pp) (λ i. inl (nq i)) n (first x) m0 v m k t (omega (arith, behind)) le in
        inr (z.1, z.2, (x, m0, z.0, h, z.3), z.4)
  ]
  | inr lt ↦ inr (v, m, (x, m0, n, h, t), prefix_then s q p ws pq pp m j k o (omega (arith, lt)) b)
]

-- the parts of a test
pub left_good : (a b c : Bool) → ((a && b) && c) ≡ true → a ≡ true
left_good a b c h = and_left a b (and_left (a && b) c h)

pub right_good : (a b c : Bool) → ((a && b) && c) ≡ true → b ≡ true
right_good a b c h = and_right a b (and_left (a && b) c h)

module _ (ts : ℕ → PlacedTerminal) (cap : ℕ) where
  module _ (named_reads : (n : Name) → Option ℕ → Reading (Value (sort n))) (named_opens : (n : Name) → Option ℕ → Opening)
      (named_sane : (n : Name) (e : Option ℕ) → Sane ts (named_reads n e) (named_opens n e) (In (first_of n)) ⊥ (In (follow_of n)))
      (named_prefix : (n : Name) (e : Option ℕ) → Prefix (named_opens n e)) where
    abbrev R : {s : Sort} → Form s → Option ℕ → Reading (Value s)
    R f e = ReadsBy ts cap named_reads f e

    abbrev O : {s : Sort} → Form s → Option ℕ → Opening
    O f e = OpensBy ts cap named_reads named_opens f e

    sane : {s : Sort} (f : Form s) → good f ≡ true → (e : Option ℕ) → Sound ts (R f e) (O f e) (first f) (nullable f) (follow f)
    sane f h e = sound ts cap named_reads named_opens named_sane f h e

    prefix_one : (P : Type 0) (i j k : ℕ) → (j ≡ i) ⊎ ((j ≡ i + 1) × P) → i ≤ k → k ≤ j → (k ≡ i) ⊎ ((k ≡ i + 1) × P)
    prefix_one P i j k (inl e) a b = inl (omega (arith, e, a, b))
    prefix_one P i j k (inr z) a b = elim (same_or_before i k a) [ inl e ↦ inl (sym e) | inr lt ↦ inr (omega (arith, z.0, lt, b), z.1) ]

    prefix_here : (i j k : ℕ) → j ≡ i → i ≤ k → k ≤ j → k ≡ i
    prefix_here i j k e a b = omega (arith, e, a, b)

    pub prefix_form : {s : Sort} (f : Form s) → good f ≡ true → (e : Option ℕ) → Prefix (O f e)
    prefix_form (one ws) h e i j k o a b = prefix_one (IsTrue (member (terminal_at ts i) ws)) i j k o a b
    prefix_form (operator ws) h e i j k (inl o) a b = inl (prefix_here i j k o a b)
    prefix_form (operator ws) h e i j k (inr o) a b = elim (same_or_before i k a) [ inl z ↦ inl (sym z) | inr lt ↦ inr (omega (arith, o.0, lt, b), o.1, o.2) ]
    prefix_form (counted f) h e i j k o a b = prefix_form f h (begun ts e i) i j k o a b
    prefix_form here h e i j k o a b = prefix_here i j k o a b
    prefix_form (empty x) h e i j k o a b = prefix_here i j k o a b
    prefix_form (as_tree k f) h e i j l o a b = prefix_form f h e i j l o a b
    prefix_form (then_ k f g) h e i j l o a b =
        let gf : good f ≡ true = left_good (good f) (good g) _ h in
        let gg : good g ≡ true = right_good (good f) (good g) _ h in
        prefix_then (R f e) (O f e) (O g e) ((sane f gf e).whole) (prefix_form f gf e) (prefix_form g gg e) i j l o a b
    prefix_form (either f g) h e i j k (inl o) a b = inl (prefix_form f (left_good (good f) (good g) _ h) e i j k o a b)
    prefix_form (either f g) h e i j k (inr o) a b = inr (prefix_form g (right_good (good f) (good g) _ h) e i j k o a b)
    prefix_form (maybe f) h e i j k o a b = prefix_form f (and_left (good f) _ h) e i j k o a b
    prefix_form (nearest ws f) h e i j k o a b = prefix_form f (left_good (good f) (not (nullable f)) _ h) e i j k o a b
    prefix_form (chain init step f g) h e i j k o a b =
        let gf : good f ≡ true = left_good (good f) (good g) _ h in
        let gg : good g ≡ true = right_good (good f) (good g) _ h in
        prefix_chain init step (R f e) (R g e) (O f e) (O g e) ((sane f gf e).whole) (prefix_form f gf e) ((sane f gf e).nil) ((sane g gg e).whole) (prefix_form g gg e) ((sane g gg e).nil) ((sane f gf e).ahead) i j k o a b
    prefix_form (named n) h e i j k o a b = named_prefix n e i j k o a b

  prefix_to : (d : ℕ) (n : Name) (e : Option ℕ) → Prefix (OpensTo ts cap d n e)
  prefix_to zero n e i j k o a b = omega (arith, o, a, b)
  prefix_to (suc d) n e i j k o a b = prefix_form (ReadsTo ts cap d) (OpensTo ts cap d) (sane_to ts cap d) (prefix_to d) (rule n) (tested n) e i j k o a b

  -- what opens a form opens it at each place on the way
  pub opens_before : (d : ℕ) {s : Sort} (f : Form s) → good f ≡ true → (e : Option ℕ) → Prefix (Opens ts cap d f e)
  opens_before d f h e i j k o a b = prefix_form (ReadsTo ts cap d) (OpensTo ts cap d) (sane_to ts cap d) (prefix_to d) f h e i j k o a b
