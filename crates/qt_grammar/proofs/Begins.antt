-- Whether another terminal in the place of a refused token would be read there.
use Rattle.std.proofs.Common.{◌≡◌, ◌≢◌, ℕ, suc, ◌+◌, ◌≤◌, ◌<◌, inl, inr, Bool, true, false, List, length, Option, None, Result, Ok, Err, refl, sym, ◌∙◌, ap, subst, arith}
use Rattle.qt_terminals.specs.declared.terminal.Terminal.TheVariants as w
use Rattle.qt_terminals.specs.Terminals.{PlacedTerminal, stream, with_terminal}
use Rattle.qt_grammar.specs.declared.refusal.Refusal.{Refusal}
use Rattle.qt_grammar.specs.declared.refusal.Refusal.TheVariants.{Syntax, Nest, OutOfMemory}
use Rattle.qt_grammar.specs.Sorts.{Sort, Value, program}
use Rattle.qt_grammar.specs.Form.{Form, one, operator, counted, here, empty, as_tree, then_, either, maybe, nearest, chain, named, terminal_at}
use Rattle.qt_grammar.specs.Outcome.{Outcome, Tells}
use Rattle.qt_grammar.specs.Spelling.{Limits, OpensAtAll}
use Rattle.qt_grammar.proofs.Lists.{reading, past, same_before}
use Rattle.qt_grammar.specs.Lookahead.{first, nullable}
use Rattle.qt_grammar.specs.Language.{whole}
use Rattle.qt_grammar.specs.Promise.{CouldBegin}
use Rattle.qt_grammar.proofs.Sane.{same_or_before, reads-ahead}
use Rattle.qt_grammar.proofs.Munch.{Found, Held}
use Rattle.qt_grammar.proofs.LookaheadTests.{In, follow, good}
use Rattle.qt_grammar.proofs.Tables.{tested_whole}
use Rattle.qt_grammar.proofs.Named.{Reads, Opens, sound_form}
use Rattle.qt_grammar.proofs.Agree.{left_good, right_good, opens_before}
use Rattle.qt_grammar.proofs.Streams.{reads_alike, opens_alike}
use Rattle.qt_grammar.proofs.Limits.{W, larger, given, syntax_longest, syntax_none, opens_later}

-- the last part of a form is one token with one of some words
abbrev pub ends_by_token : {s : Sort} → Form s → Bool
ends_by_token (one ws) = true
ends_by_token (as_tree k f) = ends_by_token f
ends_by_token (then_ k f g) = ends_by_token g
ends_by_token (operator ws) = false
ends_by_token (counted f) = false
ends_by_token here = false
ends_by_token (empty x) = false
ends_by_token (either f g) = false
ends_by_token (maybe f) = false
ends_by_token (nearest ws f) = false
ends_by_token (chain a b f g) = false
ends_by_token (named n) = false

-- two streams that agree before place n
module _ (n : ℕ) (ts ts' : ℕ → PlacedTerminal) (agree : (k : ℕ) → k < n → ts k ≡ ts' k) where
  module _ (cap d : ℕ) where
    reads_on : {s : Sort} (f : Form s) → good f ≡ true → (e : Option ℕ) (i : ℕ) (v : Value s) (j : ℕ) → Reads ts cap d f e i v j → i ≤ j
    reads_on f h e i v j r = reads-ahead ts (Reads ts cap d f e) (Opens ts cap d f e) (In (first f)) (nullable f ≡ true) (In (follow f)) (sound_form ts cap d f h e) i v j r

    moves : {s : Sort} (f : Form s) → good f ≡ true → ends_by_token f ≡ true → (e : Option ℕ) (i : ℕ) (v : Value s) (j : ℕ) → Reads ts cap d f e i v j → i < j
    moves (one ws) h z e i v j r = omega (arith, r.2)
    moves (as_tree k f) h z e i v j r = moves f h z e i r.0 j r.1
    moves (then_ k f g) h z e i v j r =
        let a : i ≤ r.2 = reads_on f (left_good (good f) (good g) _ h) e i r.0 r.2 r.3 in
        let b : r.2 < j = moves g (right_good (good f) (good g) _ h) z e r.2 r.1 j r.4 in omega (arith, a, b)
    moves (operator ws) h z e i v j r = absurd (cc z)
    moves (counted f) h z e i v j r = absurd (cc z)
    moves here h z e i v j r = absurd (cc z)
    moves (empty x) h z e i v j r = absurd (cc z)
    moves (either f g) h z e i v j r = absurd (cc z)
    moves (maybe f) h z e i v j r = absurd (cc z)
    moves (nearest ws f) h z e i v j r = absurd (cc z)
    moves (chain a b f g) h z e i v j r = absurd (cc z)
    moves (named m) h z e i v j r = absurd (cc z)

    -- such a form is read alike up to the place itself
    pub closed_alike : {s : Sort} (f : Form s) → good f ≡ true → ends_by_token f ≡ true → (e : Option ℕ) (i : ℕ) (v : Value s) (j : ℕ) → j ≤ n → Reads ts cap d f e i v j → Reads ts' cap d f e i v j
    closed_alike (one ws) h z e i v j le r =
        let q : ts i ≡ ts' i = agree i (omega (arith, r.2, le)) in
        (subst (λ (t : PlacedTerminal). In ws (terminal_at (λ k. t) i)) q r.0, r.1 ∙ q, r.2)
    closed_alike (as_tree k f) h z e i v j le r = (r.0, closed_alike f h z e i r.0 j le r.1, r.2)
    closed_alike (then_ k f g) h z e i v j le r =
        let gf : good f ≡ true = left_good (good f) (good g) _ h in
        let gg : good g ≡ true = right_good (good f) (good g) _ h in
        let lt : r.2 < j = moves g gg z e r.2 r.1 j r.4 in
        (r.0, r.1, r.2, reads_alike n ts ts' agree cap d f gf e i r.0 r.2 (omega (arith, lt, le)) r.3, closed_alike g gg z e r.2 r.1 j le r.4, r.5)
    closed_alike (operator ws) h z e i v j le r = absurd (cc z)
    closed_alike (counted f) h z e i v j le r = absurd (cc z)
    closed_alike here h z e i v j le r = absurd (cc z)
    closed_alike (empty x) h z e i v j le r = absurd (cc z)
    closed_alike (either f g) h z e i v j le r = absurd (cc z)
    closed_alike (maybe f) h z e i v j le r = absurd (cc z)
    closed_alike (nearest ws f) h z e i v j le r = absurd (cc z)
    closed_alike (chain a b f g) h z e i v j le r = absurd (cc z)
    closed_alike (named m) h z e i v j le r = absurd (cc z)

-- the first stream is refused at place n; does the second one open the form with one token more?
module _ (n : ℕ) (ts ts' : ℕ → PlacedTerminal) (agree : (k : ℕ) → k < n → ts k ≡ ts' k) (turns : ℕ) (last : (i : ℕ) → turns ≤ i → terminal_at ts i ≡ 0) (turns' : ℕ) (last' : (i : ℕ) → turns' ≤ i → terminal_at ts' i ≡ 0)
    (l : Limits) (s : Sort) (f : Form s) (g : good f ≡ true) (e : Option ℕ) (i : ℕ) (refused : W ts turns last l.operators l.levels f e i ≡ Err (Syntax n)) where
  abbrev On : Outcome (Value s) → Type 0
  On out = W ts' turns' last' l.operators l.levels f e i ≡ out

  abbrev R' : Value s → ℕ → Type 0
  R' v j = Reads ts' l.operators l.levels f e i v j

  abbrev O' : ℕ → Type 0
  O' j = Opens ts' l.operators l.levels f e i j

  stopped : Held ts (Reads ts l.operators l.levels f e) (Opens ts l.operators l.levels f e) (In (follow f)) i n
  stopped = given ts turns last l.operators l.levels f g e i (Err (Syntax n)) refused

  -- the tokens before it open the form in the second stream too
  up_to : O' n
  up_to = opens_alike n ts ts' agree l.operators l.levels f g e i n (omega arith) stopped.opens

  one_more : (j : ℕ) → n < j → O' j → OpensAtAll ts' s f e i (n + 1)
  one_more j lt o =
      let a : i ≤ n = (sound_form ts' l.operators l.levels f g e).ahead i n up_to in
      (l, opens_before ts' l.operators l.levels f g e i j (n + 1) o (omega (arith, a)) (omega (arith, lt)))

  behind : (j : ℕ) → n ≤ j → (j ≡ n → ⊥) → n < j
  behind j le ne = elim (same_or_before n j le) [ inl q ↦ absurd (ne (sym q)) | inr lt ↦ lt ]

  pub never_begins : On (Err (Syntax n)) → OpensAtAll ts' s f e i (n + 1) → ⊥
  never_begins h o =
      let le : n + 1 ≤ n = syntax_longest ts' turns' last' f g e i l.operators l.levels (o.0).operators (o.0).levels n h (n + 1) o.1 in omega (arith, le)

  module _ (closed : ends_by_token f ≡ true) where
    read_on : (z : Value s × ℕ) → On (Ok z) → OpensAtAll ts' s f e i (n + 1)
    read_on z h =
        let k : Found ts' (Reads ts' l.operators l.levels f e) (Opens ts' l.operators l.levels f e) i z.0 z.1 = given ts' turns' last' l.operators l.levels f g e i (Ok z) h in
        one_more z.1 (behind z.1 (k.longest n up_to) (λ q. spelled (subst (λ t. R' z.0 t) q k.reads))) ((sound_form ts' l.operators l.levels f g e).whole i z.0 z.1 k.reads)
      where
        spelled : R' z.0 n → ⊥
        spelled r = syntax_none ts turns last f g e i l.operators l.levels l.operators l.levels n refused z.0
            (closed_alike n ts' ts (λ k lt. sym (agree k lt)) l.operators l.levels f g closed e i z.0 n (omega arith) r)

    pub begins : (out : Outcome (Value s)) → On out → out ≢ Err (Syntax n) → out ≢ Err OutOfMemory → OpensAtAll ts' s f e i (n + 1)
    begins (Ok z) h ne m = read_on z h
    begins (Err (Syntax j)) h ne m =
        let k : Held ts' (Reads ts' l.operators l.levels f e) (Opens ts' l.operators l.levels f e) (In (follow f)) i j = given ts' turns' last' l.operators l.levels f g e i (Err (Syntax j)) h in
        one_more j (behind j (k.longest n up_to) (λ q. ne (ap (λ t. let o : Outcome (Value s) = Err (Syntax t) in o) q))) k.opens
    begins (Err (Nest j)) h ne m =
        let k : Held ts' (Reads ts' l.operators l.levels f e) (Opens ts' l.operators l.levels f e) (In (follow f)) i j = given ts' turns' last' l.operators l.levels f g e i (Err (Nest j)) h in
        elim (same_or_before n j (k.longest n up_to)) [
          | inl q ↦ subst (λ t. OpensAtAll ts' s f e i (t + 1)) (sym q) (record { levels = suc l.levels; operators = larger ts' turns' last' l.operators j }, opens_later ts' turns' last' l.operators l.levels f g e i j h)
          | inr lt ↦ one_more j lt k.opens
        ]
    begins (Err OutOfMemory) h ne m = absurd (m refl)

-- ---- a program that was refused, read again with the terminal `barrier` at that place

-- what is told of a refusal
told : {A : Type 0} (out : Outcome A) (r : Result A Refusal) → Tells out r → r ≢ Err OutOfMemory → (x : Refusal) → out ≡ Err x → r ≡ Err x
told {A} out (Ok p) (j, h) m x q = absurd (differ (sym h ∙ q))
  where
    differ : (let o : Outcome A = Ok (p, j) in o) ≡ Err x → ⊥
    differ h = cc h
told {A} out (Err e) h m x q = same (sym (h (λ z. m (ap (λ t. let o : Result A Refusal = Err t in o) z))) ∙ q)
  where
    same : (let o : Outcome A = Err e in o) ≡ Err x → (let o : Result A Refusal = Err e in o) ≡ Err x
    same h = ap (λ (o : Outcome A). elim o as (λ _. Result A Refusal) [ Ok z ↦ Err e | Err y ↦ Err y ]) h

-- the whole of a program, as the parser reads it
abbrev pub Program-of : List PlacedTerminal → Limits → Outcome (Value program)
Program-of all l = reading all l whole None 0

module _ (all : List PlacedTerminal) (l : Limits) (n : ℕ) (refused : Program-of all l ≡ Err (Syntax n)) where
  abbrev changed : List PlacedTerminal
  changed = with_terminal all n w.Barrier

  could_begin-out : (out : Outcome (Value program)) → Program-of changed l ≡ out → out ≢ Err (Syntax n) → out ≢ Err OutOfMemory → CouldBegin all n
  unfolding reading
  could_begin-out out h ne m =
      begins n (stream all) (stream changed) (same_before all n w.Barrier) (length all) (past all) (length changed) (past changed) l program whole tested_whole None 0 refused refl out h ne m

  pub could_begin : (r : Result (Value program) Refusal) → Tells (Program-of changed l) r → r ≢ Err (Syntax n) → r ≢ Err OutOfMemory → CouldBegin all n
  could_begin r h ne m =
      could_begin-out (Program-of changed l) refl (λ q. ne (told (Program-of changed l) r h m (Syntax n) q)) (λ q. m (told (Program-of changed l) r h m OutOfMemory q))

  pub could_not_begin : Program-of changed l ≡ Err (Syntax n) → CouldBegin all n → ⊥
  unfolding reading
  could_not_begin h o = never_begins n (stream all) (stream changed) (same_before all n w.Barrier) (length all) (past all) (length changed) (past changed) l program whole tested_whole None 0 refused h o
