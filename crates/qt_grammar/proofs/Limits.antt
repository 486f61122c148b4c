-- What reading a form of the tested grammar says of all limits.
use Rattle.std.proofs.Common.{◌≡◌, ℕ, zero, suc, ◌+◌, ◌≤◌, inl, inr, max, Bool, true, false, cond, Option, Ok, Err, refl, sym, ◌∙◌, ap, subst, arith}
use Rattle.qt_terminals.specs.Terminals.{PlacedTerminal}
use Rattle.qt_grammar.specs.declared.refusal.Refusal.TheVariants.{Syntax, Nest}
use Rattle.qt_grammar.specs.Sorts.{Sort, Value, Name, sort}
use Rattle.qt_grammar.specs.Form.{Form, member, terminal_at}
use Rattle.qt_grammar.specs.Outcome.{Outcome}
use Rattle.qt_grammar.specs.Language.{rule}
use Rattle.qt_grammar.specs.Lookahead.{first, nullable, first_of}
use Rattle.qt_grammar.specs.Spelling.{ReadsTo, OpensTo}
use Rattle.qt_grammar.specs.Reading.{run, run_to}
use Rattle.qt_grammar.proofs.Munch.{Found, Held, Gives}
use Rattle.qt_grammar.proofs.LookaheadTests.{In, subset_sound, not_true, follow, good}
use Rattle.qt_grammar.proofs.Tables.{tested, solid_rule, first_rule, rule_first, direct_rule}
use Rattle.qt_grammar.proofs.Named.{Reads, Opens, sane_to, gives_to, gives_form}
use Rattle.qt_grammar.proofs.Stuck.{Moved, NoTree}
use Rattle.qt_grammar.proofs.Refused.{moves_form, none_form}
use Rattle.qt_grammar.proofs.Depth.{reads_up, opens_up, Calm, calm_form, refuses_form, starts, onward, outside}

module _ (ts : ℕ → PlacedTerminal) where
  module _ (cap cap' : ℕ) (le : cap ≤ cap') where
    pub reads_to_up : (d d' : ℕ) → d ≤ d' → (n : Name) (e : Option ℕ) (i : ℕ) (v : Value (sort n)) (j : ℕ) → ReadsTo ts cap d n e i v j → ReadsTo ts cap' d' n e i v j
    reads_to_up zero d' l n e i v j h = absurd h
    reads_to_up (suc d) zero l n e i v j h = absurd (omega (arith, l))
    reads_to_up (suc d) (suc d') l n e i v j h = reads_up ts cap cap' le (ReadsTo ts cap d) (ReadsTo ts cap' d') (reads_to_up d d' (omega (arith, l))) (rule n) e i v j h

    pub opens_to_up : (d d' : ℕ) → d ≤ d' → (n : Name) (e : Option ℕ) (i j : ℕ) → OpensTo ts cap d n e i j → OpensTo ts cap' d' n e i j
    opens_to_up zero d' l n e i j h = subst (λ t. OpensTo ts cap' d' n e i t) (sym h) ((sane_to ts cap' d' n e).nil i)
    opens_to_up (suc d) zero l n e i j h = absurd (omega (arith, l))
    opens_to_up (suc d) (suc d') l n e i j h =
        opens_up ts cap cap' le (ReadsTo ts cap d) (ReadsTo ts cap' d') (reads_to_up d d' (omega (arith, l))) (OpensTo ts cap d) (OpensTo ts cap' d') (opens_to_up d d' (omega (arith, l))) (rule n) e i j h

    -- within larger limits more is read
    pub reads_more : (d d' : ℕ) → d ≤ d' → {s : Sort} (f : Form s) (e : Option ℕ) (i : ℕ) (v : Value s) (j : ℕ) → Reads ts cap d f e i v j → Reads ts cap' d' f e i v j
    reads_more d d' l f e i v j h = reads_up ts cap cap' le (ReadsTo ts cap d) (ReadsTo ts cap' d') (reads_to_up d d' l) f e i v j h

    pub opens_more : (d d' : ℕ) → d ≤ d' → {s : Sort} (f : Form s) (e : Option ℕ) (i j : ℕ) → Opens ts cap d f e i j → Opens ts cap' d' f e i j
    opens_more d d' l f e i j h = opens_up ts cap cap' le (ReadsTo ts cap d) (ReadsTo ts cap' d') (reads_to_up d d' l) (OpensTo ts cap d) (OpensTo ts cap' d') (opens_to_up d d' l) f e i j h

  module _ (turns : ℕ) (last : (i : ℕ) → turns ≤ i → terminal_at ts i ≡ 0) where
    pub refuses_to : (cap d : ℕ) (n : Name) (e : Option ℕ) (i : ℕ) → member (terminal_at ts i) (first_of n) ≡ false → run_to ts cap turns d n e i ≡ Err (Syntax i)
    refuses_to cap zero n e i h = rw h refl
    refuses_to cap (suc d) n e i h = elim (refuses_form ts cap turns (run_to ts cap turns d) (refuses_to cap d) (rule n) e i (tested n) (outside ts (first (rule n)) (first_of n) (terminal_at ts i) (first_rule n) h)) [
      | inl z ↦ absurd (not_true (nullable (rule n)) (solid_rule n) z.0)
      | inr z ↦ z.1
    ]

    -- a form is read within these limits
    abbrev pub W : (cap d : ℕ) {s : Sort} → Form s → Option ℕ → ℕ → Outcome (Value s)
    W cap d f e i = run ts cap turns (run_to ts cap turns d) f e i

    module _ (cap cap' : ℕ) (le : cap ≤ cap') where
      calm_to : (d d' : ℕ) → d ≤ d' → (n : Name) (e : Option ℕ) (i : ℕ) → Calm ts (run_to ts cap turns d n e i) (run_to ts cap' turns d' n e i)
      calm_to zero d' l n e i = at_test (member (terminal_at ts i) (first_of n)) refl
        where
          at_test : (v : Bool) → member (terminal_at ts i) (first_of n) ≡ v → Calm ts {A = Value (sort n)} (cond v (Err (Nest i)) (Err (Syntax i))) (run_to ts cap' turns d' n e i)
          at_test true h = inl (i, refl)
          at_test false h = inr (refuses_to cap' d' n e i h)
      calm_to (suc d) zero l n e i = absurd (omega (arith, l))
      calm_to (suc d) (suc d') l n e i = calm_form ts cap cap' le turns (run_to ts cap turns d) (run_to ts cap' turns d') (calm_to d d' (omega (arith, l))) (rule n) e i

      -- what is no lack of a limit stays
      pub calm_all : (d d' : ℕ) → d ≤ d' → {s : Sort} (f : Form s) (e : Option ℕ) (i : ℕ) → Calm ts (W cap d f e i) (W cap' d' f e i)
      calm_all d d' l f e i = calm_form ts cap cap' le turns (run_to ts cap turns d) (run_to ts cap' turns d') (calm_to d d' l) f e i

      pub syntax_stays : (d d' : ℕ) → d ≤ d' → {s : Sort} (f : Form s) (e : Option ℕ) (i j : ℕ) → W cap d f e i ≡ Err (Syntax j) → W cap' d' f e i ≡ Err (Syntax j)
      syntax_stays d d' l {s} f e i j h = elim (calm_all d d' l f e i) [
        | inl u ↦ absurd (differ _ _ (sym h ∙ u.1))
        | inr u ↦ u ∙ h
      ]
        where
          differ : (j k : ℕ) → (let o : Outcome (Value s) = Err (Syntax j) in o) ≡ Err (Nest k) → ⊥
          differ j k h = cc h

      pub ok_stays : (d d' : ℕ) → d ≤ d' → {s : Sort} (f : Form s) (e : Option ℕ) (i : ℕ) (z : Value s × ℕ) → W cap d f e i ≡ Ok z → W cap' d' f e i ≡ Ok z
      ok_stays d d' l {s} f e i z h = elim (calm_all d d' l f e i) [
        | inl u ↦ absurd (differ _ (sym h ∙ u.1))
        | inr u ↦ u ∙ h
      ]
        where
          differ : (k : ℕ) → (let o : Outcome (Value s) = Ok z in o) ≡ Err (Nest k) → ⊥
          differ k h = cc h

    -- what an answer says of the relations
    pub given : (cap d : ℕ) {s : Sort} (f : Form s) → good f ≡ true → (e : Option ℕ) (i : ℕ) (out : Outcome (Value s)) → W cap d f e i ≡ out
        → Gives ts (Reads ts cap d f e) (Opens ts cap d f e) (In (follow f)) i out
    given cap d f g e i out h = subst (λ o. Gives ts (Reads ts cap d f e) (Opens ts cap d f e) (In (follow f)) i o) h (gives_form ts cap turns last d f g e i)

    module _ {s : Sort} (f : Form s) (g : good f ≡ true) (e : Option ℕ) (i : ℕ) (cap d cap' d' : ℕ) where
      -- what is read or opened within the one limits or the other is read and opened within both
      reads_both : (v : Value s) (k : ℕ) → Reads ts cap' d' f e i v k → Reads ts (max cap cap') (max d d') f e i v k
      reads_both v k o = reads_more cap' (max cap cap') (omega arith) d' (max d d') (omega arith) f e i v k o

      opens_both : (k : ℕ) → Opens ts cap' d' f e i k → Opens ts (max cap cap') (max d d') f e i k
      opens_both k o = opens_more cap' (max cap cap') (omega arith) d' (max d d') (omega arith) f e i k o

      ok_both : (z : Value s × ℕ) → W cap d f e i ≡ Ok z → Found ts (Reads ts (max cap cap') (max d d') f e) (Opens ts (max cap cap') (max d d') f e) i z.0 z.1
      ok_both z h = given (max cap cap') (max d d') f g e i (Ok z) (ok_stays cap (max cap cap') (omega arith) d (max d d') (omega arith) f e i z h)

      syntax_both : (j : ℕ) → W cap d f e i ≡ Err (Syntax j) → Held ts (Reads ts (max cap cap') (max d d') f e) (Opens ts (max cap cap') (max d d') f e) (In (follow f)) i j
      syntax_both j h = given (max cap cap') (max d d') f g e i (Err (Syntax j)) (syntax_stays cap (max cap cap') (omega arith) d (max d d') (omega arith) f e i j h)

      -- a tree is read: whatever the limits, no longer list opens the form, and the list spells no other tree
      pub ok_longest : (z : Value s × ℕ) → W cap d f e i ≡ Ok z → (k : ℕ) → Opens ts cap' d' f e i k → k ≤ z.1
      ok_longest z h k o = (ok_both z h).longest k (opens_both k o)

      pub ok_only : (z : Value s × ℕ) → W cap d f e i ≡ Ok z → (w : Value s) → Reads ts cap' d' f e i w z.1 → w ≡ z.0
      ok_only z h w r = (ok_both z h).only w (reads_both w z.1 r)

      -- a token is refused: whatever the limits, no longer list opens the form
      pub syntax_longest : (j : ℕ) → W cap d f e i ≡ Err (Syntax j) → (k : ℕ) → Opens ts cap' d' f e i k → k ≤ j
      syntax_longest j h k o = (syntax_both j h).longest k (opens_both k o)

    -- ---- where a limit was met

    -- a limit that is met by no operator up to this place
    abbrev pub larger : ℕ → ℕ → ℕ
    larger cap j = cap + (ts j).operators + 1

    reads_ok : (cap j d : ℕ) (s : Sort) (f : Form s) (e : Option ℕ) (i : ℕ) (z : Value s × ℕ) → good f ≡ true → W cap d f e i ≡ Ok z → Reads ts (larger cap j) (suc d) f e i z.0 z.1
    reads_ok cap j d s f e i z g h =
        let k : Found ts (Reads ts cap d f e) (Opens ts cap d f e) i z.0 z.1 = given cap d f g e i (Ok z) h in
        reads_more cap (larger cap j) (omega arith) d (suc d) (omega arith) f e i z.0 z.1 k.reads

    nests_to : (cap j d : ℕ) (n : Name) (e : Option ℕ) (i : ℕ) → run_to ts cap turns d n e i ≡ Err (Nest j) → OpensTo ts (larger cap j) (suc d) n e i (j + 1)
    nests_to cap j zero n e i h = at_test (member (terminal_at ts i) (first_of n)) refl h
      where
        same : {A : Type 0} (i j : ℕ) → (let o : Outcome A = Err (Nest i) in o) ≡ Err (Nest j) → i ≡ j
        same {A} i j h = ap (λ (o : Outcome A). elim o as (λ _. ℕ) [ Ok z ↦ 0 | Err (Nest k) ↦ k | Err _ ↦ 0 ]) h

        begins : i ≡ j → In (first_of n) (terminal_at ts i) → OpensTo ts (larger cap j) 1 n e i (j + 1)
        begins q w = subst (λ t. OpensTo ts (larger cap t) 1 n e i (t + 1)) q
            (starts ts (larger cap i) (ReadsTo ts (larger cap i) 0) (OpensTo ts (larger cap i) 0) (rule n) e i (omega arith) (direct_rule n) (subset_sound (first_of n) (first (rule n)) (rule_first n) (terminal_at ts i) w))

        at_test : (v : Bool) → member (terminal_at ts i) (first_of n) ≡ v → cond {A = Outcome (Value (sort n))} v (Err (Nest i)) (Err (Syntax i)) ≡ Err (Nest j) → OpensTo ts (larger cap j) 1 n e i (j + 1)
        at_test true w h = begins (same {A = Value (sort n)} i j h) w
        at_test false w h = absurd (cc h)
    nests_to cap j (suc d) n e i h =
        onward ts cap (larger cap j) turns (run_to ts cap turns d) (ReadsTo ts (larger cap j) (suc d)) (OpensTo ts (larger cap j) (suc d)) j (omega arith) (nests_to cap j d) (reads_ok cap j d) (rule n) (tested n) e i h

    -- one more token opens the form within larger limits
    pub opens_later : (cap d : ℕ) {s : Sort} (f : Form s) → good f ≡ true → (e : Option ℕ) (i j : ℕ) → W cap d f e i ≡ Err (Nest j) → Opens ts (larger cap j) (suc d) f e i (j + 1)
    opens_later cap d f g e i j h =
        onward ts cap (larger cap j) turns (run_to ts cap turns d) (ReadsTo ts (larger cap j) (suc d)) (OpensTo ts (larger cap j) (suc d)) j (omega arith) (nests_to cap j d) (reads_ok cap j d) f g e i h

    -- ---- no tree before a token that is refused

    moves_to : (cap d : ℕ) (n : Name) (e : Option ℕ) (i : ℕ) → In (first_of n) (terminal_at ts i) → Moved i (run_to ts cap turns d n e i)
    moves_to cap zero n e i w = at_test (member (terminal_at ts i) (first_of n)) w
      where
        at_test : (b : Bool) → b ≡ true → Moved {A = Value (sort n)} i (cond b (Err (Nest i)) (Err (Syntax i)))
        at_test true h = tt
        at_test false h = absurd (cc h)
    moves_to cap (suc d) n e i w =
        moves_form ts cap (ReadsTo ts cap d) (OpensTo ts cap d) (sane_to ts cap d) turns last (run_to ts cap turns d) (gives_to ts cap turns last d) (refuses_to cap d) (moves_to cap d)
        (rule n) (tested n) e i (subset_sound (first_of n) (first (rule n)) (rule_first n) (terminal_at ts i) w)

    none_to : (cap d : ℕ) (n : Name) (e : Option ℕ) (i : ℕ) → NoTree (ReadsTo ts cap d n e) i (run_to ts cap turns d n e i)
    none_to cap zero n e i m w h r = r
    none_to cap (suc d) n e i m w h r =
        none_form ts cap (ReadsTo ts cap d) (OpensTo ts cap d) (sane_to ts cap d) turns last (run_to ts cap turns d) (gives_to ts cap turns last d) (refuses_to cap d) (moves_to cap d) (none_to cap d)
        (rule n) (tested n) e i m w h r

    -- a token is refused: whatever the limits, the list before it spells no tree
    pub syntax_none : {s : Sort} (f : Form s) → good f ≡ true → (e : Option ℕ) (i cap d cap' d' j : ℕ) → W cap d f e i ≡ Err (Syntax j) → (w : Value s) → Reads ts cap' d' f e i w j → ⊥
    syntax_none f g e i cap d cap' d' j h w r =
        none_form ts (max cap cap') (ReadsTo ts (max cap cap') (max d d')) (OpensTo ts (max cap cap') (max d d')) (sane_to ts (max cap cap') (max d d')) turns last (run_to ts (max cap cap') turns (max d d'))
        (gives_to ts (max cap cap') turns last (max d d')) (refuses_to (max cap cap') (max d d')) (moves_to (max cap cap') (max d d')) (none_to (max cap cap') (max d d'))
        f g e i j w (syntax_stays cap (max cap cap') (omega arith) d (max d d') (omega arith) f e i j h) (reads_both f g e i cap d cap' d' w j r)
