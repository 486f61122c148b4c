-- Each form of the tested grammar, at each number of levels.
use Rattle.std.proofs.Common.{◌≡◌, ℕ, zero, suc, ◌≤◌, Bool, true, false, cond, Option, Err, refl, arith}
use Rattle.qt_terminals.specs.Terminals.{PlacedTerminal}
use Rattle.qt_grammar.specs.declared.refusal.Refusal.TheVariants.{Syntax, Nest}
use Rattle.qt_grammar.specs.Sorts.{Sort, Value, Name, sort}
use Rattle.qt_grammar.specs.Form.{Form, member, terminal_at, Reading, Opening, ReadsBy, OpensBy}
use Rattle.qt_grammar.specs.Language.{rule}
use Rattle.qt_grammar.specs.Lookahead.{first, nullable, first_of}
use Rattle.qt_grammar.specs.Spelling.{ReadsTo, OpensTo}
use Rattle.qt_grammar.specs.Reading.{run, run_to}
use Rattle.qt_grammar.proofs.Sane.{Sane, sane-weaker}
use Rattle.qt_grammar.proofs.Munch.{Gives, gives_weaker}
use Rattle.qt_grammar.proofs.LookaheadTests.{In, subset_sound, follow, follow_of, good}
use Rattle.qt_grammar.proofs.Forms.{Sound, sound, solid_form, gives}
use Rattle.qt_grammar.proofs.Tables.{tested, solid_rule, first_rule, follow_rule}

-- what a form reads and opens within limits: so many levels, so many operators
module _ (ts : ℕ → PlacedTerminal) (cap d : ℕ) where
  abbrev pub Reads : {s : Sort} → Form s → Option ℕ → Reading (Value s)
  Reads f e = ReadsBy ts cap (ReadsTo ts cap d) f e

  abbrev pub Opens : {s : Sort} → Form s → Option ℕ → Opening
  Opens f e = OpensBy ts cap (ReadsTo ts cap d) (OpensTo ts cap d) f e

module _ (ts : ℕ → PlacedTerminal) (cap : ℕ) where
  sane_zero : (n : Name) (e : Option ℕ) → Sane ts (ReadsTo ts cap 0 n e) (OpensTo ts cap 0 n e) (In (first_of n)) ⊥ (In (follow_of n))
  sane_zero n e = record {
    ahead = (λ i j e. omega (arith, e));
    nil = (λ i. refl);
    whole = (λ i v j h. absurd h);
    begins = (λ i j e lt. absurd (omega (arith, e, lt)));
    some = (λ i v j h. absurd h);
    goes_on = (λ i v j l h o lt. absurd h);
  }

  pub sane_to : (d : ℕ) (n : Name) (e : Option ℕ) → Sane ts (ReadsTo ts cap d n e) (OpensTo ts cap d n e) (In (first_of n)) ⊥ (In (follow_of n))
  sane_to zero n e = sane_zero n e
  sane_to (suc d) n e =
      sane-weaker ts {A = Value (sort n)} {B = ℕ} (λ x. 0) (Reads ts cap d (rule n) e) (Opens ts cap d (rule n) e) _ _ _
      (solid_form ts cap (ReadsTo ts cap d) (OpensTo ts cap d) (sane_to d) (rule n) (tested n) (solid_rule n) e) _ _ _
      (subset_sound _ _ (first_rule n)) (λ e. e) (subset_sound _ _ (follow_rule n))

  pub sound_form : (d : ℕ) {s : Sort} (f : Form s) → good f ≡ true → (e : Option ℕ) → Sound ts (Reads ts cap d f e) (Opens ts cap d f e) (first f) (nullable f) (follow f)
  sound_form d f g e = sound ts cap (ReadsTo ts cap d) (OpensTo ts cap d) (sane_to d) f g e

  module _ (turns : ℕ) (last : (i : ℕ) → turns ≤ i → terminal_at ts i ≡ 0) where
    gives_zero : (n : Name) (e : Option ℕ) (i : ℕ) → Gives ts (ReadsTo ts cap 0 n e) (OpensTo ts cap 0 n e) (In (follow_of n)) i (run_to ts cap turns 0 n e i)
    gives_zero n e i = at_test (member (terminal_at ts i) (first_of n))
      where
        at_test : (b : Bool) → Gives ts (ReadsTo ts cap 0 n e) (OpensTo ts cap 0 n e) (In (follow_of n)) i (cond b (Err (Nest i)) (Err (Syntax i)))
        at_test true = record { opens = refl; longest = λ k e. omega (arith, e); held = λ w h. absurd h }
        at_test false = record { opens = refl; longest = λ k e. omega (arith, e); held = λ w h. absurd h }

    pub gives_to : (d : ℕ) (n : Name) (e : Option ℕ) (i : ℕ) → Gives ts (ReadsTo ts cap d n e) (OpensTo ts cap d n e) (In (follow_of n)) i (run_to ts cap turns d n e i)
    gives_to zero n e i = gives_zero n e i
    gives_to (suc d) n e i =
        gives_weaker ts (ReadsTo ts cap (suc d) n e) (OpensTo ts cap (suc d) n e) _ _ (subset_sound _ _ (follow_rule n)) i (run_to ts cap turns (suc d) n e i)
        (gives ts cap (ReadsTo ts cap d) (OpensTo ts cap d) (sane_to d) turns last (run_to ts cap turns d) (gives_to d) (rule n) (tested n) e i)

    pub gives_form : (d : ℕ) {s : Sort} (f : Form s) → good f ≡ true → (e : Option ℕ) (i : ℕ)
        → Gives ts (Reads ts cap d f e) (Opens ts cap d f e) (In (follow f)) i (run ts cap turns (run_to ts cap turns d) f e i)
    gives_form d f g e i = gives ts cap (ReadsTo ts cap d) (OpensTo ts cap d) (sane_to d) turns last (run_to ts cap turns d) (gives_to d) f g e i
