-- Primitives that do what an operator does, and how modifiers keep this.
use Rattle.std.proofs.Common.{◌≡◌, ℕ, zero, suc, Bool, true, List, length, refl, sym, ap, ◌∙◌}
use Rattle.std.specs.Prelude.{ℤ, pos, negsuc}
use Rattle.std.specs.List.{All}
use Rattle.qt_ring.specs.Places.{AreQubits}
use Rattle.qt_ring.specs.Matrix.{Operator}
use Rattle.qt_gate_calls.specs.declared.body.GateModifier.{GateModifier}
use Rattle.qt_gate_calls.specs.declared.body.GateModifier.TheVariants.{Inv, Pow, Ctrl, NegCtrl}
use Rattle.qt_gate_calls.specs.Matrices.{power, raised, modified}
use Rattle.qt_gate_calls.specs.Primitives.{Primitives, first, others, with_one, with_zero, modified_primitives}
use Rattle.qt_gate_laws.specs.Primitives.{HaveQubits, AreOn}
use Rattle.qt_gate_laws.proofs.Controls.{Controls, Apart, length_others, fits_others, apart_others, free_first, apart_one, apart_zero}
use Rattle.qt_gate_laws.proofs.Both.{Both, ctrl_both, neg_both, inv_both, raised_both}
use Rattle.qt_gate_laws.proofs.Counting.{count, count-undo, count-powered}
use Rattle.qt_gate_laws.proofs.Fitting.{Ready, ready_one, ready_zero, undo_fits, powered_fits}
use Rattle.qt_gate_laws.proofs.Members.{more_are, others_are, undo_on, powered_on}

-- all these qubits are of a kind
abbrev pub Are : (ℕ → Bool) → List ℕ → Type 0
Are is qs = All (λ q. is q ≡ true) qs

-- primitives and an operator on so many qubits: they do the same, are on different qubits, are halved as often, and are on qubits of
-- any kind of which the call's are
pub record Follows (g : Operator) (ps : Primitives) (size : ℕ) : Type 0 where
  pub sized : g.size ≡ size
  pub does : (n : ℕ) (cs : Controls) (qs : List ℕ) → length qs ≡ size → AreQubits n qs → Apart cs qs → Both n (ps cs qs) cs g qs
  pub fit : (n : ℕ) (cs : Controls) (qs : List ℕ) → length qs ≡ size → Ready n cs qs → HaveQubits n (ps cs qs)
  pub counted : (cs : Controls) (qs : List ℕ) → count (ps cs qs) ≡ g.halvings
  pub members : (is : ℕ → Bool) (cs : Controls) (qs : List ℕ) → length qs ≡ size → Are is cs.ones → Are is cs.zeros → Are is qs → AreOn (λ q. is q ≡ true) (ps cs qs)

size_power : (e : ℕ) (g : Operator) → (power e g).size ≡ g.size
size_power zero g = refl
size_power (suc e) g = refl

size_raised : (k : ℤ) (g : Operator) → (raised k g).size ≡ g.size
size_raised (pos e) g = size_power e g
size_raised (negsuc e) g = refl

abbrev pub modified_size : GateModifier → ℕ → ℕ
modified_size Ctrl k = suc k
modified_size NegCtrl k = suc k
modified_size Inv k = k
modified_size (Pow e) k = k

pub modified_follows : (m : GateModifier) (g : Operator) (ps : Primitives) (k : ℕ) → Follows g ps k → Follows (modified m g) (modified_primitives m ps) (modified_size m k)
modified_follows Ctrl g ps k f = record {
  sized = ap suc f.sized;
  does = λ n cs qs e q a. ctrl_both n k _ cs g qs e (f.does n (with_one (first 0 qs) cs) (others qs) (length_others k qs e) (fits_others n qs q) (apart_one cs (first 0 qs) (others qs) (apart_others cs qs a) (free_first n qs q)));
  fit = λ n cs qs e r. f.fit n (with_one (first 0 qs) cs) (others qs) (length_others k qs e) (ready_one n k cs qs e r);
  counted = λ cs qs. f.counted (with_one (first 0 qs) cs) (others qs);
  members = λ is cs qs e h g i. f.members is (with_one (first 0 qs) cs) (others qs) (length_others k qs e) (more_are (λ q. is q ≡ true) k cs.ones qs e h i) g (others_are (λ q. is q ≡ true) qs i);
}
modified_follows NegCtrl g ps k f = record {
  sized = ap suc f.sized;
  does = λ n cs qs e q a. neg_both n k _ cs g qs e (f.does n (with_zero (first 0 qs) cs) (others qs) (length_others k qs e) (fits_others n qs q) (apart_zero cs (first 0 qs) (others qs) (apart_others cs qs a) (free_first n qs q)));
  fit = λ n cs qs e r. f.fit n (with_zero (first 0 qs) cs) (others qs) (length_others k qs e) (ready_zero n k cs qs e r);
  counted = λ cs qs. f.counted (with_zero (first 0 qs) cs) (others qs);
  members = λ is cs qs e h g i. f.members is (with_zero (first 0 qs) cs) (others qs) (length_others k qs e) h (more_are (λ q. is q ≡ true) k cs.zeros qs e g i) (others_are (λ q. is q ≡ true) qs i);
}
modified_follows Inv g ps k f = record {
  sized = f.sized;
  does = λ n cs qs e q a. inv_both n (ps cs qs) cs g qs (f.does n cs qs e q a);
  fit = λ n cs qs e r. undo_fits n (ps cs qs) (f.fit n cs qs e r);
  counted = λ cs qs. count-undo (ps cs qs) ∙ f.counted cs qs;
  members = λ is cs qs e h g i. undo_on (λ q. is q ≡ true) (ps cs qs) (f.members is cs qs e h g i);
}
modified_follows (Pow t) g ps k f = record {
  sized = size_raised t g ∙ f.sized;
  does = λ n cs qs e q a. raised_both n t (ps cs qs) cs g qs (e ∙ sym f.sized) q a (f.does n cs qs e q a);
  fit = λ n cs qs e r. powered_fits n t (ps cs qs) (f.fit n cs qs e r);
  counted = λ cs qs. count-powered t g (ps cs qs) (f.counted cs qs);
  members = λ is cs qs e h g i. powered_on (λ q. is q ≡ true) t (ps cs qs) (f.members is cs qs e h g i);
}
