-- The primitives of calls, of bodies and of gates by number do what their matrices do.
use Rattle.std.proofs.Common.{◌≡◌, ℕ, zero, suc, ◌+◌, true, List, [], ◌∷◌, ◌++◌, length, map, refl, sym, subst, ◌∙◌, arith}
use Rattle.std.specs.List.{All}
use Rattle.qt_ring.specs.Places.{AreQubits}
use Rattle.qt_ring.specs.Matrix.{Operator}
use Rattle.qt_gate_calls.specs.declared.body.GateModifier.{GateModifier}
use Rattle.qt_gate_calls.specs.declared.body.GateModifier.TheVariants.{Inv, Pow, Ctrl, NegCtrl}
use Rattle.qt_gate_calls.specs.declared.body.Called.{Called}
use Rattle.qt_gate_calls.specs.declared.body.Called.TheVariants as called
use Rattle.qt_gate_calls.specs.declared.body.BodyCall.{BodyCall}
use Rattle.qt_gate_calls.specs.declared.body.GateBody.{GateBody}
use Rattle.qt_gate_calls.specs.Angles.{value}
use Rattle.qt_gate_calls.specs.Matrices.{nothing_on, after, Matrices, call_matrix, on, calls_matrix, body_matrix, matrices_of}
use Rattle.qt_gate_calls.specs.Numbered.{if_number, numbered_from}
use Rattle.qt_gate_calls.specs.Primitives.{Primitives, GatePrimitives, picked, call_primitives, calls_primitives, body_primitives, primitives_of}
use Rattle.qt_gate_calls.specs.Units.{KnownUnits, nth_known}
use Rattle.qt_meaning.specs.WellFormed.{call_size, BodyCallFits, GatesFitFrom, GatesFit, gate_sizes}
use Rattle.qt_meaning_laws.proofs.Runs.{all_first, all_later}
use Rattle.qt_gate_laws.proofs.Picked.{length-picked, picked_fits}
use Rattle.qt_gate_laws.proofs.Controls.{apart_picked}
use Rattle.qt_gate_laws.proofs.Both.{Both, u_both, phase_both, done_both, call_both}
use Rattle.qt_gate_laws.proofs.Counting.{count, count-append}
use Rattle.qt_gate_laws.proofs.Fitting.{u_fits, fit-append}
use Rattle.qt_gate_laws.proofs.Members.{u_on, phase_on, on-append, picked_are}
use Rattle.qt_gate_laws.proofs.Modifying.{Follows, modified_follows}

-- the gates by number: those that are known so far
pub record AllFollow (e : Matrices) (ps : GatePrimitives) (sizes : ℕ → ℕ) : Type 0 where
  pub by : (i : ℕ) (given : List KnownUnits) → Follows (e i given) (ps i given) (sizes i)

pub call_follows : (e : Matrices) (ps : GatePrimitives) (sizes : ℕ → ℕ) → AllFollow e ps sizes → (ms : List GateModifier) (gate : Called) (angles : List KnownUnits) → Follows (call_matrix e ms gate angles) (call_primitives ps ms gate angles) (call_size sizes ms gate)
call_follows e ps sizes h [] called.U angles = record {
  sized = refl;
  does = λ n cs qs l q a. u_both n (nth_known 0 angles) (nth_known 1 angles) (nth_known 2 angles) cs qs l;
  fit = λ n cs qs l r. u_fits n (nth_known 0 angles) (nth_known 1 angles) (nth_known 2 angles) cs qs l r;
  counted = λ cs qs. refl;
  members = λ is cs qs l h g i. u_on (λ q. is q ≡ true) (nth_known 0 angles) (nth_known 1 angles) (nth_known 2 angles) cs qs l h g i;
}
call_follows e ps sizes h [] called.GlobalPhase angles = record {
  sized = refl;
  does = λ n cs qs l q a. phase_both n (nth_known 0 angles) cs qs l;
  fit = λ n cs qs l r. (r.controls, tt);
  counted = λ cs qs. refl;
  members = λ is cs qs l h g i. phase_on (λ q. is q ≡ true) (nth_known 0 angles) cs h g;
}
call_follows e ps sizes h [] (called.Gate i) angles = h.by i angles
call_follows e ps sizes h (Ctrl ∷ ms) gate angles = modified_follows Ctrl _ _ _ (call_follows e ps sizes h ms gate angles)
call_follows e ps sizes h (NegCtrl ∷ ms) gate angles = modified_follows NegCtrl _ _ _ (call_follows e ps sizes h ms gate angles)
call_follows e ps sizes h (Inv ∷ ms) gate angles = modified_follows Inv _ _ _ (call_follows e ps sizes h ms gate angles)
call_follows e ps sizes h (Pow t ∷ ms) gate angles = modified_follows (Pow t) _ _ _ (call_follows e ps sizes h ms gate angles)

calls_follow : (e : Matrices) (ps : GatePrimitives) (sizes : ℕ → ℕ) → AllFollow e ps sizes → (k : ℕ) (calls : List BodyCall) (given : List KnownUnits) → All (BodyCallFits sizes k) calls → Follows (calls_matrix e k calls given) (calls_primitives ps calls given) k
calls_follow e ps sizes h k [] given s = record {
  sized = refl;
  does = λ n cs qs l q a. done_both n k cs qs;
  fit = λ n cs qs l r. tt;
  counted = λ cs qs. refl;
  members = λ is cs qs l h g i. tt;
}
calls_follow e ps sizes h k (c ∷ calls) given s =
    let angles : List KnownUnits = map (value given) c.angles in
    let rest : Follows (calls_matrix e k calls given) (calls_primitives ps calls given) k = calls_follow e ps sizes h k calls given (all_later (BodyCallFits sizes k) c calls s) in
    let fits : BodyCallFits sizes k c = all_first (BodyCallFits sizes k) c calls s in
    let one : Follows (call_matrix e c.modifiers c.gate angles) (call_primitives ps c.modifiers c.gate angles) (call_size sizes c.modifiers c.gate) = call_follows e ps sizes h c.modifiers c.gate angles in
    record {
      sized = refl;
      does = λ n cs qs l q a.
          let here : AreQubits (length qs) c.qubits = subst (λ (m : ℕ). AreQubits m c.qubits) (sym l) fits.1 in
          subst (λ (m : ℕ). Both n (calls_primitives ps (c ∷ calls) given cs qs) cs (after m (calls_matrix e k calls given) (on m c.qubits (call_matrix e c.modifiers c.gate angles))) qs) l
          (call_both n (call_primitives ps c.modifiers c.gate angles cs (picked 0 qs c.qubits)) (calls_primitives ps calls given cs qs) cs (call_matrix e c.modifiers c.gate angles) (calls_matrix e k calls given) qs c.qubits q a here
          (one.does n cs (picked 0 qs c.qubits) (length-picked qs c.qubits ∙ fits.0) (picked_fits n qs c.qubits q here) (apart_picked cs qs c.qubits a here))
          (rest.does n cs qs l q a));
      fit = λ n cs qs l r.
          let here : AreQubits (length qs) c.qubits = subst (λ (m : ℕ). AreQubits m c.qubits) (sym l) fits.1 in
          fit-append n (call_primitives ps c.modifiers c.gate angles cs (picked 0 qs c.qubits)) (calls_primitives ps calls given cs qs)
          (one.fit n cs (picked 0 qs c.qubits) (length-picked qs c.qubits ∙ fits.0) (record { controls = r.controls; apart = apart_picked cs qs c.qubits r.apart here; own = picked_fits n qs c.qubits r.own here }))
          (rest.fit n cs qs l r);
      counted = λ cs qs.
          let a : count (call_primitives ps c.modifiers c.gate angles cs (picked 0 qs c.qubits) ++ calls_primitives ps calls given cs qs) ≡ count (call_primitives ps c.modifiers c.gate angles cs (picked 0 qs c.qubits)) + count (calls_primitives ps calls given cs qs) = count-append (call_primitives ps c.modifiers c.gate angles cs (picked 0 qs c.qubits)) (calls_primitives ps calls given cs qs) in
          let b : count (call_primitives ps c.modifiers c.gate angles cs (picked 0 qs c.qubits)) ≡ (call_matrix e c.modifiers c.gate angles).halvings = one.counted cs (picked 0 qs c.qubits) in
          let d : count (calls_primitives ps calls given cs qs) ≡ (calls_matrix e k calls given).halvings = rest.counted cs qs in
          omega arith;
      members = λ is cs qs l h g i.
          let here : AreQubits (length qs) c.qubits = subst (λ (m : ℕ). AreQubits m c.qubits) (sym l) fits.1 in
          on-append (λ q. is q ≡ true) (call_primitives ps c.modifiers c.gate angles cs (picked 0 qs c.qubits)) (calls_primitives ps calls given cs qs)
          (one.members is cs (picked 0 qs c.qubits) (length-picked qs c.qubits ∙ fits.0) h g (picked_are (λ q. is q ≡ true) qs c.qubits i here))
          (rest.members is cs qs l h g i);
    }

number_follows : (n i : ℕ) (g h : Operator) (p q : Primitives) (s t : ℕ) → Follows g p s → Follows h q t → Follows (if_number n i g h) (if_number n i p q) (if_number n i s t)
number_follows zero zero g h p q s t f o = f
number_follows zero (suc i) g h p q s t f o = o
number_follows (suc n) zero g h p q s t f o = o
number_follows (suc n) (suc i) g h p q s t f o = number_follows n i g h p q s t f o

-- what a gate by number is at an argument
at_number : {A B : Type 0} (n i : ℕ) (f g : A → B) (a : A) → if_number n i f g a ≡ if_number n i (f a) (g a)
at_number zero zero f g a = refl
at_number zero (suc i) f g a = refl
at_number (suc n) zero f g a = refl
at_number (suc n) (suc i) f g a = at_number n i f g a

gates_follow_from : (gates : List GateBody) (n : ℕ) (e : Matrices) (ps : GatePrimitives) (sizes : ℕ → ℕ) → AllFollow e ps sizes → GatesFitFrom n sizes gates → AllFollow (numbered_from body_matrix n gates e) (numbered_from body_primitives n gates ps) (numbered_from (λ e body. body.qubits) n gates sizes)
gates_follow_from [] n e ps sizes h s = h
gates_follow_from (body ∷ gates) n e ps sizes h s =
    gates_follow_from gates (suc n) _ _ _
    (record {
      by = λ i given.
          subst (λ (g : Operator). Follows g (if_number n i (body_primitives ps body) (ps i) given) (if_number n i body.qubits (sizes i))) (sym (at_number n i (body_matrix e body) (e i) given))
          (subst (λ (p : Primitives). Follows (if_number n i (body_matrix e body given) (e i given)) p (if_number n i body.qubits (sizes i))) (sym (at_number n i (body_primitives ps body) (ps i) given))
          (number_follows n i (body_matrix e body given) (e i given) (body_primitives ps body given) (ps i given) body.qubits (sizes i)
          (calls_follow e ps sizes h body.qubits body.calls given s.0) (h.by i given)));
    })
    s.1

nothing_follows : (given : List KnownUnits) → Follows (nothing_on 0) (λ cs qs. []) 0
nothing_follows given = record {
  sized = refl;
  does = λ n cs qs l q a. done_both n 0 cs qs;
  fit = λ n cs qs l r. tt;
  counted = λ cs qs. refl;
  members = λ is cs qs l h g i. tt;
}

-- all gates of a program
pub gates_follow : (gates : List GateBody) → GatesFit gates → AllFollow (matrices_of gates) (primitives_of gates) (gate_sizes gates)
gates_follow gates s = gates_follow_from gates 0 _ _ _ (record { by = λ i given. nothing_follows given }) s

pub call_follows_matrix : (gates : List GateBody) → GatesFit gates → (ms : List GateModifier) (gate : Called) (angles : List KnownUnits) → Follows (call_matrix (matrices_of gates) ms gate angles) (call_primitives (primitives_of gates) ms gate angles) (call_size (gate_sizes gates) ms gate)
call_follows_matrix gates fits ms gate angles = call_follows (matrices_of gates) (primitives_of gates) (gate_sizes gates) (gates_follow gates fits) ms gate angles
