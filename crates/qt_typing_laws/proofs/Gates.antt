-- A gate call has as many qubits as its gate and its controls, each of them seen; registers of a broadcast have one size.
use Rattle.std.proofs.Common.{◌≡◌, ℕ, suc, ◌+◌, Bool, true, false, not, nat_eq, List, [], ◌∷◌, ◌++◌, length, slice_get, slice_index_or, codes, Option, Some, None, refl, sym, ap, subst, ◌∙◌, arith}
use Rattle.std.specs.Prelude.{if◌then◌else◌}
use Rattle.std.specs.Cmp.Lexicographic.{pointwise}
use Rattle.std.specs.List.{All}
use Rattle.std.specs.Option.{option_or}
use borrow.Author.Tests.{eqb-true}
use Rattle.qt_gate_calls.specs.Standard.{StandardGate, standard_gates}
use Rattle.qt_gate_calls.specs.declared.body.Called.{Called}
use Rattle.qt_gate_calls.specs.declared.body.Called.TheVariants as called
use Rattle.qt_gate_calls.specs.declared.body.GateBody.{GateBody}
use Rattle.qt_gate_calls.specs.declared.body.GateModifier.{GateModifier}
use Rattle.qt_gate_calls.specs.declared.body.GateModifier.TheVariants as gate_modifier
use Rattle.qt_names.specs.Entries as scope
use Rattle.qt_names.specs.Scopes.{found}
use Rattle.qt_names.specs.declared.named.Named.{Named}
use Rattle.qt_tree.specs.declared.expression.Expr.{Expr}
use Rattle.qt_tree.specs.declared.place.Place.{Place}
use Rattle.qt_tree.specs.declared.refusal.Cause.TheVariants as cause
use Rattle.qt_tree.specs.declared.refusal.TextRefusal.{TextRefusal}
use Rattle.qt_tree.specs.declared.refusal.TextRefusal.TheVariants as refusal
use Rattle.qt_tree.specs.declared.statement.CalledGate.{CalledGate}
use Rattle.qt_tree.specs.declared.statement.CalledGate.TheVariants as written
use Rattle.qt_tree.specs.declared.statement.GateCall.{GateCall}
use Rattle.qt_tree.specs.declared.statement.Operand.{Operand}
use Rattle.qt_typed.specs.declared.call.GateUse.{GateUse}
use Rattle.qt_typed.specs.declared.call.TypedQubits.{TypedQubits}
use Rattle.qt_typed.specs.declared.call.TypedQubits.TheVariants as qubits
use Rattle.qt_meaning.specs.WellFormed.{ActionFits, OperandFits, QubitFits, QubitsFit, Scope, call_size, gate_sizes}
use Rattle.qt_meaning_laws.proofs.Named.{all_more, all_none}
use Rattle.qt_meaning_laws.proofs.Runs.{all_first, all_later}
use Rattle.qt_typing.specs.declared.names.Names.{Names}
use Rattle.qt_typing.specs.Checked.{unless}
use Rattle.qt_typing.specs.Gates.{Gate, any_clashes, call_with, controls, count_fits, gate_action, gate_at, gate_call, gate_called, gate_of_kind, modifiers_from, operands_from, phases_from, same_size, singles, size_of_all, standard_from, standard_gate, written_arguments}
use Rattle.qt_typing_laws.specs.Fits.{InScopes}
use Rattle.qt_typing_laws.specs.Seen.{GateFits, HasStandardGates, NamedIsSeen}
use Rattle.qt_typing_laws.proofs.Holding.{Holds, ok_holds, err_holds, any_holds, then_holds, if_holds, IfSome, some_is, none_is}
use Rattle.qt_typing_laws.proofs.Names.{found_is, unfit_is}
use Rattle.qt_typing_laws.proofs.Qubits.{all_both, all_one, operand_fits}

-- ---- counts

pub unless_not : (b : Bool) (e : TextRefusal) → Holds (λ _. b ≡ true) (unless (not b) e)
unless_not true e = ok_holds refl
unless_not false e = err_holds

pub same_count : (place : Place) (wanted given : ℕ) → Holds (λ _. wanted ≡ given) (count_fits place wanted given)
unfolding count_fits
same_count place wanted given =
    record { by = λ u e. eqb-true wanted given ((unless_not (nat_eq wanted given) _).by u e) }

-- one qubit more for each control
pub controlled_size : (sizes : ℕ → ℕ) (ms : List GateModifier) (gate : Called) → call_size sizes ms gate ≡ controls ms + call_size sizes [] gate
controlled_size sizes [] gate = omega arith
controlled_size sizes (gate_modifier.Inv ∷ ms) gate = controlled_size sizes ms gate
controlled_size sizes (gate_modifier.Pow k ∷ ms) gate = controlled_size sizes ms gate
controlled_size sizes (gate_modifier.Ctrl ∷ ms) gate = let more = controlled_size sizes ms gate in omega (arith, more)
controlled_size sizes (gate_modifier.NegCtrl ∷ ms) gate = let more = controlled_size sizes ms gate in omega (arith, more)

-- ---- what is called

module _ (z : Scope) where
  standard_is : (n : ℕ) (gates : List StandardGate) (name : scope.Name)
      → ((i : ℕ) (g : StandardGate) → slice_get gates i ≡ Some g → gate_sizes z.gates (n + i) ≡ g.body.qubits)
      → IfSome (GateFits z) (standard_from n gates name)
  standard_is n [] name h = none_is
  standard_is n (g ∷ rest) name h = by_name (pointwise nat_eq g.name name) (standard_is (suc n) rest name later)
    where
      here : gate_sizes z.gates n ≡ g.body.qubits
      here = subst (λ i. gate_sizes z.gates i ≡ g.body.qubits) (omega arith) (h 0 g refl)

      later : (i : ℕ) (other : StandardGate) → slice_get rest i ≡ Some other → gate_sizes z.gates (suc n + i) ≡ other.body.qubits
      later i other e = subst (λ j. gate_sizes z.gates j ≡ other.body.qubits) (omega arith) (h (suc i) other e)

      by_name : (b : Bool) → IfSome (GateFits z) (standard_from (suc n) rest name) → IfSome (GateFits z) (if b
          then Some (record { called = called.Gate n; parameters = g.body.parameters; qubits = g.body.qubits })
          else standard_from (suc n) rest name)
      by_name true more = some_is here
      by_name false more = more

  included_is : (b : Bool) (name : scope.Name) → HasStandardGates z.gates → IfSome (GateFits z) (standard_gate b name)
  included_is true name h =
      standard_is 0 standard_gates name (λ i g e. subst (λ j. gate_sizes z.gates j ≡ g.body.qubits) (omega arith) (h i g e))
  included_is false name h = none_is

  at_fits : (included : Bool) (place : Place) (name : scope.Name) (it : Option Named) → HasStandardGates z.gates
      → IfSome (NamedIsSeen z) it → Holds (GateFits z) (gate_at included place name it)
  unfolding gate_at
  at_fits included place name (Some it) h g =
      unfit_is place name (gate_of_kind it.what it) (record { by = (g.by it refl).gate })
  at_fits included place name None h g =
      if_holds (pointwise nat_eq name (codes "U")) (λ _. ok_holds refl)
      (λ _. unfit_is place name (standard_gate included name) (included_is included name h))

  -- ---- operands

  abbrev OfSize : ℕ → TypedQubits → Type 0
  OfSize n (qubits.Register register) = length register ≡ n
  OfSize n (qubits.Single q) = Unit {0}

  -- registers have one size
  abbrev HaveSize : List TypedQubits → Type 0
  HaveSize all = (n : ℕ) → size_of_all all ≡ Some n → All (OfSize n) all

  abbrev AsWide : Option ℕ → TypedQubits → Type 0
  AsWide (Some n) (qubits.Register register) = n ≡ length register
  AsWide (Some n) (qubits.Single q) = Unit {0}
  AsWide None q = Unit {0}

  as_wide : (place : Place) (o : Option ℕ) (q : TypedQubits) → Holds (λ _. AsWide o q) (same_size place o q)
  as_wide place (Some n) (qubits.Register register) = same_count place n (length register)
  as_wide place (Some n) (qubits.Single q) = ok_holds tt
  as_wide place None q = ok_holds tt

  size_behind : (done : List TypedQubits) (q : TypedQubits)
      → size_of_all (done ++ q ∷ []) ≡ option_or (size_of_all done) (size_of_all (q ∷ []))
  size_behind [] q = refl
  size_behind (qubits.Register register ∷ done) q = refl
  size_behind (qubits.Single s ∷ done) q = size_behind done q

  singles_alone : (done : List TypedQubits) (n : ℕ) → size_of_all done ≡ None → All (OfSize n) done
  singles_alone [] n e = all_none (OfSize n)
  singles_alone (qubits.Register register ∷ done) n e = absurd (cc)
  singles_alone (qubits.Single q ∷ done) n e = all_more (OfSize n) (qubits.Single q) done tt (singles_alone done n e)

  wide_enough : (n k : ℕ) (q : TypedQubits) → AsWide (Some k) q → k ≡ n → OfSize n q
  wide_enough n k (qubits.Register register) h e = sym h ∙ e
  wide_enough n k (qubits.Single q) h e = tt

  first_size : (n : ℕ) (q : TypedQubits) → size_of_all (q ∷ []) ≡ Some n → OfSize n q
  first_size n (qubits.Register register) e = cc
  first_size n (qubits.Single q) e = tt

  one_size_more : (done : List TypedQubits) (q : TypedQubits) (o : Option ℕ) → size_of_all done ≡ o → HaveSize done → AsWide o q
      → HaveSize (done ++ q ∷ [])
  one_size_more done q (Some k) e h w n f =
      let found : Some k ≡ Some n = ap (λ t. option_or t (size_of_all (q ∷ []))) (sym e) ∙ (sym (size_behind done q) ∙ f) in
      let same : k ≡ n = cc in
      all_both (OfSize n) done (q ∷ []) (h n (e ∙ ap Some same)) (all_one (OfSize n) q (wide_enough n k q w same))
  one_size_more done q None e h w n f =
      let found : size_of_all (q ∷ []) ≡ Some n = ap (λ t. option_or t (size_of_all (q ∷ []))) (sym e) ∙ (sym (size_behind done q) ∙ f) in
      all_both (OfSize n) done (q ∷ []) (singles_alone done n e) (all_one (OfSize n) q (first_size n q found))

  pub record OperandsFit (count : ℕ) (all : List TypedQubits) : Type 0 where
    pub each : All (QubitsFit z) all
    pub sizes : HaveSize all
    pub counted : length all ≡ count

  length_one_more : (done : List TypedQubits) (q : TypedQubits) → length (done ++ q ∷ []) ≡ suc (length done)
  length_one_more [] q = refl
  length_one_more (d ∷ done) q = ap suc (length_one_more done q)

  module _ (names : Names) (seen : InScopes (NamedIsSeen z) names.scopes) (place : Place) where
    pub operands_fit : (done : List TypedQubits) (given : List Operand) (count : ℕ) → All (QubitsFit z) done → HaveSize done
        → length done + length given ≡ count → Holds (OperandsFit count) (operands_from names place done given)
    unfolding operands_from
    operands_fit done [] count h g e = ok_holds (record { each = h; sizes = g; counted = omega (arith, e) })
    operands_fit done (o ∷ rest) count h g e =
        then_holds (operand_fits z names seen place o) (λ q f.
        then_holds (as_wide place (size_of_all done) q) (λ _ w.
        then_holds {r = unless (any_clashes done q) (refusal.E11 place cause.Qubit)} any_holds (λ _ _.
        operands_fit (done ++ q ∷ []) rest count (all_both (QubitsFit z) done (q ∷ []) h (all_one (QubitsFit z) q f))
        (one_size_more done q (size_of_all done) refl g w)
        (let more = length_one_more done q in omega (arith, more, e)))))

  -- ---- calls

  singles_fit : (all : List TypedQubits) → size_of_all all ≡ None → All (QubitsFit z) all → All (QubitFits z) (singles all)
  singles_fit [] e h = all_none (QubitFits z)
  singles_fit (qubits.Register register ∷ all) e h = absurd (cc)
  singles_fit (qubits.Single q ∷ all) e h =
      all_more (QubitFits z) q (singles all) (all_first (QubitsFit z) (qubits.Single q) all h)
      (singles_fit all e (all_later (QubitsFit z) (qubits.Single q) all h))

  singles_counted : (all : List TypedQubits) → size_of_all all ≡ None → length (singles all) ≡ length all
  singles_counted [] e = refl
  singles_counted (qubits.Register register ∷ all) e = absurd (cc)
  singles_counted (qubits.Single q ∷ all) e = ap suc (singles_counted all e)

  sized_operand : (n : ℕ) (q : TypedQubits) → QubitsFit z q → OfSize n q → OperandFits z n q
  sized_operand n (qubits.Single q) h g = h
  sized_operand n (qubits.Register register) h g = (g, h)

  action_fits : (place : Place) (used : GateUse) (o : Option ℕ) (all : List TypedQubits) (count : ℕ) → OperandsFit count all
      → size_of_all all ≡ o → used.gates ≡ z.gates → count ≡ call_size (gate_sizes z.gates) used.modifiers used.gate
      → ActionFits z (gate_action place used o all)
  action_fits place used None all count h e g c =
      ((g, singles_counted all e ∙ (h.counted ∙ c)), singles_fit all e h.each)
  action_fits place used (Some n) all count h e g c =
      ((g, h.counted ∙ c), λ k d l. sized_operand n (slice_index_or all k d) (h.each k d l) (h.sizes n e k d l))

  module _ (names : Names) (seen : InScopes (NamedIsSeen z) names.scopes) (standard : HasStandardGates z.gates) where
    pub called_fits : (included : Bool) (place : Place) (gate : CalledGate) → Holds (GateFits z) (gate_called names included place gate)
    unfolding gate_called
    called_fits included place (written.Named name arguments) =
        at_fits included place name (found names.scopes name) standard (found_is (NamedIsSeen z) names.scopes name seen)
    called_fits included place (written.GlobalPhase angle) = ok_holds refl

    with_fits : (place : Place) (gates : List GateBody) (arguments : List Expr) (operands : List Operand) (ms : List GateModifier) (gate : Gate)
        → gates ≡ z.gates → GateFits z gate → Holds (ActionFits z) (call_with place gates arguments operands ms gate names)
    unfolding call_with
    with_fits place gates arguments operands ms gate g f =
        then_holds {r = count_fits place gate.parameters (length arguments)} any_holds (λ _ _.
        then_holds {r = phases_from names place [] arguments} any_holds (λ phases _.
        then_holds (same_count place (controls ms + gate.qubits) (length operands)) (λ _ c.
        then_holds (operands_fit names seen place [] operands (controls ms + gate.qubits) (all_none (QubitsFit z))
        (λ n e. all_none (OfSize n)) (omega (arith, c)))
        (λ all h. ok_holds (action_fits place _ (size_of_all all) all (controls ms + gate.qubits) h refl g
        (ap (λ t. controls ms + t) (sym f) ∙ sym (controlled_size (gate_sizes z.gates) ms gate.called)))))))

    pub gate_call_fits : (place : Place) (included : Bool) (gates : List GateBody) (call : GateCall) → gates ≡ z.gates
        → Holds (ActionFits z) (gate_call place included gates call names)
    unfolding gate_call
    gate_call_fits place included gates call g =
        then_holds {r = modifiers_from names place [] call.modifiers} any_holds (λ ms _.
        then_holds (called_fits included place call.gate) (λ gate f.
        with_fits place gates (written_arguments call.gate) call.operands ms gate g f))
