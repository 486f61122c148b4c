-- A call of a subroutine hands over what its parameters take.
use Rattle.std.proofs.Common.{◌≡◌, ℕ, nat_eq, List, [], ◌∷◌, ◌++◌, length, slice_get, Some, sym, subst, append-nil, append_assoc, arith}
use Rattle.std.specs.List.{All}
use borrow.Author.Tests.{eqb-true}
use Rattle.qt_names.specs.Entries as scope
use Rattle.qt_tree.specs.declared.expression.Expr.{Expr, out-Expr}
use Rattle.qt_tree.specs.declared.place.Place.{Place}
use Rattle.qt_tree.specs.declared.refusal.Cause.TheVariants as cause
use Rattle.qt_tree.specs.declared.refusal.TextRefusal.TheVariants as refusal
use Rattle.qt_typed.specs.declared.call.TypedQubit.TheVariants as qubit
use Rattle.qt_typed.specs.declared.call.TypedQubits.{TypedQubits}
use Rattle.qt_typed.specs.declared.call.TypedQubits.TheVariants as qubits
use Rattle.qt_typed.specs.declared.expression.TypedExpr.{TypedExpr}
use Rattle.qt_typed.specs.declared.program.TypedParameter.{TypedParameter}
use Rattle.qt_typed.specs.declared.program.TypedParameter.TheVariants as parameter
use Rattle.qt_typed.specs.declared.program.TypedSubroutine.{TypedSubroutine}
use Rattle.qt_meaning.specs.WellFormed.{GivenFits, QubitsFit, Scope}
use Rattle.qt_meaning_laws.proofs.Named.{all_none}
use Rattle.qt_typing.specs.declared.names.Names.{Names}
use Rattle.qt_typing.specs.Checked.{or_refuse, told, unless}
use Rattle.qt_typing.specs.Calls.{Given, Named', argument, argument_qubits, arguments, arguments_from, as_operand, call_given, register_fits, single_fits, with_qubits}
use Rattle.qt_typing.specs.Qubits.{repeats}
use Rattle.qt_typing.specs.Expressions.{value_at}
use Rattle.qt_typing_laws.specs.Fits.{InScopes}
use Rattle.qt_typing_laws.specs.Seen.{NamedIsSeen}
use Rattle.qt_typing_laws.proofs.Gates.{unless_not}
use Rattle.qt_typing_laws.proofs.Holding.{Holds, ok_holds, err_holds, any_holds, then_holds}
use Rattle.qt_typing_laws.proofs.Names.{unfit_is}
use Rattle.qt_typing_laws.proofs.Qubits.{all_both, all_one, qubits_fit}

-- one parameter more, and what it takes
given_more : (ps : List TypedParameter) (vs : List TypedExpr) (qs : List TypedQubits) (p : TypedParameter) (v : List TypedExpr)
    (q : List TypedQubits) → GivenFits ps vs qs → GivenFits (p ∷ []) v q → GivenFits (ps ++ p ∷ []) (vs ++ v) (qs ++ q)
given_more [] [] [] p v q h g = g
given_more [] [] (s ∷ qs) p v q h g = absurd h
given_more [] (x ∷ vs) qs p v q h g = absurd h
given_more (parameter.Value k slot ∷ ps) [] qs p v q h g = absurd h
given_more (parameter.Value k slot ∷ ps) (x ∷ vs) qs p v q h g = given_more ps vs qs p v q h g
given_more (parameter.Qubit slot ∷ ps) vs [] p v q h g = absurd h
given_more (parameter.Qubit slot ∷ ps) vs (qubits.Single s ∷ qs) p v q h g = given_more ps vs qs p v q h g
given_more (parameter.Qubit slot ∷ ps) vs (qubits.Register r ∷ qs) p v q h g = absurd h
given_more (parameter.Register slot size ∷ ps) vs [] p v q h g = absurd h
given_more (parameter.Register slot size ∷ ps) vs (qubits.Single s ∷ qs) p v q h g = absurd h
given_more (parameter.Register slot size ∷ ps) vs (qubits.Register r ∷ qs) p v q h g = (h.0, given_more ps vs qs p v q h.1 g)

-- what is given so far, for these parameters
pub record ArgumentsFit (z : Scope) (ps : List TypedParameter) (given : Given) : Type 0 where
  pub fit : GivenFits ps given.values given.qubits
  pub each : All (QubitsFit z) given.qubits

module _ (z : Scope) (names : Names) (seen : InScopes (NamedIsSeen z) names.scopes) (place : Place) where
  named_qubits : (expr : Expr) → Holds (QubitsFit z) (argument_qubits names place expr)
  unfolding argument_qubits
  named_qubits expr =
      then_holds {r = or_refuse (refusal.E10 place) (as_operand (out-Expr expr))} any_holds
      (λ (o : Named') _. qubits_fit z names seen place o.name o.index)

  one_single : (q : TypedQubits) (slot : ℕ) → Holds (λ _. GivenFits (parameter.Qubit slot ∷ []) [] (q ∷ [])) (single_fits place q)
  unfolding single_fits
  one_single (qubits.Single q) slot = ok_holds tt
  one_single (qubits.Register register) slot = err_holds

  one_register : (q : TypedQubits) (slot size : ℕ)
      → Holds (λ _. GivenFits (parameter.Register slot size ∷ []) [] (q ∷ [])) (register_fits place size q)
  unfolding register_fits
  one_register (qubits.Register register) slot size =
      record { by = λ u e. (eqb-true (length register) size ((unless_not (nat_eq (length register) size) _).by u e), tt) }
  one_register (qubits.Single (qubit.Fixed q)) slot size = err_holds
  one_register (qubits.Single (qubit.Slot s)) slot size = err_holds
  one_register (qubits.Single (qubit.Indexed register index)) slot size = err_holds

  with_one : (ps : List TypedParameter) (done : Given) (p : TypedParameter) (q : TypedQubits) → ArgumentsFit z ps done → QubitsFit z q
      → GivenFits (p ∷ []) [] (q ∷ []) → ArgumentsFit z (ps ++ p ∷ []) (with_qubits done q)
  with_one ps done p q h f g = record {
    fit =
        subst (λ t. GivenFits (ps ++ p ∷ []) t (done.qubits ++ q ∷ [])) (append-nil done.values)
        (given_more ps done.values done.qubits p [] (q ∷ []) h.fit g);
    each = all_both (QubitsFit z) done.qubits (q ∷ []) h.each (all_one (QubitsFit z) q f);
  }

  argument_fits : (ps : List TypedParameter) (done : Given) (p : TypedParameter) (expr : Expr) → ArgumentsFit z ps done
      → Holds (ArgumentsFit z (ps ++ p ∷ [])) (argument names place done p expr)
  unfolding argument
  argument_fits ps done (parameter.Value k slot) expr h =
      then_holds {r = value_at names place k expr} any_holds (λ form _. ok_holds (record {
        fit =
            subst (λ t. GivenFits (ps ++ parameter.Value k slot ∷ []) (done.values ++ form ∷ []) t) (append-nil done.qubits)
            (given_more ps done.values done.qubits (parameter.Value k slot) (form ∷ []) [] h.fit tt);
        each = h.each;
      }))
  argument_fits ps done (parameter.Qubit slot) expr h =
      then_holds (named_qubits expr) (λ q f.
      then_holds (one_single q slot) (λ _ g.
      then_holds {r = unless (repeats done.qubits q) (refusal.E11 place cause.Qubit)} any_holds (λ _ _.
      ok_holds (with_one ps done (parameter.Qubit slot) q h f g))))
  argument_fits ps done (parameter.Register slot size) expr h =
      then_holds (named_qubits expr) (λ q f.
      then_holds (one_register q slot size) (λ _ g.
      then_holds {r = unless (repeats done.qubits q) (refusal.E11 place cause.Qubit)} any_holds (λ _ _.
      ok_holds (with_one ps done (parameter.Register slot size) q h f g))))

  each_fits : (before : List TypedParameter) (done : Given) (ps : List TypedParameter) (given : List Expr) → length ps ≡ length given
      → ArgumentsFit z before done → Holds (ArgumentsFit z (before ++ ps)) (arguments_from names place done ps given)
  unfolding arguments_from
  each_fits before done [] given e h = ok_holds (subst (λ t. ArgumentsFit z t done) (sym (append-nil before)) h)
  each_fits before done (p ∷ ps) [] e h = absurd (omega (arith, e))
  each_fits before done (p ∷ ps) (expr ∷ rest) e h =
      then_holds (argument_fits before done p expr h) (λ more g.
      subst (λ t. Holds (ArgumentsFit z t) (arguments_from names place more ps rest)) (append_assoc before (p ∷ []) ps)
      (each_fits (before ++ p ∷ []) more ps rest (omega (arith, e)) g))

  pub arguments_fit : (ps : List TypedParameter) (given : List Expr) → Holds (ArgumentsFit z ps) (arguments names place ps given)
  unfolding arguments
  arguments_fit ps given =
      then_holds (unless_not (nat_eq (length ps) (length given)) (refusal.E14 place (told (length ps)) (told (length given)))) (λ _ e.
      each_fits [] (record { values = []; qubits = [] }) ps given (eqb-true (length ps) (length given) e)
      (record { fit = tt; each = all_none (QubitsFit z) }))

  pub call_given_fits : (subroutines : List TypedSubroutine) (name : scope.Name) (number : ℕ) (given : List Expr)
      → ((f : TypedSubroutine) → slice_get subroutines number ≡ Some f → z.taken number ≡ f.parameters)
      → Holds (ArgumentsFit z (z.taken number)) (call_given subroutines place name number given names)
  unfolding call_given
  call_given_fits subroutines name number given h =
      then_holds (unfit_is {P = λ (f : TypedSubroutine). z.taken number ≡ f.parameters} place name (slice_get subroutines number)
      (record { by = h }))
      (λ (f : TypedSubroutine) e. subst (λ t. Holds (ArgumentsFit z t) (arguments names place f.parameters given)) (sym e)
      (arguments_fit f.parameters given))
