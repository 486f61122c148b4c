-- Each action that a statement is typed as is well formed.
use denote.Hole.Carrier.{hidden}
use Rattle.std.proofs.Common.{◌≡◌, ℕ, ◌+◌, Bool, true, false, not, List, [], ◌∷◌, ◌++◌, length, map, Option, Some, None, sym, subst}
use Rattle.std.specs.List.{All}
use Rattle.std.specs.Prelude.{if◌then◌else◌, nat_lt}
use Rattle.qt_const_rules.specs.declared.consts.Known.TheVariants as known
use Rattle.qt_names.specs.Entries as scope
use Rattle.qt_registers.specs.declared.fixed.FixedQubit.{FixedQubit}
use Rattle.qt_tree.specs.declared.expression.CompoundOperator.{CompoundOperator}
use Rattle.qt_tree.specs.declared.expression.Expr.{Expr}
use Rattle.qt_tree.specs.declared.expression.Scalar.{Scalar}
use Rattle.qt_tree.specs.declared.place.Place.{Place}
use Rattle.qt_tree.specs.declared.refusal.Cause.TheVariants as cause
use Rattle.qt_tree.specs.declared.refusal.TextRefusal.TheVariants as refusal
use Rattle.qt_tree.specs.declared.statement.GateCall.{GateCall}
use Rattle.qt_tree.specs.declared.statement.Operand.{Operand}
use Rattle.qt_tree.specs.declared.statement.Right.{Right}
use Rattle.qt_tree.specs.declared.statement.Sequence.{Sequence}
use Rattle.qt_tree.specs.declared.statement.Statement.{Statement, roll-Statement}
use Rattle.qt_tree.specs.declared.statement.StatementForm.{StatementForm, roll-StatementForm}
use Rattle.qt_tree.specs.declared.statement.StatementForm.TheOpen as o
use Rattle.qt_tree.specs.declared.statement.StatementForm.TheFolds.{fold-roll-StatementForm, fold_out-Statement, ind-Statement, map-StatementForm}
use Rattle.qt_tree.specs.declared.statement.Target.{Target}
use Rattle.qt_typed.specs.declared.call.TypedQubits.TheVariants as qubits
use Rattle.qt_typed.specs.declared.expression.TypedExpr.{TypedExpr}
use Rattle.qt_typed.specs.declared.expression.TypedTarget.{TypedTarget}
use Rattle.qt_typed.specs.declared.statement.Spot.{Spot}
use Rattle.qt_typed.specs.declared.statement.TypedAction.{TypedAction}
use Rattle.qt_typed.specs.declared.statement.TypedAction.TheVariants as action
use Rattle.qt_typed.specs.declared.statement.TypedRight.{TypedRight}
use Rattle.qt_typed.specs.declared.statement.TypedSequence.{TypedSequence}
use Rattle.qt_typed.specs.declared.statement.TypedStatement.{TypedStatement}
use Rattle.qt_typed.specs.declared.statement.TypedStatement.TheBlock.{hidden-the_row-TypedStatement-0}
use Rattle.qt_value.specs.Types.{width_of}
use Rattle.qt_value.specs.declared.constant.ConstValue.{ConstValue}
use Rattle.qt_value.specs.declared.types.ValueType.{ValueType}
use Rattle.qt_value.specs.declared.types.ValueType.TheVariants as kind
use Rattle.qt_const_rules.specs.declared.modes.Mode.TheVariants as mode
use Rattle.qt_meaning.specs.WellFormed.{ActionFits, CallFits, EachAction, EachInRow, FixedFits, OptionalFits, QubitsFit, RightFits, Scope}
use Rattle.qt_meaning_laws.proofs.Named.{all_none}
use Rattle.qt_meaning_laws.proofs.Runs.{all_first, all_later}
use Rattle.qt_typing.specs.declared.names.Names.{Names}
use Rattle.qt_typing.specs.declared.state.Around.{Around}
use Rattle.qt_typing.specs.declared.state.Body.{Body}
use Rattle.qt_typing.specs.declared.state.Called.{Called}
use Rattle.qt_typing.specs.declared.state.Returns.{Returns}
use Rattle.qt_typing.specs.declared.state.Returns.TheVariants as returns
use Rattle.qt_typing.specs.declared.state.State.{State}
use Rattle.qt_typing.specs.declared.way.Way.TheVariants.{Unwritten}
use Rattle.qt_typing.specs.Checked.{last_number, unless}
use Rattle.qt_typing.specs.Calls.{Given, Measured, Calls, Plain, RightForm, call_as, calling, fits_type, framed, measured, number_called, optional_right, plain, result_at, right_at, right_form, right_of}
use Rattle.qt_typing.specs.Conversions.{wanted}
use Rattle.qt_typing.specs.Declarations.{alias_named, alias_of, alias_qubits, bit_register, bits_size, constant_named, constant_of, constant_valued, declaration_of, declare_constant, declare_variable, declared_with, known_lengths, new_name, parts_from, told_at_end, typed_name, valued, variable_named}
use Rattle.qt_typing.specs.Environment.{Typing, declare, declare_in_both, is_global, take_slots}
use Rattle.qt_typing.specs.Expressions.{typed_of, value_at}
use Rattle.qt_typing.specs.Operators.{right_beside}
use Rattle.qt_typing.specs.Qubits.{outcomes_fit, overlaps, qubits_of}
use Rattle.qt_typing.specs.Statements.{Reading, added, assign, assign_outcomes, assign_result, assign_value, assignment, barrier, both_branches, branches, branching, call_statement, closed, condition_at, each, each_from, for_body, for_inside, for_loop, for_values, form_step, form_typing, form_typing_at, gate_statement, in_loop, inside, jump, kept, measure, op_of_compound, optional_body, reset, return, scoped, silent, simple, statement_step, statement_typing, update, while_body, while_loop}
use Rattle.qt_typing.specs.Targets.{measured_target, target_at}
use Rattle.qt_typing_laws.specs.Fits.{InScopes}
use Rattle.qt_typing_laws.specs.Laws.{StatementsAreWellFormed}
use Rattle.qt_typing_laws.specs.Seen.{IsSeen, NamedIsSeen, StatementFits}
use Rattle.qt_typing_laws.proofs.Calls.{ArgumentsFit, call_given_fits}
use Rattle.qt_typing_laws.proofs.Gates.{gate_call_fits}
use Rattle.qt_typing_laws.proofs.Holding.{Holds, ok_holds, err_holds, any_holds, then_holds}
use Rattle.qt_typing_laws.proofs.Keeping.{Keeps, Any, both_keep, declare_keeps, enter_keeps, leave_keeps, looked_keeps, pure_keeps, seen_keeps, slots_keep, then_keeps, variable_keeps}
use Rattle.qt_typing_laws.proofs.Qubits.{all_both, all_one, operand_fits, places_known}

-- ---- names that stand for no qubits and no gate

pub variable_seen : (z : Scope) (k : ValueType) (lengths : List ℕ) (slot : ℕ) → NamedIsSeen z (variable_named k lengths slot)
unfolding variable_named qubits_of
variable_seen z k lengths slot = record { qubits = λ of e. cc; gate = λ g e. cc }

pub constant_seen : (z : Scope) (k : ValueType) → NamedIsSeen z (constant_named k)
unfolding qubits_of
constant_seen z k = record { qubits = λ of e. cc; gate = λ g e. cc }

alias_seen : (z : Scope) (register : List FixedQubit) → All (FixedFits z) register → NamedIsSeen z (alias_named register)
unfolding qubits_of
alias_seen z register h =
    record { qubits = λ of e. let same : qubits.Register register ≡ of = cc in subst (QubitsFit z) same h; gate = λ g e. cc }

module _ (z : Scope) where
  -- ---- calls and right sides

  framed_keeps : (number : ℕ) (given : Given) → ArgumentsFit z (z.taken number) given
      → Keeps z (λ (c : Called). CallFits z c.call) (framed number given)
  unfolding framed take_slots
  framed_keeps number given h = record {
    by = λ s n. ok_holds (
      (h.fit, h.each),
      record { names = n.names; inside = n.inside; gates = n.gates; standard = n.standard; subroutines = n.subroutines },
    );
  }

  pub calling_keeps : (place : Place) (name : scope.Name) (given : List Expr) → Keeps z (λ (c : Called). CallFits z c.call) (calling place name given)
  unfolding calling
  calling_keeps place name given = record {
    by = λ s n.
        (looked_keeps (λ names. number_called names place name) (λ number.
        then_keeps (seen_keeps (λ names h. call_given_fits z names h place s.subroutines name number given (n.subroutines number)))
        (λ g f. framed_keeps number g f))).by s n;
  }

  measured_fits : (place : Place) (to : ValueType) (operand : Operand) (names : Names) → InScopes (NamedIsSeen z) names.scopes
      → Holds (RightFits z) (measured place to operand names)
  unfolding measured
  measured_fits place to operand names h =
      then_holds (operand_fits z names h place operand) (λ of f.
      then_holds {r = outcomes_fit place (width_of to) of} any_holds (λ _ _. ok_holds f))

  plain_fits : (place : Place) (to : ValueType) (expr : Expr) (names : Names) → Holds (RightFits z) (plain place to expr names)
  unfolding plain
  plain_fits place to expr names = then_holds {r = value_at names place to expr} any_holds (λ form _. ok_holds tt)

  call_as_fits : (place : Place) (to : ValueType) (c : Called) (from : ValueType) → CallFits z c.call
      → Holds (RightFits z) (call_as place to c from)
  unfolding call_as
  call_as_fits place to c from h =
      then_holds {r = unless (not (fits_type from to)) (refusal.E10 place)} any_holds (λ _ _. ok_holds h)

  right_of_keeps : (place : Place) (to : ValueType) (form : RightForm) → Keeps z (RightFits z) (right_of place to form)
  right_of_keeps place to (Measured operand) = seen_keeps (λ names h. measured_fits place to operand names h)
  right_of_keeps place to (Calls name given) =
      then_keeps (calling_keeps place name given) (λ c f.
      seen_keeps (λ names _. then_holds {r = result_at place c} any_holds (λ from _. call_as_fits place to c from f)))
  right_of_keeps place to (Plain expr) = seen_keeps (λ names _. plain_fits place to expr names)

  pub right_keeps : (place : Place) (to : ValueType) (value : Right) → Keeps z (RightFits z) (right_at place to value)
  unfolding right_at
  right_keeps place to value = record { by = λ s n. (right_of_keeps place to (right_form s.names value)).by s n }

  optional_keeps : (place : Place) (to : ValueType) (value : Option Right) → Keeps z (OptionalFits z) (optional_right place to value)
  unfolding optional_right
  optional_keeps place to None = pure_keeps tt
  optional_keeps place to (Some value) = then_keeps (right_keeps place to value) (λ form h. pure_keeps h)

  -- ---- declarations

  pub declared_keeps : (place : Place) (name : scope.Name) (k : ValueType) (lengths : List ℕ) (slot : ℕ)
      → Keeps z Any (declare_variable place name k lengths slot)
  unfolding declare_variable
  declared_keeps place name k lengths slot =
      then_keeps (declare_keeps z place name (variable_named k lengths slot) (known_lengths lengths) (variable_seen z k lengths slot))
      (λ _ _. variable_keeps z (told_at_end name k lengths slot))

  declared_with_keeps : (place : Place) (name : scope.Name) (k : ValueType) (slot : ℕ) (value : Option TypedRight) → OptionalFits z value
      → Keeps z (ActionFits z) (declared_with place name k slot value)
  unfolding declared_with
  declared_with_keeps place name k slot value h = then_keeps (declared_keeps place name k [] slot) (λ _ _. pure_keeps h)

  valued_keeps : (place : Place) (name : scope.Name) (k : ValueType) (value : Option Right) (slot : ℕ)
      → Keeps z (ActionFits z) (valued place name k value slot)
  unfolding valued
  valued_keeps place name k value slot =
      then_keeps (optional_keeps place k value) (λ form h. declared_with_keeps place name k slot form h)

  declaration_keeps : (place : Place) (scalar : Scalar) (name : scope.Name) (value : Option Right)
      → Keeps z (ActionFits z) (declaration_of place scalar name value)
  unfolding declaration_of
  declaration_keeps place scalar name value =
      looked_keeps (typed_name place scalar name) (λ k.
      then_keeps (slots_keep z 1) (λ slot _. valued_keeps place name k value slot))

  bits_keep : (place : Place) (name : scope.Name) (size : Option Expr) → Keeps z (ActionFits z) (bit_register place name size)
  unfolding bit_register
  bits_keep place name size =
      looked_keeps (new_name place name) (λ _.
      looked_keeps (bits_size place size) (λ n.
      then_keeps (slots_keep z 1) (λ slot _. declared_with_keeps place name (kind.Bit n) slot None tt)))

  declare_constant_keeps : (place : Place) (name : scope.Name) (k : ValueType) (c : ConstValue)
      → Keeps z Any (declare_constant place name k c)
  unfolding declare_constant
  declare_constant_keeps place name k c = record { by = λ s n. by_test s n (is_global s) }
    where
      by_test : (s : State) → IsSeen z s → (b : Bool) → Holds (λ (r : Unit {0} × State). Any r.0 × IsSeen z r.1)
          ((if b then declare_in_both place name (constant_named k) (known.Constant c)
          else declare place name (constant_named k) (known.Constant c)) s)
      by_test s n true = (both_keep z place name (constant_named k) (known.Constant c) (constant_seen z k)).by s n
      by_test s n false = (declare_keeps z place name (constant_named k) (known.Constant c) (constant_seen z k)).by s n

  constant_keeps : (place : Place) (scalar : Scalar) (name : scope.Name) (expr : Expr) → Keeps z Any (constant_of place scalar name expr)
  unfolding constant_of
  constant_keeps place scalar name expr =
      looked_keeps (typed_name place scalar name) (λ k.
      looked_keeps (constant_valued place k expr) (λ c. declare_constant_keeps place name k c))

  parts_fit : (place : Place) (done : List FixedQubit) (parts : List Operand) (names : Names) → InScopes (NamedIsSeen z) names.scopes
      → All (FixedFits z) done → Holds (All (FixedFits z)) (parts_from place done parts names)
  unfolding parts_from
  parts_fit place done [] names h g = ok_holds g
  parts_fit place done (part ∷ rest) names h g =
      then_holds (operand_fits z names h place part) (λ of f.
      then_holds (places_known z place of f) (λ register r.
      then_holds {r = unless (overlaps done register) (refusal.E11 place cause.Qubit)} any_holds (λ _ _.
      parts_fit place (done ++ register) rest names h (all_both (FixedFits z) done register g r))))

  alias_fits : (place : Place) (parts : List Operand) (names : Names) → InScopes (NamedIsSeen z) names.scopes
      → Holds (All (FixedFits z)) (alias_qubits place parts names)
  unfolding alias_qubits
  alias_fits place parts names h =
      then_holds (parts_fit place [] parts names h (all_none (FixedFits z))) (λ register r.
      then_holds {r = unless (nat_lt last_number (length register)) (refusal.E12 place cause.Range)} any_holds (λ _ _. ok_holds r))

  alias_keeps : (place : Place) (name : scope.Name) (parts : List Operand) → Keeps z Any (alias_of place name parts)
  unfolding alias_of
  alias_keeps place name parts =
      looked_keeps (new_name place name) (λ _.
      then_keeps (seen_keeps (λ names h. alias_fits place parts names h))
      (λ register r. declare_keeps z place name (alias_named register) known.Hidden (alias_seen z register r)))

  -- ---- assignments

  value_assigned : (place : Place) (target : Target) (expr : Expr) (names : Names) → Holds (ActionFits z) (assign_value place target expr names)
  unfolding assign_value
  value_assigned place target expr names =
      then_holds {r = typed_of names mode.Plain place expr} any_holds (λ x _.
      then_holds {r = target_at place target names} any_holds (λ (t : TypedTarget) _.
      then_holds {r = wanted Unwritten names mode.Plain place t.kind expr x} any_holds (λ form _. ok_holds tt)))

  outcomes_assigned : (place : Place) (target : Target) (operand : Operand) (names : Names) → InScopes (NamedIsSeen z) names.scopes
      → Holds (ActionFits z) (assign_outcomes place target operand names)
  unfolding assign_outcomes
  outcomes_assigned place target operand names h =
      then_holds (operand_fits z names h place operand) (λ of f.
      then_holds {r = measured_target place of target names} any_holds (λ t _. ok_holds f))

  result_assigned : (place : Place) (target : Target) (c : Called) (names : Names) → CallFits z c.call
      → Holds (ActionFits z) (assign_result place target c names)
  unfolding assign_result
  result_assigned place target c names h =
      then_holds {r = result_at place c} any_holds (λ from _.
      then_holds {r = target_at place target names} any_holds (λ (t : TypedTarget) _.
      then_holds (call_as_fits place t.kind c from h) (λ value f. ok_holds f)))

  assign_keeps : (place : Place) (target : Target) (form : RightForm) → Keeps z (ActionFits z) (assign place target form)
  assign_keeps place target (Measured operand) = seen_keeps (λ names h. outcomes_assigned place target operand names h)
  assign_keeps place target (Calls name given) =
      then_keeps (calling_keeps place name given) (λ c f. seen_keeps (λ names _. result_assigned place target c names f))
  assign_keeps place target (Plain expr) = seen_keeps (λ names _. value_assigned place target expr names)

  assignment_keeps : (place : Place) (target : Target) (value : Right) → Keeps z (ActionFits z) (assignment place target value)
  unfolding assignment
  assignment_keeps place target value = record { by = λ s n. (assign_keeps place target (right_form s.names value)).by s n }

  update_fits : (place : Place) (target : Target) (operator : CompoundOperator) (expr : Expr) (names : Names)
      → Holds (ActionFits z) (update place target operator expr names)
  unfolding update
  update_fits place target operator expr names =
      then_holds {r = typed_of names mode.Plain place expr} any_holds (λ x _.
      then_holds {r = target_at place target names} any_holds (λ (t : TypedTarget) _.
      then_holds {r = right_beside names mode.Plain place (op_of_compound operator) t.kind expr x} any_holds (λ b _.
      then_holds {r = unless (not (fits_type b.result t.kind)) (refusal.E10 place)} any_holds (λ _ _. ok_holds tt))))

  -- ---- measurements, resets, barriers and calls

  measure_fits : (place : Place) (operand : Operand) (target : Option Target) (names : Names) → InScopes (NamedIsSeen z) names.scopes
      → Holds (ActionFits z) (measure place operand target names)
  unfolding measure
  measure_fits place operand None names h = then_holds (operand_fits z names h place operand) (λ of f. ok_holds f)
  measure_fits place operand (Some target) names h =
      then_holds (operand_fits z names h place operand) (λ of f.
      then_holds {r = measured_target place of target names} any_holds (λ t _. ok_holds f))

  reset_fits : (place : Place) (operand : Operand) (names : Names) → InScopes (NamedIsSeen z) names.scopes
      → Holds (ActionFits z) (reset place operand names)
  unfolding reset
  reset_fits place operand names h = then_holds (operand_fits z names h place operand) (λ of f. ok_holds f)

  barrier_fits : (place : Place) (operands : List Operand) (names : Names) → InScopes (NamedIsSeen z) names.scopes
      → Holds (ActionFits z) (barrier place operands names)
  unfolding barrier
  barrier_fits place [] names h = ok_holds tt
  barrier_fits place (operand ∷ rest) names h =
      then_holds (operand_fits z names h place operand) (λ of f. barrier_fits place rest names h)

  call_keeps : (place : Place) (name : scope.Name) (given : List Expr) → Keeps z (ActionFits z) (call_statement place name given)
  unfolding call_statement
  call_keeps place name given = then_keeps (calling_keeps place name given) (λ c f. pure_keeps f)

  gate_keeps : (place : Place) (call : GateCall) → Keeps z (ActionFits z) (gate_statement place call)
  unfolding gate_statement
  gate_keeps place call = record {
    by = λ s n.
        (seen_keeps (λ names h. gate_call_fits z names h n.standard place s.included s.all_gates call n.gates)).by s n;
  }

  jump_fits : (place : Place) (around : Around) (a : TypedAction) → ActionFits z a → Holds (ActionFits z) (jump place around a)
  unfolding jump
  jump_fits place around a h =
      then_holds {r = unless (not around.in_loop) (refusal.E11 place cause.Loop)} any_holds (λ _ _. ok_holds h)

  return_keeps : (place : Place) (of : Returns) (value : Option Right) → Keeps z (ActionFits z) (return place of value)
  unfolding return
  return_keeps place returns.Nothing None = pure_keeps tt
  return_keeps place (returns.Value k) (Some value) = then_keeps (right_keeps place k value) (λ form h. pure_keeps h)
  return_keeps place returns.Nothing (Some value) = record { by = λ s n. err_holds }
  return_keeps place (returns.Value k) None = record { by = λ s n. err_holds }
  return_keeps place returns.Nowhere value = record { by = λ s n. err_holds }

  -- ---- bodies

  abbrev StatementsFit : List TypedStatement → Type 0
  StatementsFit all = All (EachAction (ActionFits z)) all

  abbrev BodyIsFit : Body → Type 0
  BodyIsFit b = StatementsFit b.statements

  abbrev ReadingKeeps : Reading → Type 0
  ReadingKeeps reading = (around : Around) → Keeps z (StatementFits z) (reading around)

  abbrev ReadingsKeep : List Reading → Type 0
  ReadingsKeep [] = Unit {0}
  ReadingsKeep (reading ∷ rest) = ReadingKeeps reading × ReadingsKeep rest

  abbrev OptionalKeep : Option (List Reading) → Type 0
  OptionalKeep None = Unit {0}
  OptionalKeep (Some readings) = ReadingsKeep readings

  pub added_fits : (done : List TypedStatement) (t : Option TypedStatement) → StatementsFit done → StatementFits z t → StatementsFit (added done t)
  unfolding added
  added_fits done None h g = h
  added_fits done (Some statement) h g =
      all_both (EachAction (ActionFits z)) done (statement ∷ []) h (all_one (EachAction (ActionFits z)) statement g)

  each_keeps : (around : Around) (done : List TypedStatement) (readings : List Reading) → StatementsFit done → ReadingsKeep readings
      → Keeps z StatementsFit (each_from around done readings)
  each_keeps around done [] h g = pure_keeps h
  each_keeps around done (reading ∷ rest) h g =
      then_keeps (g.0 around) (λ t f. each_keeps around (added done t) rest (added_fits done t h f) g.1)

  closed_keeps : (first known : ℕ) (statements : List TypedStatement) → StatementsFit statements → Keeps z BodyIsFit (closed first known statements)
  unfolding closed
  closed_keeps first known statements h =
      then_keeps (leave_keeps z known) (λ _ _. record { by = λ s n. ok_holds (h, n) })

  pub inside_keeps : (around : Around) (body : List Reading) (first known : ℕ) → ReadingsKeep body
      → Keeps z BodyIsFit (inside around body first known)
  unfolding inside each
  inside_keeps around body first known h =
      then_keeps (each_keeps around [] body (all_none (EachAction (ActionFits z))) h) (λ statements g. closed_keeps first known statements g)

  scoped_keeps : (around : Around) (body : List Reading) → ReadingsKeep body → Keeps z BodyIsFit (scoped around body)
  unfolding scoped
  scoped_keeps around body h = record {
    by = λ s n.
        (then_keeps (enter_keeps z) (λ _ _. inside_keeps around body s.slots (length s.names.consts) h)).by s n;
  }

  optional_body_keeps : (around : Around) (body : Option (List Reading)) → OptionalKeep body → Keeps z BodyIsFit (optional_body around body)
  unfolding optional_body
  optional_body_keeps around None h = record { by = λ s n. ok_holds (all_none (EachAction (ActionFits z)), n) }
  optional_body_keeps around (Some body) h = scoped_keeps around body h

  row_fits : (all : List TypedStatement) → StatementsFit all → EachInRow (ActionFits z) (hidden-the_row-TypedStatement-0 all)
  unfolding hidden-the_row-TypedStatement-0 hidden
  row_fits [] h = tt
  row_fits (s ∷ rest) h =
      (all_first (EachAction (ActionFits z)) s rest h, row_fits rest (all_later (EachAction (ActionFits z)) s rest h))

  both_keeps : (at : Spot) (around : Around) (test : TypedExpr) (otherwise : Option (List Reading)) (a : Body) → OptionalKeep otherwise
      → BodyIsFit a → Keeps z (StatementFits z) (both_branches at around test otherwise a)
  unfolding both_branches
  both_keeps at around test otherwise a h g =
      then_keeps (optional_body_keeps around otherwise h) (λ b f. pure_keeps (row_fits a.statements g, row_fits b.statements f))

  branching_keeps : (at : Spot) (around : Around) (condition : Expr) (body : List Reading) (otherwise : Option (List Reading))
      → ReadingsKeep body → OptionalKeep otherwise → Keeps z (StatementFits z) (branching at around condition body otherwise)
  unfolding branching branches
  branching_keeps at around condition body otherwise h g =
      looked_keeps (condition_at at.place condition) (λ test.
      then_keeps (scoped_keeps around body h) (λ a f. both_keeps at around test otherwise a g f))

  while_body_keeps : (at : Spot) (around : Around) (body : List Reading) (test : TypedExpr) → ReadingsKeep body
      → Keeps z (StatementFits z) (while_body at around body test)
  unfolding while_body
  while_body_keeps at around body test h = record {
    by = λ s n.
        (then_keeps (scoped_keeps (in_loop around) body h) (λ a f. pure_keeps (row_fits a.statements f))).by s n;
  }

  while_keeps : (at : Spot) (around : Around) (condition : Expr) (body : List Reading) → ReadingsKeep body
      → Keeps z (StatementFits z) (while_loop at around condition body)
  unfolding while_loop
  while_keeps at around condition body h =
      looked_keeps (condition_at at.place condition) (λ test. while_body_keeps at around body test h)

  for_inside_keeps : (at : Spot) (around : Around) (name : scope.Name) (k : ValueType) (values : TypedSequence) (body : List Reading)
      (first known : ℕ) → ReadingsKeep body → Keeps z (StatementFits z) (for_inside at around name k values body first known)
  unfolding for_inside
  for_inside_keeps at around name k values body first known h = record {
    by = λ s n.
        (then_keeps (declared_keeps at.place name k [] first) (λ _ _.
        then_keeps (inside_keeps (in_loop around) body s.slots known h) (λ a f. pure_keeps (row_fits a.statements f)))).by s n;
  }

  for_body_keeps : (at : Spot) (around : Around) (name : scope.Name) (k : ValueType) (body : List Reading) (values : TypedSequence)
      → ReadingsKeep body → Keeps z (StatementFits z) (for_body at around name k body values)
  unfolding for_body
  for_body_keeps at around name k body values h = record {
    by = λ s n.
        (then_keeps (slots_keep z (1 + kept values)) (λ first _.
        then_keeps (enter_keeps z) (λ _ _. for_inside_keeps at around name k values body first (length s.names.consts) h))).by s n;
  }

  for_keeps : (at : Spot) (around : Around) (scalar : Scalar) (name : scope.Name) (values : Sequence) (body : List Reading)
      → ReadingsKeep body → Keeps z (StatementFits z) (for_loop at around scalar name values body)
  unfolding for_loop
  for_keeps at around scalar name values body h =
      looked_keeps (for_values at.place scalar values) (λ (r : ValueType × TypedSequence). for_body_keeps at around name r.0 body r.1 h)

  -- ---- the forms

  simple_keeps : {p : Typing TypedAction} (at : Spot) → Keeps z (ActionFits z) p
      → Keeps z (StatementFits z) (simple at p)
  simple_keeps at h = then_keeps h (λ a f. pure_keeps f)

  silent_keeps : {p : Typing (Unit {0})} → Keeps z Any p → Keeps z (StatementFits z) (silent p)
  silent_keeps h = then_keeps h (λ _ _. pure_keeps tt)

  abbrev FormKeeps : StatementForm → Type 0
  FormKeeps form = (place : Place) (around : Around) → Keeps z (StatementFits z) (form_typing form place around)

  abbrev StatementKeeps : Statement → Type 0
  StatementKeeps statement = ReadingKeeps (statement_typing statement)

  abbrev typed_layer : o.StatementForm-F StatementForm Statement → o.StatementForm-F (Place → Reading) Reading
  typed_layer = map-StatementForm StatementForm Statement (Place → Reading) Reading form_typing statement_typing

  module _ {X Y : Type 0} (f : X → StatementForm) (g : Y → Statement) (keeps : (y : Y) → StatementKeeps (g y)) where
    each_reading : (ys : List Y) → ReadingsKeep (map statement_typing (map g ys))
    each_reading [] = tt
    each_reading (y ∷ ys) = (keeps y, each_reading ys)

    abbrev filled : o.StatementForm-F X Y → o.StatementForm-F StatementForm Statement
    filled = map-StatementForm X Y StatementForm Statement f g

    layer_keeps : (y : o.StatementForm-F X Y) (at : Spot) (around : Around)
        → Keeps z (StatementFits z) (form_typing_at (typed_layer (filled y)) at around)
    layer_keeps (o.Declaration scalar name value) at around = simple_keeps at (declaration_keeps at.place scalar name value)
    layer_keeps (o.BitRegister name size) at around = simple_keeps at (bits_keep at.place name size)
    layer_keeps (o.Constant scalar name value) at around = silent_keeps (constant_keeps at.place scalar name value)
    layer_keeps (o.Alias name parts) at around = silent_keeps (alias_keeps at.place name parts)
    layer_keeps (o.Assignment target value) at around = simple_keeps at (assignment_keeps at.place target value)
    layer_keeps (o.CompoundAssignment target operator value) at around =
        simple_keeps at (seen_keeps (λ names _. update_fits at.place target operator value names))
    layer_keeps (o.Measure operand target) at around =
        simple_keeps at (seen_keeps (λ names h. measure_fits at.place operand target names h))
    layer_keeps (o.Reset operand) at around = simple_keeps at (seen_keeps (λ names h. reset_fits at.place operand names h))
    layer_keeps (o.Barrier operands) at around = simple_keeps at (seen_keeps (λ names h. barrier_fits at.place operands names h))
    layer_keeps (o.Gate call) at around = simple_keeps at (gate_keeps at.place call)
    layer_keeps (o.Call name given) at around = simple_keeps at (call_keeps at.place name given)
    layer_keeps (o.If condition body None) at around = branching_keeps at around condition _ None (each_reading body) tt
    layer_keeps (o.If condition body (Some otherwise)) at around =
        branching_keeps at around condition _ (Some (map statement_typing (map g otherwise))) (each_reading body) (each_reading otherwise)
    layer_keeps (o.While condition body) at around = while_keeps at around condition _ (each_reading body)
    layer_keeps (o.For scalar name values body) at around = for_keeps at around scalar name values _ (each_reading body)
    layer_keeps o.Break at around = simple_keeps at (seen_keeps (λ names _. jump_fits at.place around action.Break tt))
    layer_keeps o.Continue at around = simple_keeps at (seen_keeps (λ names _. jump_fits at.place around action.Continue tt))
    layer_keeps (o.Return value) at around = simple_keeps at (return_keeps at.place around.returns value)
    layer_keeps o.End at around = simple_keeps at (pure_keeps tt)

    form_keeps : (y : o.StatementForm-F X Y) → FormKeeps (roll-StatementForm (filled y))
    form_keeps y place around =
        subst (λ (r : Place → Reading). Keeps z (StatementFits z) (r place around))
        (sym (fold-roll-StatementForm (Place → Reading) Reading form_step statement_step (filled y)))
        (layer_keeps y _ around)

  statement_keeps : (x : Statement) → FormKeeps x.form → StatementKeeps x
  statement_keeps x h around =
      subst (λ (r : Reading). Keeps z (StatementFits z) (r around))
      (sym (fold_out-Statement (Place → Reading) Reading form_step statement_step x)) (h x.place around)

  pub each_statement_keeps : (x : Statement) → StatementKeeps x
  each_statement_keeps = ind-Statement FormKeeps StatementKeeps
      (λ x y is. subst (λ t. FormKeeps (roll-StatementForm t)) is (form_keeps (λ e. e.0) (λ e. e.0) (λ e. e.1) y))
      (λ x y is. subst (λ t. StatementKeeps (roll-Statement t)) is
      (statement_keeps (record { place = y.place; form = y.form.0 }) y.form.1))

pub statements_are_well_formed : StatementsAreWellFormed
statements_are_well_formed z statement around old new typed h e = ((each_statement_keeps z statement around).by old h).by (typed, new) e
