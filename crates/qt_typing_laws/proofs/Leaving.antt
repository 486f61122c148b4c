-- What a statement leaves as it is: gates, qubits and subroutines, all scopes but the innermost, and what bodies see, to which it may add
-- constants.
use Rattle.std.proofs.Common.{◌≡◌, ℕ, Bool, true, false, List, [], ◌∷◌, ◌++◌, length, map, Option, Some, None, refl, sym, ap, subst, ◌∙◌}
use Rattle.std.specs.Prelude.{if◌then◌else◌}
use Rattle.qt_const_rules.specs.declared.consts.Known.{Known}
use Rattle.qt_const_rules.specs.declared.consts.Known.TheVariants as known
use Rattle.qt_names.specs.Entries as scope
use Rattle.qt_names.specs.Scopes.{declared, declares, left}
use Rattle.qt_names.specs.declared.named.Named.{Named}
use Rattle.qt_tree.specs.declared.expression.Expr.{Expr}
use Rattle.qt_tree.specs.declared.expression.Scalar.{Scalar}
use Rattle.qt_tree.specs.declared.place.Place.{Place}
use Rattle.qt_tree.specs.declared.statement.GateCall.{GateCall}
use Rattle.qt_tree.specs.declared.statement.Operand.{Operand}
use Rattle.qt_tree.specs.declared.statement.Right.{Right}
use Rattle.qt_tree.specs.declared.statement.Sequence.{Sequence}
use Rattle.qt_tree.specs.declared.statement.Statement.{Statement, roll-Statement}
use Rattle.qt_tree.specs.declared.statement.StatementForm.{StatementForm, roll-StatementForm}
use Rattle.qt_tree.specs.declared.statement.StatementForm.TheOpen as o
use Rattle.qt_tree.specs.declared.statement.StatementForm.TheFolds.{fold-roll-StatementForm, fold_out-Statement, ind-Statement, map-StatementForm}
use Rattle.qt_tree.specs.declared.statement.Target.{Target}
use Rattle.qt_typed.specs.declared.expression.TypedExpr.{TypedExpr}
use Rattle.qt_typed.specs.declared.program.TypedOutput.{TypedOutput}
use Rattle.qt_typed.specs.declared.statement.Spot.{Spot}
use Rattle.qt_typed.specs.declared.statement.TypedAction.{TypedAction}
use Rattle.qt_typed.specs.declared.statement.TypedRight.{TypedRight}
use Rattle.qt_typed.specs.declared.statement.TypedSequence.{TypedSequence}
use Rattle.qt_typed.specs.declared.statement.TypedStatement.{TypedStatement}
use Rattle.qt_value.specs.declared.constant.ConstValue.{ConstValue}
use Rattle.qt_value.specs.declared.types.ValueType.{ValueType}
use Rattle.qt_value.specs.declared.types.ValueType.TheVariants as kind
use Rattle.qt_typing.specs.declared.names.Names.{Names}
use Rattle.qt_typing.specs.declared.state.Around.{Around}
use Rattle.qt_typing.specs.declared.state.Body.{Body}
use Rattle.qt_typing.specs.declared.state.Returns.{Returns}
use Rattle.qt_typing.specs.declared.state.Returns.TheVariants as returns
use Rattle.qt_typing.specs.declared.state.State.{State}
use Rattle.qt_typing.specs.Checked.{Checked, and_then}
use Rattle.qt_typing.specs.Calls.{Given, Measured, Calls, Plain, RightForm, call_as, call_given, calling, framed, measured, number_called, optional_right, plain, result_at, right_at, right_form, right_of}
use Rattle.qt_typing.specs.Declarations.{alias_named, alias_of, alias_qubits, bit_register, bits_size, constant_named, constant_of, constant_valued, declaration_of, declare_constant, declare_variable, declared_with, keep_variable, known_lengths, new_name, told_at_end, typed_name, valued, variable_named}
use Rattle.qt_typing.specs.Environment.{Typing, ◌>>=◌, declare, declare_in_both, enter, is_global, leave, named_in, pure, seen, take_slots}
use Rattle.qt_typing.specs.Gates.{gate_call}
use Rattle.qt_typing.specs.Statements.{Reading, added, assign, assign_outcomes, assign_result, assign_value, assignment, barrier, both_branches, branches, branching, call_statement, closed, condition_at, each, each_from, for_body, for_inside, for_loop, for_values, form_step, form_typing, form_typing_at, gate_statement, in_loop, inside, measure, optional_body, reset, return, scoped, silent, simple, statement_step, statement_typing, update, while_body, while_loop}
use Rattle.qt_typing_laws.proofs.Holding.{Holds, ok_holds, err_holds, any_holds, then_holds, if_holds, weakened}

-- the scopes around the innermost one
abbrev pub around_scope : List (List scope.Entry) → List (List scope.Entry)
around_scope [] = []
around_scope (inner ∷ outer) = outer

declared_around : (scopes : List (List scope.Entry)) (name : scope.Name) (it : Named) → around_scope (declared scopes name it) ≡ around_scope scopes
declared_around [] name it = refl
declared_around (inner ∷ outer) name it = refl

left_around : (scopes : List (List scope.Entry)) → around_scope (left scopes) ≡ around_scope (around_scope scopes)
left_around [] = refl
left_around (inner ∷ []) = refl
left_around (inner ∷ next ∷ outer) = refl

pub behind_left : (scopes outer : List (List scope.Entry)) → around_scope scopes ≡ outer → around_scope (left scopes) ≡ around_scope outer
behind_left scopes outer e = left_around scopes ∙ ap around_scope e

-- a scope that was open goes on behind an inner one
pub left_to : (scopes : List (List scope.Entry)) (inner : List scope.Entry) (outer : List (List scope.Entry))
    → around_scope scopes ≡ inner ∷ outer → left scopes ≡ inner ∷ outer
left_to [] inner outer e = cc
left_to (s ∷ []) inner outer e = cc
left_to (s ∷ next ∷ rest) inner outer e = e

-- behind it, where I holds of what bodies see
pub record Left (I : List (List scope.Entry) → Type 0) (outer : List (List scope.Entry)) (old new : State) : Type 0 where
  pub scopes : around_scope new.names.scopes ≡ outer
  pub inside : I old.inside.scopes → I new.inside.scopes
  pub gates : new.gates ≡ old.gates
  pub all_gates : new.all_gates ≡ old.all_gates
  pub qubits : new.qubits ≡ old.qubits
  pub subroutines : new.subroutines ≡ old.subroutines

pub joined : {I : List (List scope.Entry) → Type 0} {outer : List (List scope.Entry)} {a b c : State} → Left I outer a b → Left I (around_scope b.names.scopes) b c
    → Left I outer a c
joined l m = record {
  scopes = m.scopes ∙ l.scopes;
  inside = λ h. m.inside (l.inside h);
  gates = m.gates ∙ l.gates;
  all_gates = m.all_gates ∙ l.all_gates;
  qubits = m.qubits ∙ l.qubits;
  subroutines = m.subroutines ∙ l.subroutines;
}

-- other names
renamed : {I : List (List scope.Entry) → Type 0} {outer : List (List scope.Entry)} (s : State) (names : Names) → around_scope names.scopes ≡ outer
    → Left I outer s (record s { names = names })
renamed s names e =
    record { scopes = e; inside = λ h. h; gates = refl; all_gates = refl; qubits = refl; subroutines = refl }

pub record Leaves {A : Type 0} (I : List (List scope.Entry) → Type 0) (p : Typing A) : Type 0 where
  pub by : (s : State) → Holds (λ (r : A × State). Left I (around_scope s.names.scopes) s r.1) (p s)

same_left : {I : List (List scope.Entry) → Type 0} (s : State) → Left I (around_scope s.names.scopes) s s
same_left s = renamed s s.names refl

pub then_leaves : {A B : Type 0} {I : List (List scope.Entry) → Type 0} {p : Typing A} {f : A → Typing B} → Leaves I p → ((a : A) → Leaves I (f a))
    → Leaves I (p >>= f)
then_leaves h g = record { by = λ s. then_holds (h.by s) (λ r l. weakened ((g r.0).by r.1) (λ q m. joined l m)) }

pub pure_leaves : {A : Type 0} {I : List (List scope.Entry) → Type 0} {a : A} → Leaves I (pure a)
pure_leaves = record { by = λ s. ok_holds (same_left s) }

pub seen_leaves : {A : Type 0} {I : List (List scope.Entry) → Type 0} (j : Names → Checked A) → Leaves I (seen j)
seen_leaves j = record { by = λ s. then_holds {r = j s.names} any_holds (λ a _. ok_holds (same_left s)) }

pub looked_leaves : {A B : Type 0} {I : List (List scope.Entry) → Type 0} {f : A → Typing B} (j : Names → Checked A) → ((a : A) → Leaves I (f a))
    → Leaves I (seen j >>= f)
looked_leaves j g = then_leaves (seen_leaves j) g

named_in_around : (place : Place) (name : scope.Name) (it : Named) (known : Known) (names : Names)
    → Holds (λ (n : Names). around_scope n.scopes ≡ around_scope names.scopes) (named_in place name it known names)
unfolding named_in
named_in_around place name it known names =
    then_holds {P = λ t. around_scope t ≡ around_scope names.scopes}
    (if_holds (declares names.scopes name) (λ e. err_holds) (λ e. ok_holds (declared_around names.scopes name it)))
    (λ scopes e. ok_holds e)

named_in_keeps : (I : List (List scope.Entry) → Type 0) (place : Place) (name : scope.Name) (it : Named) (known : Known) (names : Names)
    → ((scopes : List (List scope.Entry)) → I scopes → I (declared scopes name it)) → Holds (λ (n : Names). I names.scopes → I n.scopes) (named_in place name it known names)
unfolding named_in
named_in_keeps I place name it known names g =
    then_holds {P = λ t. I names.scopes → I t}
    (if_holds (declares names.scopes name) (λ e. err_holds) (λ e. ok_holds (λ h. g names.scopes h)))
    (λ scopes f. ok_holds f)

module _ (I : List (List scope.Entry) → Type 0) where
  pub slots_leave : (n : ℕ) → Leaves I (take_slots n)
  unfolding take_slots
  slots_leave n = record {
    by = λ s.
        ok_holds (record { scopes = refl; inside = λ h. h; gates = refl; all_gates = refl; qubits = refl; subroutines = refl });
  }

  pub declare_leaves : (place : Place) (name : scope.Name) (it : Named) (known : Known) → Leaves I (declare place name it known)
  unfolding declare
  declare_leaves place name it known = record {
    by = λ s.
        then_holds (named_in_around place name it known s.names) (λ names e. ok_holds (renamed s names e));
  }

  pub both_leave : (place : Place) (name : scope.Name) (it : Named) (known : Known)
      → ((scopes : List (List scope.Entry)) → I scopes → I (declared scopes name it)) → Leaves I (declare_in_both place name it known)
  unfolding declare_in_both
  both_leave place name it known g = record {
    by = λ s.
        then_holds (named_in_around place name it known s.names) (λ names e.
        then_holds (named_in_keeps I place name it known s.inside g) (λ inside f.
        ok_holds (record { scopes = e; inside = f; gates = refl; all_gates = refl; qubits = refl; subroutines = refl })));
  }

  variable_leaves : (output : TypedOutput) → Leaves I (keep_variable output)
  unfolding keep_variable
  variable_leaves output = record { by = λ s. ok_holds (by_test s (is_global s)) }
    where
      by_test : (s : State) (b : Bool)
          → Left I (around_scope s.names.scopes) s (if b then record s { variables = s.variables ++ output ∷ [] } else s)
      by_test s true = record { scopes = refl; inside = λ h. h; gates = refl; all_gates = refl; qubits = refl; subroutines = refl }
      by_test s false = record { scopes = refl; inside = λ h. h; gates = refl; all_gates = refl; qubits = refl; subroutines = refl }

module _ (I : List (List scope.Entry) → Type 0) (constants : (scopes : List (List scope.Entry)) (name : scope.Name) (k : ValueType) → I scopes
    → I (declared scopes name (constant_named k))) where
  framed_leaves : (number : ℕ) (given : Given) → Leaves I (framed number given)
  unfolding framed take_slots
  framed_leaves number given = record {
    by = λ s.
        ok_holds (record { scopes = refl; inside = λ h. h; gates = refl; all_gates = refl; qubits = refl; subroutines = refl });
  }

  calling_leaves : (place : Place) (name : scope.Name) (given : List Expr) → Leaves I (calling place name given)
  unfolding calling
  calling_leaves place name given = record {
    by = λ s.
        (looked_leaves (λ names. number_called names place name) (λ number.
        looked_leaves (call_given s.subroutines place name number given) (λ g. framed_leaves number g))).by s;
  }

  right_of_leaves : (place : Place) (to : ValueType) (form : RightForm) → Leaves I (right_of place to form)
  right_of_leaves place to (Measured operand) = seen_leaves (measured place to operand)
  right_of_leaves place to (Calls name given) =
      then_leaves (calling_leaves place name given) (λ c. seen_leaves (λ _. and_then (result_at place c) (call_as place to c)))
  right_of_leaves place to (Plain expr) = seen_leaves (plain place to expr)

  right_leaves : (place : Place) (to : ValueType) (value : Right) → Leaves I (right_at place to value)
  unfolding right_at
  right_leaves place to value = record { by = λ s. (right_of_leaves place to (right_form s.names value)).by s }

  optional_leaves : (place : Place) (to : ValueType) (value : Option Right) → Leaves I (optional_right place to value)
  unfolding optional_right
  optional_leaves place to None = pure_leaves
  optional_leaves place to (Some value) = then_leaves (right_leaves place to value) (λ form. pure_leaves)

  pub declared_leaves : (place : Place) (name : scope.Name) (k : ValueType) (lengths : List ℕ) (slot : ℕ)
      → Leaves I (declare_variable place name k lengths slot)
  unfolding declare_variable
  declared_leaves place name k lengths slot =
      then_leaves (declare_leaves I place name (variable_named k lengths slot) (known_lengths lengths))
      (λ _. variable_leaves I (told_at_end name k lengths slot))

  declared_with_leaves : (place : Place) (name : scope.Name) (k : ValueType) (slot : ℕ) (value : Option TypedRight)
      → Leaves I (declared_with place name k slot value)
  unfolding declared_with
  declared_with_leaves place name k slot value = then_leaves (declared_leaves place name k [] slot) (λ _. pure_leaves)

  valued_leaves : (place : Place) (name : scope.Name) (k : ValueType) (value : Option Right) (slot : ℕ) → Leaves I (valued place name k value slot)
  unfolding valued
  valued_leaves place name k value slot = then_leaves (optional_leaves place k value) (λ form. declared_with_leaves place name k slot form)

  declaration_leaves : (place : Place) (scalar : Scalar) (name : scope.Name) (value : Option Right)
      → Leaves I (declaration_of place scalar name value)
  unfolding declaration_of
  declaration_leaves place scalar name value =
      looked_leaves (typed_name place scalar name) (λ k. then_leaves (slots_leave I 1) (λ slot. valued_leaves place name k value slot))

  bits_leave : (place : Place) (name : scope.Name) (size : Option Expr) → Leaves I (bit_register place name size)
  unfolding bit_register
  bits_leave place name size =
      looked_leaves (new_name place name) (λ _.
      looked_leaves (bits_size place size) (λ n.
      then_leaves (slots_leave I 1) (λ slot. declared_with_leaves place name (kind.Bit n) slot None)))

  constant_declared : (place : Place) (name : scope.Name) (k : ValueType) (c : ConstValue) → Leaves I (declare_constant place name k c)
  unfolding declare_constant
  constant_declared place name k c = record { by = λ s. by_test s (is_global s) }
    where
      by_test : (s : State) (b : Bool) → Holds (λ (r : Unit {0} × State). Left I (around_scope s.names.scopes) s r.1)
          ((if b then declare_in_both place name (constant_named k) (known.Constant c)
          else declare place name (constant_named k) (known.Constant c)) s)
      by_test s true = (both_leave I place name (constant_named k) (known.Constant c) (λ scopes h. constants scopes name k h)).by s
      by_test s false = (declare_leaves I place name (constant_named k) (known.Constant c)).by s

  constant_leaves : (place : Place) (scalar : Scalar) (name : scope.Name) (expr : Expr) → Leaves I (constant_of place scalar name expr)
  unfolding constant_of
  constant_leaves place scalar name expr =
      looked_leaves (typed_name place scalar name) (λ k.
      looked_leaves (constant_valued place k expr) (λ c. constant_declared place name k c))

  alias_leaves : (place : Place) (name : scope.Name) (parts : List Operand) → Leaves I (alias_of place name parts)
  unfolding alias_of
  alias_leaves place name parts =
      looked_leaves (new_name place name) (λ _.
      looked_leaves (alias_qubits place parts) (λ register. declare_leaves I place name (alias_named register) known.Hidden))

  assign_leaves : (place : Place) (target : Target) (form : RightForm) → Leaves I (assign place target form)
  assign_leaves place target (Measured operand) = seen_leaves (assign_outcomes place target operand)
  assign_leaves place target (Calls name given) =
      then_leaves (calling_leaves place name given) (λ c. seen_leaves (assign_result place target c))
  assign_leaves place target (Plain expr) = seen_leaves (assign_value place target expr)

  assignment_leaves : (place : Place) (target : Target) (value : Right) → Leaves I (assignment place target value)
  unfolding assignment
  assignment_leaves place target value = record { by = λ s. (assign_leaves place target (right_form s.names value)).by s }

  call_leaves : (place : Place) (name : scope.Name) (given : List Expr) → Leaves I (call_statement place name given)
  unfolding call_statement
  call_leaves place name given = then_leaves (calling_leaves place name given) (λ c. pure_leaves)

  gate_leaves : (place : Place) (call : GateCall) → Leaves I (gate_statement place call)
  unfolding gate_statement
  gate_leaves place call = record { by = λ s. (seen_leaves (gate_call place s.included s.all_gates call)).by s }

  return_leaves : (place : Place) (of : Returns) (value : Option Right) → Leaves I (return place of value)
  unfolding return
  return_leaves place returns.Nothing None = pure_leaves
  return_leaves place (returns.Value k) (Some value) = then_leaves (right_leaves place k value) (λ form. pure_leaves)
  return_leaves place returns.Nothing (Some value) = record { by = λ s. err_holds }
  return_leaves place (returns.Value k) None = record { by = λ s. err_holds }
  return_leaves place returns.Nowhere value = record { by = λ s. err_holds }

  -- ---- bodies

  abbrev pub ReadingLeaves : Reading → Type 0
  ReadingLeaves reading = (around : Around) → Leaves I (reading around)

  abbrev pub ReadingsLeave : List Reading → Type 0
  ReadingsLeave [] = Unit {0}
  ReadingsLeave (reading ∷ rest) = ReadingLeaves reading × ReadingsLeave rest

  abbrev OptionalLeave : Option (List Reading) → Type 0
  OptionalLeave None = Unit {0}
  OptionalLeave (Some readings) = ReadingsLeave readings

  each_leaves : (around : Around) (done : List TypedStatement) (readings : List Reading) → ReadingsLeave readings
      → Leaves I (each_from around done readings)
  each_leaves around done [] g = pure_leaves
  each_leaves around done (reading ∷ rest) g =
      then_leaves (g.0 around) (λ t. each_leaves around (added done t) rest g.1)

  -- the innermost scope ends
  pub inside_leaves : (around : Around) (body : List Reading) (first known : ℕ) → ReadingsLeave body → (s : State)
      → Holds (λ (r : Body × State). Left I (around_scope (around_scope s.names.scopes)) s r.1) (inside around body first known s)
  unfolding inside each closed leave
  inside_leaves around body first known h s =
      then_holds ((each_leaves around [] body h).by s) (λ r l.
      ok_holds (record {
        scopes = behind_left r.1.names.scopes (around_scope s.names.scopes) l.scopes;
        inside = l.inside;
        gates = l.gates;
        all_gates = l.all_gates;
        qubits = l.qubits;
        subroutines = l.subroutines;
      }))

  -- and the scopes around it are as before
  pub inside_back : (around : Around) (body : List Reading) (first known : ℕ) → ReadingsLeave body → (s : State)
      (inner : List scope.Entry) (outer : List (List scope.Entry)) → around_scope s.names.scopes ≡ inner ∷ outer
      → Holds (λ (r : Body × State). (r.1.names.scopes ≡ inner ∷ outer) × (r.1.gates ≡ s.gates)) (inside around body first known s)
  unfolding inside each closed leave
  inside_back around body first known h s inner outer e =
      then_holds ((each_leaves around [] body h).by s) (λ r l.
      ok_holds (left_to r.1.names.scopes inner outer (l.scopes ∙ e), l.gates))

  entered_left : {outer : List (List scope.Entry)} {s t : State} (names : Names) → Left I outer (record s { names = names }) t → Left I outer s t
  entered_left names l = record {
    scopes = l.scopes;
    inside = l.inside;
    gates = l.gates;
    all_gates = l.all_gates;
    qubits = l.qubits;
    subroutines = l.subroutines;
  }

  scoped_leaves : (around : Around) (body : List Reading) → ReadingsLeave body → Leaves I (scoped around body)
  unfolding scoped enter
  scoped_leaves around body h = record {
    by = λ s.
        weakened (inside_leaves around body s.slots (length s.names.consts) h (record s { names = record { scopes = [] ∷ s.names.scopes; consts = s.names.consts } }))
        (λ r l. entered_left (record { scopes = [] ∷ s.names.scopes; consts = s.names.consts }) l);
  }

  optional_body_leaves : (around : Around) (body : Option (List Reading)) → OptionalLeave body → Leaves I (optional_body around body)
  unfolding optional_body
  optional_body_leaves around None h = record { by = λ s. ok_holds (same_left s) }
  optional_body_leaves around (Some body) h = scoped_leaves around body h

  both_branches_leave : (at : Spot) (around : Around) (test : TypedExpr) (otherwise : Option (List Reading)) (a : Body) → OptionalLeave otherwise
      → Leaves I (both_branches at around test otherwise a)
  unfolding both_branches
  both_branches_leave at around test otherwise a h = then_leaves (optional_body_leaves around otherwise h) (λ b. pure_leaves)

  branching_leaves : (at : Spot) (around : Around) (condition : Expr) (body : List Reading) (otherwise : Option (List Reading))
      → ReadingsLeave body → OptionalLeave otherwise → Leaves I (branching at around condition body otherwise)
  unfolding branching branches
  branching_leaves at around condition body otherwise h g =
      looked_leaves (condition_at at.place condition) (λ test.
      then_leaves (scoped_leaves around body h) (λ a. both_branches_leave at around test otherwise a g))

  while_body_leaves : (at : Spot) (around : Around) (body : List Reading) (test : TypedExpr) → ReadingsLeave body
      → Leaves I (while_body at around body test)
  unfolding while_body
  while_body_leaves at around body test h = record {
    by = λ s.
        (then_leaves (scoped_leaves (in_loop around) body h) (λ a. pure_leaves)).by s;
  }

  while_leaves : (at : Spot) (around : Around) (condition : Expr) (body : List Reading) → ReadingsLeave body
      → Leaves I (while_loop at around condition body)
  unfolding while_loop
  while_leaves at around condition body h = looked_leaves (condition_at at.place condition) (λ test. while_body_leaves at around body test h)

  -- its variable stands in the scope that ends
  for_inside_leaves : (at : Spot) (around : Around) (name : scope.Name) (k : ValueType) (values : TypedSequence) (body : List Reading)
      (first known : ℕ) → ReadingsLeave body → (s : State)
      → Holds (λ (r : Option TypedStatement × State). Left I (around_scope (around_scope s.names.scopes)) s r.1)
      (for_inside at around name k values body first known s)
  unfolding for_inside
  for_inside_leaves at around name k values body first known h s =
      then_holds ((declared_leaves at.place name k [] first).by s) (λ r l.
      then_holds (inside_leaves (in_loop around) body s.slots known h r.1) (λ q m.
      ok_holds (record {
        scopes = m.scopes ∙ ap around_scope l.scopes;
        inside = λ i. m.inside (l.inside i);
        gates = m.gates ∙ l.gates;
        all_gates = m.all_gates ∙ l.all_gates;
        qubits = m.qubits ∙ l.qubits;
        subroutines = m.subroutines ∙ l.subroutines;
      })))

  for_body_leaves : (at : Spot) (around : Around) (name : scope.Name) (k : ValueType) (body : List Reading) (values : TypedSequence)
      → ReadingsLeave body → Leaves I (for_body at around name k body values)
  unfolding for_body take_slots enter
  for_body_leaves at around name k body values h = record {
    by = λ s.
        weakened (for_inside_leaves at around name k values body s.slots (length s.names.consts) h _) (λ r l. record {
          scopes = l.scopes;
          inside = l.inside;
          gates = l.gates;
          all_gates = l.all_gates;
          qubits = l.qubits;
          subroutines = l.subroutines;
        });
  }

  for_leaves : (at : Spot) (around : Around) (scalar : Scalar) (name : scope.Name) (values : Sequence) (body : List Reading)
      → ReadingsLeave body → Leaves I (for_loop at around scalar name values body)
  unfolding for_loop
  for_leaves at around scalar name values body h =
      looked_leaves (for_values at.place scalar values) (λ (r : ValueType × TypedSequence). for_body_leaves at around name r.0 body r.1 h)

  -- ---- the forms

  simple_leaves : {p : Typing TypedAction} (at : Spot) → Leaves I p → Leaves I (simple at p)
  simple_leaves at h = then_leaves h (λ a. pure_leaves)

  pub silent_leaves : {p : Typing (Unit {0})} → Leaves I p → Leaves I (silent p)
  silent_leaves h = then_leaves h (λ _. pure_leaves)

  abbrev FormLeaves : StatementForm → Type 0
  FormLeaves form = (place : Place) (around : Around) → Leaves I (form_typing form place around)

  abbrev StatementLeaves : Statement → Type 0
  StatementLeaves statement = ReadingLeaves (statement_typing statement)

  abbrev typed_layer : o.StatementForm-F StatementForm Statement → o.StatementForm-F (Place → Reading) Reading
  typed_layer = map-StatementForm StatementForm Statement (Place → Reading) Reading form_typing statement_typing

  module _ {X Y : Type 0} (f : X → StatementForm) (g : Y → Statement) (leaves : (y : Y) → StatementLeaves (g y)) where
    each_reading : (ys : List Y) → ReadingsLeave (map statement_typing (map g ys))
    each_reading [] = tt
    each_reading (y ∷ ys) = (leaves y, each_reading ys)

    abbrev filled : o.StatementForm-F X Y → o.StatementForm-F StatementForm Statement
    filled = map-StatementForm X Y StatementForm Statement f g

    layer_leaves : (y : o.StatementForm-F X Y) (at : Spot) (around : Around) → Leaves I (form_typing_at (typed_layer (filled y)) at around)
    layer_leaves (o.Declaration scalar name value) at around = simple_leaves at (declaration_leaves at.place scalar name value)
    layer_leaves (o.BitRegister name size) at around = simple_leaves at (bits_leave at.place name size)
    layer_leaves (o.Constant scalar name value) at around = silent_leaves (constant_leaves at.place scalar name value)
    layer_leaves (o.Alias name parts) at around = silent_leaves (alias_leaves at.place name parts)
    layer_leaves (o.Assignment target value) at around = simple_leaves at (assignment_leaves at.place target value)
    layer_leaves (o.CompoundAssignment target operator value) at around =
        simple_leaves at (seen_leaves (update at.place target operator value))
    layer_leaves (o.Measure operand target) at around = simple_leaves at (seen_leaves (measure at.place operand target))
    layer_leaves (o.Reset operand) at around = simple_leaves at (seen_leaves (reset at.place operand))
    layer_leaves (o.Barrier operands) at around = simple_leaves at (seen_leaves (barrier at.place operands))
    layer_leaves (o.Gate call) at around = simple_leaves at (gate_leaves at.place call)
    layer_leaves (o.Call name given) at around = simple_leaves at (call_leaves at.place name given)
    layer_leaves (o.If condition body None) at around = branching_leaves at around condition _ None (each_reading body) tt
    layer_leaves (o.If condition body (Some otherwise)) at around =
        branching_leaves at around condition _ (Some (map statement_typing (map g otherwise))) (each_reading body) (each_reading otherwise)
    layer_leaves (o.While condition body) at around = while_leaves at around condition _ (each_reading body)
    layer_leaves (o.For scalar name values body) at around = for_leaves at around scalar name values _ (each_reading body)
    layer_leaves o.Break at around = simple_leaves at (seen_leaves _)
    layer_leaves o.Continue at around = simple_leaves at (seen_leaves _)
    layer_leaves (o.Return value) at around = simple_leaves at (return_leaves at.place around.returns value)
    layer_leaves o.End at around = simple_leaves at pure_leaves

    form_leaves : (y : o.StatementForm-F X Y) → FormLeaves (roll-StatementForm (filled y))
    form_leaves y place around =
        subst (λ (r : Place → Reading). Leaves I (r place around))
        (sym (fold-roll-StatementForm (Place → Reading) Reading form_step statement_step (filled y)))
        (layer_leaves y _ around)

  statement_leaves : (x : Statement) → FormLeaves x.form → StatementLeaves x
  statement_leaves x h around =
      subst (λ (r : Reading). Leaves I (r around))
      (sym (fold_out-Statement (Place → Reading) Reading form_step statement_step x)) (h x.place around)

  pub each_statement_leaves : (x : Statement) → StatementLeaves x
  each_statement_leaves = ind-Statement FormLeaves StatementLeaves
      (λ x y is. subst (λ t. FormLeaves (roll-StatementForm t)) is (form_leaves (λ e. e.0) (λ e. e.0) (λ e. e.1) y))
      (λ x y is. subst (λ t. StatementLeaves (roll-Statement t)) is
      (statement_leaves (record { place = y.place; form = y.form.0 }) y.form.1))
