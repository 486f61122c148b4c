-- The gates of a program are well formed, item by item.
use Rattle.std.proofs.Common.{◌≡◌, ℕ, zero, suc, ◌+◌, ◌<◌, ◌≤◌, Bool, true, false, List, [], ◌∷◌, ◌++◌, length, map, slice_get, Option, Some, None, Result, refl, sym, ap, subst, ◌∙◌, arith}
use Rattle.std.specs.List.{All}
use Rattle.std.specs.Prelude.{if◌then◌else◌}
use Rattle.qt_const_rules.specs.declared.consts.Known.{Known}
use Rattle.qt_const_rules.specs.declared.consts.Known.TheVariants as known
use Rattle.qt_gate_calls.specs.Numbered.{if_number, numbered_from}
use Rattle.qt_gate_calls.specs.Standard.{StandardGate, standard_bodies, standard_gates}
use Rattle.qt_gate_calls.specs.declared.body.Called.{Called}
use Rattle.qt_gate_calls.specs.declared.body.Called.TheVariants as called
use Rattle.qt_gate_calls.specs.declared.body.GateBody.{GateBody}
use Rattle.qt_names.specs.Entries as scope
use Rattle.qt_names.specs.Scopes.{declared}
use Rattle.qt_names.specs.declared.named.Named.{Named}
use Rattle.qt_tree.specs.declared.expression.Expr.{Expr}
use Rattle.qt_tree.specs.declared.expression.Scalar.{Scalar}
use Rattle.qt_tree.specs.declared.label.Setting.{Setting}
use Rattle.qt_tree.specs.declared.place.Place.{Place}
use Rattle.qt_tree.specs.declared.program.Definition.{Definition}
use Rattle.qt_tree.specs.declared.program.GateItem.{GateItem}
use Rattle.qt_tree.specs.declared.program.Item.{Item}
use Rattle.qt_tree.specs.declared.program.Item.TheVariants as item
use Rattle.qt_tree.specs.declared.program.ListItem.{ListItem}
use Rattle.qt_tree.specs.declared.program.Parameter.{Parameter}
use Rattle.qt_tree.specs.declared.program.Parameter.TheVariants as parameter
use Rattle.qt_tree.specs.declared.program.Program.{Program}
use Rattle.qt_tree.specs.declared.statement.Statement.{Statement}
use Rattle.qt_typed.specs.declared.expression.TypedExpr.{TypedExpr}
use Rattle.qt_typed.specs.declared.program.Typed.{Typed}
use Rattle.qt_typed.specs.declared.program.TypedOutput.{TypedOutput}
use Rattle.qt_typed.specs.declared.program.TypedParameter.{TypedParameter}
use Rattle.qt_typed.specs.declared.program.TypedSubroutine.{TypedSubroutine}
use Rattle.qt_typed.specs.declared.statement.TypedStatement.{TypedStatement}
use Rattle.qt_value.specs.declared.types.ValueType.{ValueType}
use Rattle.qt_meaning.specs.WellFormed.{BodyCallFits, GatesFit, GatesFitFrom, call_size, gate_sizes}
use Rattle.qt_meaning_laws.proofs.Standard.{standard_gates_fit}
use Rattle.qt_typing.specs.declared.names.Names.{Names}
use Rattle.qt_typing.specs.declared.state.State.{State}
use Rattle.qt_typing.specs.Checked.{Checked}
use Rattle.qt_typing.specs.Declarations.{array_of, array_with, constant_named, declare_qubits, declare_variable, element_count, element_type, lengths_from, new_name, optional_size, optional_values, qubit_declaration, qubit_register, qubits_named, told_at_end, typed_name}
use Rattle.qt_typing.specs.Environment.{Typing, ◌>>=◌, declare, enter, leave, pure, seen, take_qubits, take_slots}
use Rattle.qt_typing.specs.GateItems.{angle_named, body_from, declare_angles, declare_gate, declare_wires, gate_body_of, gate_inside, gate_item, gate_named, parameters_of, wire_named}
use Rattle.qt_typing.specs.Gates.{Gate}
use Rattle.qt_typing.specs.Inputs.{input_at, input_named, input_of, inputs_fit, keep_input}
use Rattle.qt_typing.specs.Programs.{at_top, beginning, count_tokens, counted, include_standard, is_standard, item_typing, items_from, keep_output, numbers_fit, output_at, output_of, program_at, typing_of, versions_fit}
use Rattle.qt_typing.specs.Qubits.{qubits_of}
use Rattle.qt_typing.specs.Statements.{added, not_yet, silent, statement_typing}
use Rattle.qt_typing.specs.Subroutines.{around_body, body_of, declare_subroutine, definition, parameter_of, parameters_from, qubit_named, qubit_parameter, register_named, result_and_body, result_slots, result_type_at, subroutine_named, subroutine_of, turned_inside, typed_inside, value_named, value_parameter}
use Rattle.qt_typing.specs.Tokens.{io_tokens, qubit_tokens}
use Rattle.qt_typing_laws.specs.Bodies.{IsBelow, IsGateOf, IsInside}
use Rattle.qt_typing_laws.specs.Fits.{InScopes}
use Rattle.qt_typing_laws.specs.Laws.{ProgramGatesAreWellFormed}
use Rattle.qt_typing_laws.specs.Seen.{HasStandardGates}
use Rattle.qt_typing_laws.proofs.GateItems.{body_of_fits, scopes_also}
use Rattle.qt_typing_laws.proofs.Holding.{Holds, ok_holds, err_holds, any_holds, then_holds, weakened}
use Rattle.qt_typing_laws.proofs.Leaving.{Leaves, around_scope, both_leave, declare_leaves, declared_leaves, each_statement_leaves, inside_back, left_to, looked_leaves, pure_leaves, seen_leaves, slots_leave, then_leaves, ReadingsLeave}
use Rattle.qt_typing_laws.proofs.Names.{declared_is}

-- ---- gates by number, with one more behind them

number_same : {A : Type 0} (n : ℕ) (a b : A) → if_number n n a b ≡ a
number_same zero a b = refl
number_same (suc n) a b = number_same n a b

number_other : {A : Type 0} (n i : ℕ) (a b : A) → (n ≡ i → ⊥) → if_number n i a b ≡ b
number_other zero zero a b h = absurd (h refl)
number_other zero (suc i) a b h = refl
number_other (suc n) zero a b h = refl
number_other (suc n) (suc i) a b h = number_other n i a b (λ e. h (ap suc e))

abbrev size_of : (ℕ → ℕ) → GateBody → ℕ
size_of sizes body = body.qubits

numbered_last : (n : ℕ) (bodies : List GateBody) (body : GateBody) (before : ℕ → ℕ) (i : ℕ) → numbered_from size_of n (bodies ++ body ∷ []) before i
    ≡ if_number (n + length bodies) i body.qubits (numbered_from size_of n bodies before i)
numbered_last n [] body before i =
    let e : n ≡ n + length {A = GateBody} [] = omega arith in
    ap (λ t. if_number t i body.qubits (before i)) e
numbered_last n (b ∷ bodies) body before i =
    let later = λ (i : ℕ). if_number n i b.qubits (before i) in
    let e : suc n + length bodies ≡ n + length (b ∷ bodies) = omega arith in
    numbered_last (suc n) bodies body later i ∙ ap (λ t. if_number t i body.qubits (numbered_from size_of (suc n) bodies later i)) e

last_size : (bodies : List GateBody) (body : GateBody) → gate_sizes (bodies ++ body ∷ []) (length bodies) ≡ body.qubits
last_size bodies body =
    let e : 0 + length bodies ≡ length bodies = omega arith in
    numbered_last 0 bodies body (λ i. 0) (length bodies)
    ∙ (ap (λ t. if_number t (length bodies) body.qubits (gate_sizes bodies (length bodies))) e
    ∙ number_same (length bodies) body.qubits (gate_sizes bodies (length bodies)))

size_before : (bodies : List GateBody) (body : GateBody) (i : ℕ) → i < length bodies → gate_sizes (bodies ++ body ∷ []) i ≡ gate_sizes bodies i
size_before bodies body i l =
    let e : 0 + length bodies ≡ length bodies = omega arith in
    numbered_last 0 bodies body (λ i. 0) i
    ∙ (ap (λ t. if_number t i body.qubits (gate_sizes bodies i)) e
    ∙ number_other (length bodies) i body.qubits (gate_sizes bodies i) (λ s. absurd (omega (arith, s, l))))

length_last : (bodies : List GateBody) (body : GateBody) → length (bodies ++ body ∷ []) ≡ suc (length bodies)
length_last [] body = refl
length_last (b ∷ bodies) body = ap suc (length_last bodies body)

fit_last : (n : ℕ) (sizes : ℕ → ℕ) (bodies : List GateBody) (body : GateBody) → GatesFitFrom n sizes bodies
    → All (BodyCallFits (numbered_from size_of n bodies sizes) body.qubits) body.calls → GatesFitFrom n sizes (bodies ++ body ∷ [])
fit_last n sizes [] body h g = (g, tt)
fit_last n sizes (b ∷ bodies) body h g = (h.0, fit_last (suc n) (λ i. if_number n i b.qubits (sizes i)) bodies body h.1 g)

-- ---- the standard gates, which come first

below_standard : (gates : List StandardGate) (n : ℕ) (g : StandardGate) → slice_get gates n ≡ Some g → n < length gates
below_standard [] n g e = cc
below_standard (x ∷ gates) zero g e = omega arith
below_standard (x ∷ gates) (suc n) g e = let l = below_standard gates n g e in omega (arith, l)

untouched : (m : ℕ) (bodies : List GateBody) (before : ℕ → ℕ) (i : ℕ) → i < m → numbered_from size_of m bodies before i ≡ before i
untouched m [] before i l = refl
untouched m (b ∷ bodies) before i l =
    untouched (suc m) bodies (λ j. if_number m j b.qubits (before j)) i (omega (arith, l))
    ∙ number_other m i b.qubits (before i) (λ s. absurd (omega (arith, s, l)))

standard_from : (m : ℕ) (gates : List StandardGate) (before : ℕ → ℕ) (n : ℕ) (g : StandardGate) → slice_get gates n ≡ Some g
    → numbered_from size_of m (map (λ (g : StandardGate). g.body) gates) before (m + n) ≡ g.body.qubits
standard_from m [] before n g e = cc
standard_from m (x ∷ gates) before zero g e =
    let same : x ≡ g = cc in
    let here : m + 0 ≡ m = omega arith in
    let later = λ (j : ℕ). if_number m j x.body.qubits (before j) in
    ap (numbered_from size_of (suc m) (map (λ (g : StandardGate). g.body) gates) later) here
    ∙ (untouched (suc m) (map (λ (g : StandardGate). g.body) gates) later m (omega arith)
    ∙ (number_same m x.body.qubits (before m) ∙ ap (λ (t : StandardGate). t.body.qubits) same))
standard_from m (x ∷ gates) before (suc n) g e =
    let there : m + suc n ≡ suc m + n = omega arith in
    let later = λ (j : ℕ). if_number m j x.body.qubits (before j) in
    ap (numbered_from size_of (suc m) (map (λ (g : StandardGate). g.body) gates) later) there ∙ standard_from (suc m) gates later n g e

standard_first : HasStandardGates standard_bodies
standard_first n g e =
    let here : n ≡ 0 + n = omega arith in
    ap (gate_sizes standard_bodies) here ∙ standard_from 0 standard_gates (λ i. 0) n g e

standard_many : (gates : List StandardGate) → length gates ≤ length (map (λ (g : StandardGate). g.body) gates)
standard_many [] = omega arith
standard_many (g ∷ gates) = let l = standard_many gates in omega (arith, l)

-- ---- what bodies see

abbrev IsOpen : List (List scope.Entry) → Type 0
IsOpen [] = ⊥
IsOpen (inner ∷ outer) = Unit {0}

abbrev BodiesSee : List GateBody → List (List scope.Entry) → Type 0
BodiesSee gates scopes = IsOpen scopes × InScopes (IsInside gates) scopes

seen_more : (gates : List GateBody) (scopes : List (List scope.Entry)) (name : scope.Name) (it : Named) → IsInside gates it
    → BodiesSee gates scopes → BodiesSee gates (declared scopes name it)
seen_more gates [] name it g h = absurd h.0
seen_more gates (inner ∷ outer) name it g h = (tt, declared_is (IsInside gates) (inner ∷ outer) name it h.1 g)

constant_inside : (gates : List GateBody) (k : ValueType) → IsInside gates (constant_named k)
unfolding qubits_of
constant_inside gates k = record { no_qubits = refl; gate = λ g e. cc }

subroutine_inside : (gates : List GateBody) (n : ℕ) → IsInside gates (subroutine_named n)
unfolding qubits_of
subroutine_inside gates n = record { no_qubits = refl; gate = λ g e. cc }

-- gates of those go on being them as another comes behind
size_after : (gates : List GateBody) (body : GateBody) (c : Called) (n : ℕ) → call_size (gate_sizes gates) [] c ≡ n → IsBelow (length gates) c
    → call_size (gate_sizes (gates ++ body ∷ [])) [] c ≡ n
size_after gates body called.U n e l = e
size_after gates body called.GlobalPhase n e l = e
size_after gates body (called.Gate i) n e l = size_before gates body i l ∙ e

below_after : (gates : List GateBody) (body : GateBody) (c : Called) → IsBelow (length gates) c → IsBelow (length (gates ++ body ∷ [])) c
below_after gates body called.U l = tt
below_after gates body called.GlobalPhase l = tt
below_after gates body (called.Gate i) l = let e = length_last gates body in omega (arith, e, l)

gate_after : (gates : List GateBody) (body : GateBody) (g : Gate) → IsGateOf gates g → IsGateOf (gates ++ body ∷ []) g
gate_after gates body g h =
    record { size = size_after gates body g.called g.qubits h.size h.before; before = below_after gates body g.called h.before }

inside_after : (gates : List GateBody) (body : GateBody) (it : Named) → IsInside gates it → IsInside (gates ++ body ∷ []) it
inside_after gates body it h = record { no_qubits = h.no_qubits; gate = λ g e. gate_after gates body g (h.gate g e) }

new_gate : (gates : List GateBody) (body : GateBody) → IsInside (gates ++ body ∷ []) (gate_named (length gates) body)
unfolding qubits_of
new_gate gates body = record {
  no_qubits = refl;
  gate = λ g e.
      let same : record { called = called.Gate (length gates); parameters = body.parameters; qubits = body.qubits } ≡ g = cc in
      subst (IsGateOf (gates ++ body ∷ [])) same (record {
        size = last_size gates body;
        before = let l = length_last gates body in omega (arith, l);
      });
}

-- ---- items

pub record GatesAre (s : State) : Type 0 where
  pub sees : BodiesSee s.gates s.inside.scopes
  pub standard : HasStandardGates s.gates
  pub many : length standard_gates ≤ length s.gates
  pub fit : GatesFit s.gates

-- the same gates, and what bodies see goes on
gates_go_on : (s t : State) → GatesAre s → t.gates ≡ s.gates → BodiesSee s.gates t.inside.scopes → GatesAre t
gates_go_on s t h e g = record {
  sees = subst (λ x. BodiesSee x t.inside.scopes) (sym e) g;
  standard = subst HasStandardGates (sym e) h.standard;
  many = subst (λ x. length standard_gates ≤ length x) (sym e) h.many;
  fit = subst GatesFit (sym e) h.fit;
}

pub record KeepsGates {A : Type 0} (p : Typing A) : Type 0 where
  pub by : (s : State) → GatesAre s → Holds (λ (r : A × State). GatesAre r.1) (p s)

then_gates : {A B : Type 0} {p : Typing A} {f : A → Typing B} → KeepsGates p → ((a : A) → KeepsGates (f a)) → KeepsGates (p >>= f)
then_gates h g = record { by = λ s n. then_holds (h.by s n) (λ r m. (g r.0).by r.1 m) }

pure_gates : {A : Type 0} {a : A} → KeepsGates (pure a)
pure_gates = record { by = λ s h. ok_holds h }

left_gates : {A : Type 0} {p : Typing A} → ((gates : List GateBody) → Leaves (BodiesSee gates) p) → KeepsGates p
left_gates l = record { by = λ s h. weakened ((l s.gates).by s) (λ r m. gates_go_on s r.1 h m.gates (m.inside h.sees)) }

looked_gates : {A B : Type 0} {f : A → Typing B} (j : Names → Checked A) → ((a : A) → KeepsGates (f a)) → KeepsGates (seen j >>= f)
looked_gates j g = then_gates (left_gates (λ gates. seen_leaves j)) g

slots_gates : (n : ℕ) → KeepsGates (take_slots n)
slots_gates n = left_gates (λ gates. slots_leave (BodiesSee gates) n)

declare_gates : (place : Place) (name : scope.Name) (it : Named) (known : Known) → KeepsGates (declare place name it known)
declare_gates place name it known = left_gates (λ gates. declare_leaves (BodiesSee gates) place name it known)

constants : (gates : List GateBody) (scopes : List (List scope.Entry)) (name : scope.Name) (k : ValueType) → BodiesSee gates scopes
    → BodiesSee gates (declared scopes name (constant_named k))
constants gates scopes name k h = seen_more gates scopes name (constant_named k) (constant_inside gates k) h

variable_gates : (place : Place) (name : scope.Name) (k : ValueType) (lengths : List ℕ) (slot : ℕ)
    → KeepsGates (declare_variable place name k lengths slot)
variable_gates place name k lengths slot =
    left_gates (λ gates. declared_leaves (BodiesSee gates) (constants gates) place name k lengths slot)

silent_gates : {p : Typing (Unit {0})} → KeepsGates p → KeepsGates (silent p)
silent_gates h = then_gates h (λ _. pure_gates)

qubits_gates : (n : ℕ) → KeepsGates (take_qubits n)
unfolding take_qubits
qubits_gates n = record { by = λ s h. ok_holds (record { sees = h.sees; standard = h.standard; many = h.many; fit = h.fit }) }

tokens_gates : (n : ℕ) → KeepsGates (count_tokens n)
unfolding count_tokens
tokens_gates n = record { by = λ s h. ok_holds (record { sees = h.sees; standard = h.standard; many = h.many; fit = h.fit }) }

include_gates : KeepsGates include_standard
unfolding include_standard
include_gates = record { by = λ s h. ok_holds (record { sees = h.sees; standard = h.standard; many = h.many; fit = h.fit }) }

keep_input_gates : (input : TypedOutput) → KeepsGates (keep_input input)
unfolding keep_input
keep_input_gates input = record { by = λ s h. ok_holds (record { sees = h.sees; standard = h.standard; many = h.many; fit = h.fit }) }

keep_output_gates : (output : TypedOutput) → KeepsGates (keep_output output)
unfolding keep_output
keep_output_gates output = record { by = λ s h. ok_holds (record { sees = h.sees; standard = h.standard; many = h.many; fit = h.fit }) }

counted_gates : {p : Typing (Unit {0})} (n : ℕ) → KeepsGates p → KeepsGates (counted n p)
counted_gates n h = silent_gates (then_gates h (λ _. tokens_gates n))

input_at_gates : (place : Place) (name : scope.Name) (k : ValueType) (slot : ℕ) → KeepsGates (input_at place name k slot)
unfolding input_at
input_at_gates place name k slot =
    then_gates (declare_gates place name (input_named k slot) known.Other) (λ _. keep_input_gates (told_at_end name k [] slot))

input_gates : (place : Place) (scalar : Scalar) (name : scope.Name) → KeepsGates (input_of place scalar name)
unfolding input_of
input_gates place scalar name =
    looked_gates (typed_name place scalar name) (λ k. then_gates (slots_gates 1) (λ slot. input_at_gates place name k slot))

output_at_gates : (place : Place) (name : scope.Name) (k : ValueType) (slot : ℕ) → KeepsGates (output_at place name k slot)
unfolding output_at
output_at_gates place name k slot =
    then_gates (variable_gates place name k [] slot) (λ _. keep_output_gates (told_at_end name k [] slot))

output_gates : (place : Place) (scalar : Scalar) (name : scope.Name) → KeepsGates (output_of place scalar name)
unfolding output_of
output_gates place scalar name =
    looked_gates (typed_name place scalar name) (λ k. then_gates (slots_gates 1) (λ slot. output_at_gates place name k slot))

declare_qubits_gates : (place : Place) (name : scope.Name) (size : Option ℕ) → KeepsGates (declare_qubits place name size)
unfolding declare_qubits
declare_qubits_gates place name None =
    then_gates (qubits_gates 1) (λ first. declare_gates place name (qubits_named [] first 1) known.Hidden)
declare_qubits_gates place name (Some n) =
    then_gates (qubits_gates n) (λ first. declare_gates place name (qubits_named (n ∷ []) first n) known.Hidden)

qubit_gates : (place : Place) (size : Option Expr) (name : scope.Name) → KeepsGates (qubit_declaration place size name)
unfolding qubit_declaration
qubit_gates place size name =
    looked_gates (optional_size place size) (λ n. looked_gates (new_name place name) (λ _. declare_qubits_gates place name n))

register_gates : (place : Place) (name : scope.Name) (size : Option Expr) → KeepsGates (qubit_register place name size)
unfolding qubit_register
register_gates place name size =
    looked_gates (new_name place name) (λ _. looked_gates (optional_size place size) (λ n. declare_qubits_gates place name n))

array_with_gates : (place : Place) (name : scope.Name) (k : ValueType) (lengths : List ℕ) (values : Option (List TypedExpr)) (slot : ℕ)
    → KeepsGates (array_with place name k lengths values slot)
unfolding array_with
array_with_gates place name k lengths values slot = then_gates (variable_gates place name k lengths slot) (λ _. pure_gates)

array_gates : (place : Place) (scalar : Scalar) (dimensions : List Expr) (name : scope.Name) (values : Option (List ListItem))
    → KeepsGates (array_of place scalar dimensions name values)
unfolding array_of
array_gates place scalar dimensions name values =
    looked_gates (element_type place scalar) (λ k.
    looked_gates (lengths_from place [] dimensions) (λ lengths.
    looked_gates (new_name place name) (λ _.
    looked_gates (optional_values place k lengths values) (λ forms.
    then_gates (slots_gates (element_count lengths)) (λ slot. array_with_gates place name k lengths forms slot)))))

-- ---- gates that are declared

abbrev Nothing : List (List scope.Entry) → Type 0
Nothing scopes = Unit {0}

angles_leave : (place : Place) (n : ℕ) (names : List scope.Name) → Leaves Nothing (declare_angles place n names)
unfolding declare_angles
angles_leave place n [] = pure_leaves
angles_leave place n (name ∷ rest) =
    then_leaves (declare_leaves Nothing place name (angle_named n) known.Other) (λ _. angles_leave place (n + 1) rest)

wires_leave : (place : Place) (n : ℕ) (names : List scope.Name) → Leaves Nothing (declare_wires place n names)
unfolding declare_wires
wires_leave place n [] = pure_leaves
wires_leave place n (name ∷ rest) =
    then_leaves (declare_leaves Nothing place name (wire_named n) known.Hidden) (λ _. wires_leave place (n + 1) rest)

-- the scopes and the gates are as before
abbrev IsBack : List scope.Entry → List (List scope.Entry) → State → State → Type 0
IsBack inner outer s t = (t.names.scopes ≡ inner ∷ outer) × (t.gates ≡ s.gates)

gate_back : (gate : GateItem) (s : State) (inner : List scope.Entry) (outer : List (List scope.Entry)) → s.names.scopes ≡ inner ∷ outer
    → Holds (λ (r : GateBody × State). IsBack inner outer s r.1) (gate_inside gate s)
unfolding gate_inside enter leave
gate_back gate s inner outer e =
    then_holds ((angles_leave gate.place 0 (parameters_of gate)).by _) (λ r l.
    then_holds ((wires_leave gate.place 0 gate.qubits).by r.1) (λ q m.
    then_holds ((seen_leaves {I = Nothing} (body_from s.included [] gate.body)).by q.1) (λ c n.
    ok_holds (left_to c.1.names.scopes inner outer (n.scopes ∙ (m.scopes ∙ (l.scopes ∙ e))), n.gates ∙ (m.gates ∙ l.gates)))))

both_hold : {A E : Type 0} {P Q : A → Type 0} {r : Result A E} → Holds P r → Holds Q r → Holds (λ a. P a × Q a) r
both_hold h g = record { by = λ a e. (h.by a e, g.by a e) }

-- a scope is open
record OpenedBy (scopes : List (List scope.Entry)) : Type 0 where
  inner : List scope.Entry
  outer : List (List scope.Entry)
  are : scopes ≡ inner ∷ outer

opened : (scopes : List (List scope.Entry)) → IsOpen scopes → OpenedBy scopes
opened [] h = absurd h
opened (x ∷ xs) h = record { inner = x; outer = xs; are = refl }

gate_turned_back : (gate : GateItem) (s : State) → GatesAre s → OpenedBy s.inside.scopes
    → Holds (λ (r : GateBody × State). GatesAre r.1 × (r.1.gates ≡ s.gates)) (gate_body_of gate s)
unfolding gate_body_of turned_inside
gate_turned_back gate s h o =
    then_holds (gate_back gate (turned_inside s.slots s) o.inner o.outer o.are) (λ r b.
    ok_holds (gates_go_on s (turned_inside s.slots r.1) h b.1 (subst (BodiesSee s.gates) (o.are ∙ sym b.0) h.sees), b.1))

gate_body_gates : (gate : GateItem) (s : State) → GatesAre s
    → Holds (λ (r : GateBody × State). GatesAre r.1 × (r.1.gates ≡ s.gates)
    × All (BodyCallFits (gate_sizes s.gates) r.0.qubits) r.0.calls) (gate_body_of gate s)
gate_body_gates gate s h =
    weakened
    (both_hold (body_of_fits gate s (record { names = h.sees.1; standard = h.standard }))
    (gate_turned_back gate s h (opened s.inside.scopes h.sees.0)))
    (λ r d. (d.1.0, d.1.1, d.0))

declared_gate : (place : Place) (name : scope.Name) (body : GateBody) (s : State) → GatesAre s
    → All (BodyCallFits (gate_sizes s.gates) body.qubits) body.calls
    → Holds (λ (r : Unit {0} × State). GatesAre r.1) (declare_gate place name body s)
unfolding declare_gate
declared_gate place name body s h g =
    let grown : State = record s { gates = s.gates ++ body ∷ [] } in
    let now : GatesAre grown = record {
      sees = (h.sees.0, scopes_also (IsInside s.gates) (IsInside (s.gates ++ body ∷ [])) (inside_after s.gates body) s.inside.scopes h.sees.1);
      standard = λ n x e.
          let few = below_standard standard_gates n x e in
          let many = h.many in
          size_before s.gates body n (omega (arith, few, many)) ∙ h.standard n x e;
      many = let many = h.many in let l = length_last s.gates body in omega (arith, many, l);
      fit = fit_last 0 (λ i. 0) s.gates body h.fit g;
    } in
    weakened
    ((both_leave (BodiesSee (s.gates ++ body ∷ [])) place name (gate_named (length s.gates) body) known.Hidden
    (λ scopes k. seen_more (s.gates ++ body ∷ []) scopes name (gate_named (length s.gates) body) (new_gate s.gates body) k)).by grown)
    (λ r m. gates_go_on grown r.1 now m.gates (m.inside now.sees))

gate_item_gates : (gate : GateItem) → KeepsGates (gate_item gate)
unfolding gate_item
gate_item_gates gate =
    looked_gates (new_name gate.place gate.name) (λ _. record {
      by = λ s h.
          then_holds (gate_body_gates gate s h) (λ r d.
          declared_gate gate.place gate.name r.0 r.1 d.0
          (subst (λ x. All (BodyCallFits (gate_sizes x) r.0.qubits) r.0.calls) (sym d.1) d.2));
    })

-- ---- subroutines

nothing_more : (scopes : List (List scope.Entry)) (name : scope.Name) (k : ValueType) → Nothing scopes
    → Nothing (declared scopes name (constant_named k))
nothing_more scopes name k h = tt

value_leaves : (place : Place) (name : scope.Name) (k : ValueType) → Leaves Nothing (value_parameter place name k)
unfolding value_parameter
value_leaves place name k =
    then_leaves (slots_leave Nothing 1) (λ slot.
    then_leaves (declare_leaves Nothing place name (value_named k slot) known.Other) (λ _. pure_leaves))

qubit_leaves : (place : Place) (name : scope.Name) (number : ℕ) (size : Option ℕ) → Leaves Nothing (qubit_parameter place name number size)
unfolding qubit_parameter
qubit_leaves place name number None =
    then_leaves (slots_leave Nothing 1) (λ slot.
    then_leaves (declare_leaves Nothing place name (qubit_named slot) known.Hidden) (λ _. pure_leaves))
qubit_leaves place name number (Some size) =
    then_leaves (slots_leave Nothing 1) (λ slot.
    then_leaves (declare_leaves Nothing place name (register_named number size) known.Hidden) (λ _. pure_leaves))

parameter_leaves : (place : Place) (number : ℕ) (p : Parameter) → Leaves Nothing (parameter_of place number p)
unfolding parameter_of
parameter_leaves place number (parameter.Classical scalar name) =
    looked_leaves (typed_name place scalar name) (λ k. value_leaves place name k)
parameter_leaves place number (parameter.Qubits size name) =
    looked_leaves (optional_size place size) (λ n. qubit_leaves place name number n)

parameters_leave : (place : Place) (done : List TypedParameter) (ps : List Parameter) → Leaves Nothing (parameters_from place done ps)
unfolding parameters_from
parameters_leave place done [] = pure_leaves
parameters_leave place done (p ∷ rest) =
    then_leaves (parameter_leaves place (length done) p) (λ t. parameters_leave place (done ++ t ∷ []) rest)

readings_leave : (body : List Statement) → ReadingsLeave Nothing nothing_more (map statement_typing body)
readings_leave [] = tt
readings_leave (x ∷ rest) = (each_statement_leaves Nothing nothing_more x, readings_leave rest)

result_back : (place : Place) (result : Option Scalar) (body : List Statement) (known : ℕ) (ps : List TypedParameter) (s : State)
    (inner : List scope.Entry) (outer : List (List scope.Entry)) → around_scope s.names.scopes ≡ inner ∷ outer
    → Holds (λ (r : TypedSubroutine × State). IsBack inner outer s r.1) (result_and_body place result body known ps s)
unfolding result_and_body body_of
result_back place result body known ps s inner outer e =
    then_holds ((seen_leaves {I = Nothing} (result_type_at place result)).by s) (λ k n.
    then_holds
    (inside_back Nothing nothing_more (around_body k.0) (map statement_typing body) k.1.slots known (readings_leave body) k.1 inner outer
    (n.scopes ∙ e))
    (λ b m. ok_holds (m.0, m.1 ∙ n.gates)))

subroutine_back : (d : Definition) (s : State) (inner : List scope.Entry) (outer : List (List scope.Entry)) → s.names.scopes ≡ inner ∷ outer
    → Holds (λ (r : TypedSubroutine × State). IsBack inner outer s r.1) (typed_inside d s)
unfolding typed_inside enter
subroutine_back d s inner outer e =
    then_holds ((parameters_leave d.place [] d.parameters).by _) (λ r l.
    weakened (result_back d.place d.result d.body (length s.names.consts) r.0 r.1 inner outer (l.scopes ∙ e))
    (λ q b. (b.0, b.1 ∙ l.gates)))

subroutine_turned_back : (d : Definition) (s : State) → GatesAre s → OpenedBy s.inside.scopes
    → Holds (λ (r : TypedSubroutine × State). GatesAre r.1) (subroutine_of d s)
unfolding subroutine_of turned_inside
subroutine_turned_back d s h o =
    then_holds (subroutine_back d (turned_inside (result_slots d.result) s) o.inner o.outer o.are) (λ r b.
    ok_holds (gates_go_on s (turned_inside s.slots r.1) h b.1 (subst (BodiesSee s.gates) (o.are ∙ sym b.0) h.sees)))

subroutine_gates : (d : Definition) (s : State) → GatesAre s → Holds (λ (r : TypedSubroutine × State). GatesAre r.1) (subroutine_of d s)
subroutine_gates d s h = subroutine_turned_back d s h (opened s.inside.scopes h.sees.0)

declared_subroutine : (place : Place) (name : scope.Name) (f : TypedSubroutine) (s : State) → GatesAre s
    → Holds (λ (r : Unit {0} × State). GatesAre r.1) (declare_subroutine place name f s)
unfolding declare_subroutine
declared_subroutine place name f s h =
    let grown : State = record s { subroutines = s.subroutines ++ f ∷ [] } in
    let now : GatesAre grown = record { sees = h.sees; standard = h.standard; many = h.many; fit = h.fit } in
    weakened
    ((both_leave (BodiesSee s.gates) place name (subroutine_named (length s.subroutines)) known.Subroutine
    (λ scopes k. seen_more s.gates scopes name (subroutine_named (length s.subroutines))
    (subroutine_inside s.gates (length s.subroutines)) k)).by grown)
    (λ r m. gates_go_on grown r.1 now m.gates (m.inside now.sees))

definition_gates : (d : Definition) → KeepsGates (definition d)
unfolding definition
definition_gates d =
    looked_gates (new_name d.place d.name) (λ _. record {
      by = λ s h.
          then_holds (subroutine_gates d s h) (λ r g. declared_subroutine d.place d.name r.0 r.1 g);
    })

-- ---- programs

if_gates : {A : Type 0} {p q : Typing A} (b : Bool) → KeepsGates p → KeepsGates q → KeepsGates (if b then p else q)
if_gates true h g = h
if_gates false h g = g

not_yet_gates : {A : Type 0} (place : Place) → KeepsGates (not_yet {A = A} place)
not_yet_gates place = record { by = λ s h. err_holds }

item_gates : (it : Item) → KeepsGates (item_typing it)
unfolding item_typing
item_gates (item.Include place name) = if_gates (is_standard name) (silent_gates include_gates) (not_yet_gates place)
item_gates (item.Input place scalar name) = counted_gates (io_tokens scalar) (input_gates place scalar name)
item_gates (item.Output place scalar name) = counted_gates (io_tokens scalar) (output_gates place scalar name)
item_gates (item.Qubit place size name) = counted_gates (qubit_tokens size) (qubit_gates place size name)
item_gates (item.QubitRegister place name size) = counted_gates (qubit_tokens size) (register_gates place name size)
item_gates (item.Array a) = then_gates (array_gates a.place a.scalar a.dimensions a.name a.value) (λ x. pure_gates)
item_gates (item.Gate gate) = silent_gates (gate_item_gates gate)
item_gates (item.Definition d) = silent_gates (definition_gates d)
item_gates (item.Statement statement) =
    left_gates (λ gates. each_statement_leaves (BodiesSee gates) (constants gates) statement at_top)

items_gates : (done : List TypedStatement) (items : List Item) → KeepsGates (items_from done items)
unfolding items_from
items_gates done [] = pure_gates
items_gates done (it ∷ rest) = then_gates (item_gates it) (λ t. items_gates (added done t) rest)

begun : (all : List GateBody) → GatesAre (beginning all)
unfolding beginning
begun all = record {
  sees = (tt, (tt, tt));
  standard = standard_first;
  many = standard_many standard_gates;
  fit = standard_gates_fit;
}

gates_of_program : (settings : List Setting) (program : Program) → Holds (λ (t : Typed). GatesFit t.gates) (typing_of settings program)
unfolding typing_of program_at
gates_of_program settings program =
    then_holds {r = versions_fit program.versions} any_holds (λ _ _.
    then_holds {r = items_from [] program.items (beginning [])} any_holds (λ first _.
    then_holds ((items_gates [] program.items).by (beginning first.1.gates) (begun first.1.gates)) (λ r g.
    then_holds {r = numbers_fit r.1} any_holds (λ _ _.
    then_holds {r = inputs_fit settings r.1.inputs} any_holds (λ start _. ok_holds g.fit)))))

pub program_gates_are_well_formed : ProgramGatesAreWellFormed
program_gates_are_well_formed settings program typed e = (gates_of_program settings program).by typed e
