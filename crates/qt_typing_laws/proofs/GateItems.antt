-- Calls in the body of a gate are well formed.
use Rattle.std.proofs.Common.{◌≡◌, ◌≢◌, ℕ, suc, ◌+◌, ◌<◌, Bool, true, false, ◌||◌, nat_eq, List, [], ◌∷◌, ◌++◌, length, Option, Some, None, refl, sym, ap, subst, ◌∙◌, eq-eqb, arith}
use Rattle.std.specs.List.{All}
use Rattle.qt_ring.specs.Places.{AreQubits, Free}
use Rattle.qt_const_rules.specs.declared.consts.Known.{Known}
use Rattle.qt_const_rules.specs.declared.consts.Known.TheVariants as known
use Rattle.qt_const_rules.specs.declared.modes.Mode.{Mode}
use Rattle.qt_const_rules.specs.declared.modes.Mode.TheVariants as mode
use Rattle.qt_gate_calls.specs.declared.body.BodyCall.{BodyCall}
use Rattle.qt_gate_calls.specs.declared.body.GateBody.{GateBody}
use Rattle.qt_gate_calls.specs.declared.body.GateModifier.{GateModifier}
use Rattle.qt_names.specs.Entries as scope
use Rattle.qt_names.specs.Scopes.{found}
use Rattle.qt_names.specs.declared.named.Named.{Named}
use Rattle.qt_tree.specs.declared.expression.Expr.{Expr}
use Rattle.qt_tree.specs.declared.expression.Expr.TheOpen as o
use Rattle.qt_tree.specs.declared.expression.Index.{Index, out-Index}
use Rattle.qt_tree.specs.declared.expression.Range.{Range, out-Range}
use Rattle.qt_tree.specs.declared.expression.Scalar.{Scalar}
use Rattle.qt_tree.specs.declared.place.Place.{Place}
use Rattle.qt_tree.specs.declared.program.GateForm.{GateForm}
use Rattle.qt_tree.specs.declared.program.GateForm.TheVariants as form
use Rattle.qt_tree.specs.declared.program.GateItem.{GateItem}
use Rattle.qt_tree.specs.declared.program.GateStatement.{GateStatement}
use Rattle.qt_tree.specs.declared.refusal.Cause.TheVariants as cause
use Rattle.qt_tree.specs.declared.refusal.TextRefusal.{TextRefusal}
use Rattle.qt_tree.specs.declared.refusal.TextRefusal.TheVariants as refusal
use Rattle.qt_tree.specs.declared.statement.GateCall.{GateCall}
use Rattle.qt_tree.specs.declared.statement.Operand.{Operand}
use Rattle.qt_typed.specs.declared.call.TypedQubit.TheVariants as qubit
use Rattle.qt_typed.specs.declared.call.TypedQubits.{TypedQubits}
use Rattle.qt_typed.specs.declared.call.TypedQubits.TheVariants as qubits
use Rattle.qt_meaning.specs.WellFormed.{BodyCallFits, QubitsFit, Scope, gate_sizes}
use Rattle.qt_meaning_laws.proofs.Named.{all_none}
use Rattle.qt_typing.specs.declared.names.Names.{Names}
use Rattle.qt_typing.specs.declared.state.State.{State}
use Rattle.qt_typing.specs.Checked.{unless}
use Rattle.qt_typing.specs.Environment.{Typing, ◌>>=◌, declare, enter, leave, pure, seen}
use Rattle.qt_typing.specs.Expressions.{typed_of}
use Rattle.qt_typing.specs.GateItems.{angle_named, angles_from, body_barrier, body_call, body_call_with, body_from, body_qubits, body_statement, body_with, declare_angles, declare_wires, gate_body_of, gate_inside, parameters_of, wire_named}
use Rattle.qt_typing.specs.Gates.{Gate, any_clashes, clashes, controls, count_fits, gate_of_kind, modifiers_from, operands_from, same_size, size_of_all, written_arguments}
use Rattle.qt_typing.specs.Indexes.{optional_number, range_places, whole_index}
use Rattle.qt_typing.specs.Qubits.{operand_qubits, qubits_at, qubits_by, qubits_in_range, qubits_in_set, qubits_indexed, qubits_named, qubits_of, qubit_in}
use Rattle.qt_typing.specs.Subroutines.{turned_inside}
use Rattle.qt_typing_laws.specs.Bodies.{IsInside, SeesGates}
use Rattle.qt_typing_laws.specs.Fits.{InScope, InScopes}
use Rattle.qt_typing_laws.specs.Laws.{GateBodiesAreWellFormed}
use Rattle.qt_typing_laws.specs.Seen.{GateFits, HasStandardGates, NamedIsSeen}
use Rattle.qt_typing_laws.proofs.Gates.{called_fits, controlled_size, same_count}
use Rattle.qt_typing_laws.proofs.Holding.{Holds, ok_holds, err_holds, any_holds, then_holds}
use Rattle.qt_typing_laws.proofs.Names.{found_is, known_name, left_is, named_in_is, unfit_is}
use Rattle.qt_typing_laws.proofs.Qubits.{all_both, all_one}

-- ---- different qubits, and one more

abbrev Differ : List ℕ → ℕ → Type 0
Differ [] n = Unit {0}
Differ (q ∷ qs) n = (q ≢ n) × Differ qs n

free_more : (q : ℕ) (qs : List ℕ) (n : ℕ) → Free q qs → q ≢ n → Free q (qs ++ n ∷ [])
free_more q [] n h g = (g, tt)
free_more q (r ∷ qs) n h g = (h.0, free_more q qs n h.1 g)

qubits_more : (k : ℕ) (qs : List ℕ) (n : ℕ) → AreQubits k qs → n < k → Differ qs n → AreQubits k (qs ++ n ∷ [])
qubits_more k [] n h l g = (l, tt, tt)
qubits_more k (q ∷ qs) n h l g = (h.0, free_more q qs n h.1 g.0, qubits_more k qs n h.2 l g.1)

neither : (a b : Bool) → (a || b) ≡ false → (a ≡ false) × (b ≡ false)
neither true b e = absurd (cc)
neither false b e = (refl, e)

unless_is : (b : Bool) (e : TextRefusal) → Holds (λ _. b ≡ false) (unless b e)
unless_is true e = err_holds
unless_is false e = ok_holds refl

-- ---- wires

-- a qubit of the body
abbrev IsWire : ℕ → TypedQubits → Type 0
IsWire k (qubits.Single (qubit.Slot n)) = n < k
IsWire k (qubits.Single (qubit.Fixed q)) = ⊥
IsWire k (qubits.Single (qubit.Indexed register index)) = ⊥
IsWire k (qubits.Register register) = ⊥

abbrev AreWires : ℕ → List TypedQubits → Type 0
AreWires k [] = Unit {0}
AreWires k (q ∷ rest) = IsWire k q × AreWires k rest

-- the scope in which a call in a body stands
abbrev body_scope : List GateBody → Scope
body_scope gates = record { qubits = 0; gates = gates; taken = λ i. []; own = λ i. 0 }

pub record InBody (gates : List GateBody) (k : ℕ) (it : Named) : Type 0 where
  pub wires : (of : TypedQubits) → qubits_of it ≡ Some of → IsWire k of
  pub gate : (gate : Gate) → gate_of_kind it.what it ≡ Some gate → GateFits (body_scope gates) gate

wire_fits : (gates : List GateBody) (k : ℕ) (of : TypedQubits) → IsWire k of → QubitsFit (body_scope gates) of
wire_fits gates k (qubits.Single (qubit.Slot n)) h = tt
wire_fits gates k (qubits.Single (qubit.Fixed q)) h = absurd h
wire_fits gates k (qubits.Single (qubit.Indexed register index)) h = absurd h
wire_fits gates k (qubits.Register register) h = absurd h

module _ (P Q : Named → Type 0) (f : (it : Named) → P it → Q it) where
  scope_also : (entries : List scope.Entry) → InScope P entries → InScope Q entries
  scope_also [] h = tt
  scope_also (entry ∷ rest) h = (f entry.named h.0, scope_also rest h.1)

  pub scopes_also : (scopes : List (List scope.Entry)) → InScopes P scopes → InScopes Q scopes
  scopes_also [] h = tt
  scopes_also (inner ∷ outer) h = (scope_also inner h.0, scopes_also outer h.1)

body_seen : (gates : List GateBody) (k : ℕ) (it : Named) → InBody gates k it → NamedIsSeen (body_scope gates) it
body_seen gates k it h = record { qubits = λ of e. wire_fits gates k of (h.wires of e); gate = h.gate }

no_range : (names : Names) (m : Mode) (place : Place) (n : ℕ) (range : Range) → Holds (λ _. ⊥) (range_places names m place false n range)
unfolding range_places
no_range names m place n range =
    then_holds {r = optional_number names m place (out-Range range).start} any_holds (λ start _.
    then_holds {r = optional_number names m place (out-Range range).step} any_holds (λ by _.
    then_holds {r = optional_number names m place (out-Range range).end} any_holds (λ end _. err_holds)))

module _ (gates : List GateBody) (k : ℕ) (names : Names) (inside : InScopes (InBody gates k) names.scopes) (place : Place) where
  wire_by : (n : ℕ) (layer : o.Index-F Expr Index Scalar Range) → Holds (IsWire k) (qubits_by names place (qubits.Single (qubit.Slot n)) layer)
  unfolding qubit_in qubits_in_range qubits_in_set
  wire_by n (o.At expr) =
      then_holds {r = typed_of names mode.Plain place expr} any_holds (λ x _.
      then_holds {r = whole_index place true x} any_holds (λ form _. err_holds))
  wire_by n (o.Range range) = then_holds (no_range names mode.Plain place 1 range) (λ s b. absurd b)
  wire_by n (o.Set exprs) = err_holds

  wire_indexed : (of : TypedQubits) (index : Option Index) → IsWire k of → Holds (IsWire k) (qubits_indexed names place of index)
  unfolding qubits_indexed
  wire_indexed of None h = ok_holds h
  wire_indexed (qubits.Single (qubit.Slot n)) (Some index) h = wire_by n (out-Index index)
  wire_indexed (qubits.Single (qubit.Fixed q)) (Some index) h = absurd h
  wire_indexed (qubits.Single (qubit.Indexed register form)) (Some index) h = absurd h
  wire_indexed (qubits.Register register) (Some index) h = absurd h

  wire_named_by : (name : scope.Name) → Holds (IsWire k) (qubits_named names place name)
  unfolding qubits_named
  wire_named_by name =
      then_holds (known_name name place (found names.scopes name) (found_is (InBody gates k) names.scopes name inside))
      (λ (it : Named) h. unfit_is place name (qubits_of it) (record { by = h.wires }))

  wire_operand : (operand : Operand) → Holds (IsWire k) (operand_qubits names place operand)
  unfolding operand_qubits qubits_at
  wire_operand operand = then_holds (wire_named_by operand.name) (λ of h. wire_indexed of operand.index h)

-- ---- operands of a call in a body

qubits_behind : (done : List TypedQubits) (q : TypedQubits) → body_qubits (done ++ q ∷ []) ≡ body_qubits done ++ body_qubits (q ∷ [])
qubits_behind [] q = refl
qubits_behind (qubits.Single (qubit.Slot n) ∷ done) q = ap (λ t. n ∷ t) (qubits_behind done q)
qubits_behind (qubits.Single (qubit.Fixed f) ∷ done) q = qubits_behind done q
qubits_behind (qubits.Single (qubit.Indexed register index) ∷ done) q = qubits_behind done q
qubits_behind (qubits.Register register ∷ done) q = qubits_behind done q

other_wire : (m n : ℕ) → clashes (qubits.Single (qubit.Slot m)) (qubits.Single (qubit.Slot n)) ≡ false → m ≢ n
unfolding clashes
other_wire m n e = λ same. let t : nat_eq m n ≡ true = eq-eqb m n same in let f = (neither (nat_eq m n) false e).0 in absurd (cc)

wires_differ : (k : ℕ) (done : List TypedQubits) (n : ℕ) → AreWires k done → any_clashes done (qubits.Single (qubit.Slot n)) ≡ false
    → Differ (body_qubits done) n
wires_differ k [] n h e = tt
wires_differ k (qubits.Single (qubit.Slot m) ∷ done) n h e =
    let both = neither (clashes (qubits.Single (qubit.Slot m)) (qubits.Single (qubit.Slot n))) (any_clashes done (qubits.Single (qubit.Slot n))) e in
    (other_wire m n both.0, wires_differ k done n h.1 both.1)
wires_differ k (qubits.Single (qubit.Fixed f) ∷ done) n h e = absurd h.0
wires_differ k (qubits.Single (qubit.Indexed register index) ∷ done) n h e = absurd h.0
wires_differ k (qubits.Register register ∷ done) n h e = absurd h.0

wires_more : (k : ℕ) (done : List TypedQubits) (q : TypedQubits) → AreWires k done → IsWire k q → AreWires k (done ++ q ∷ [])
wires_more k [] q h g = (g, tt)
wires_more k (d ∷ done) q h g = (h.0, wires_more k done q h.1 g)

-- so many operands, each another qubit of the body
pub record WiresFit (k count : ℕ) (all : List TypedQubits) : Type 0 where
  pub are : AreQubits k (body_qubits all)
  pub counted : length (body_qubits all) ≡ count

length_more : (qs : List ℕ) (n : ℕ) → length (qs ++ n ∷ []) ≡ suc (length qs)
length_more [] n = refl
length_more (q ∷ qs) n = ap suc (length_more qs n)

-- with one operand more
pub record Longer (k : ℕ) (done : List TypedQubits) (q : TypedQubits) : Type 0 where
  pub wires : AreWires k (done ++ q ∷ [])
  pub are : AreQubits k (body_qubits (done ++ q ∷ []))
  pub long : length (body_qubits (done ++ q ∷ [])) ≡ suc (length (body_qubits done))

one_wire : (k : ℕ) (done : List TypedQubits) (q : TypedQubits) → AreWires k done → AreQubits k (body_qubits done) → IsWire k q
    → any_clashes done q ≡ false → Longer k done q
one_wire k done (qubits.Single (qubit.Slot n)) h g w c =
    let behind = qubits_behind done (qubits.Single (qubit.Slot n)) in
    record {
      wires = wires_more k done (qubits.Single (qubit.Slot n)) h w;
      are = subst (AreQubits k) (sym behind) (qubits_more k (body_qubits done) n g w (wires_differ k done n h c));
      long = ap length behind ∙ length_more (body_qubits done) n;
    }
one_wire k done (qubits.Single (qubit.Fixed f)) h g w c = absurd w
one_wire k done (qubits.Single (qubit.Indexed register index)) h g w c = absurd w
one_wire k done (qubits.Register register) h g w c = absurd w

module _ (gates : List GateBody) (k : ℕ) (names : Names) (inside : InScopes (InBody gates k) names.scopes) (place : Place) where
  wires_fit : (done : List TypedQubits) (given : List Operand) (count : ℕ) → AreWires k done → AreQubits k (body_qubits done)
      → length (body_qubits done) + length given ≡ count → Holds (WiresFit k count) (operands_from names place done given)
  unfolding operands_from
  wires_fit done [] count h g e = ok_holds (record { are = g; counted = omega (arith, e) })
  wires_fit done (operand ∷ rest) count h g e =
      then_holds (wire_operand gates k names inside place operand) (λ q w.
      then_holds {r = same_size place (size_of_all done) q} any_holds (λ _ _.
      then_holds (unless_is (any_clashes done q) (refusal.E11 place cause.Qubit)) (λ _ c.
      let more = one_wire k done q h g w c in
      let long = more.long in
      wires_fit (done ++ q ∷ []) rest count more.wires more.are (omega (arith, long, e)))))

-- ---- calls and bodies

module _ (gates : List GateBody) (k : ℕ) (standard : HasStandardGates gates) (names : Names)
    (inside : InScopes (InBody gates k) names.scopes) where
  with_fits : (place : Place) (arguments : List Expr) (operands : List Operand) (ms : List GateModifier) (gate : Gate)
      → GateFits (body_scope gates) gate
      → Holds (BodyCallFits (gate_sizes gates) k) (body_call_with place arguments operands ms gate names)
  unfolding body_call_with
  with_fits place arguments operands ms gate f =
      then_holds {r = count_fits place gate.parameters (length arguments)} any_holds (λ _ _.
      then_holds {r = angles_from names place [] arguments} any_holds (λ angles _.
      then_holds (same_count place (controls ms + gate.qubits) (length operands)) (λ _ c.
      then_holds (wires_fit gates k names inside place [] operands (controls ms + gate.qubits) tt tt (omega (arith, c))) (λ all h.
      ok_holds (h.counted ∙ (ap (λ t. controls ms + t) (sym f) ∙ sym (controlled_size (gate_sizes gates) ms gate.called)), h.are)))))

  call_fits : (place : Place) (included : Bool) (call : GateCall)
      → Holds (BodyCallFits (gate_sizes gates) k) (body_call place included call names)
  unfolding body_call
  call_fits place included call =
      then_holds {r = modifiers_from names place [] call.modifiers} any_holds (λ ms _.
      then_holds (called_fits (body_scope gates) names
      (scopes_also (InBody gates k) (NamedIsSeen (body_scope gates)) (body_seen gates k) names.scopes inside) standard included place call.gate)
      (λ gate f. with_fits place (written_arguments call.gate) call.operands ms gate f))

  statement_fits : (place : Place) (included : Bool) (f : GateForm)
      → Holds (All (BodyCallFits (gate_sizes gates) k)) (body_statement place included f names)
  statement_fits place included (form.Call call) =
      then_holds (call_fits place included call) (λ c h. ok_holds (all_one (BodyCallFits (gate_sizes gates) k) c h))
  statement_fits place included (form.Barrier names') =
      then_holds {r = body_barrier place names' names} any_holds (λ _ _. ok_holds (all_none (BodyCallFits (gate_sizes gates) k)))

  body_fits : (included : Bool) (done : List BodyCall) (statements : List GateStatement) → All (BodyCallFits (gate_sizes gates) k) done
      → Holds (All (BodyCallFits (gate_sizes gates) k)) (body_from included done statements names)
  unfolding body_from
  body_fits included done [] h = ok_holds h
  body_fits included done (s ∷ rest) h =
      then_holds (statement_fits s.place included s.form) (λ more g.
      body_fits included (done ++ more) rest (all_both (BodyCallFits (gate_sizes gates) k) done more h g))

-- ---- the whole

abbrev NamesIn : List GateBody → ℕ → State → Type 0
NamesIn gates k s = InScopes (InBody gates k) s.names.scopes

pub record Leads {A : Type 0} (gates : List GateBody) (k : ℕ) (Q : A → Type 0) (p : Typing A) : Type 0 where
  pub by : (s : State) → NamesIn gates k s → Holds (λ (r : A × State). Q r.0 × NamesIn gates k r.1) (p s)

then_leads : {A B : Type 0} {gates : List GateBody} {k : ℕ} {P : A → Type 0} {Q : B → Type 0} {p : Typing A} {f : A → Typing B}
    → Leads gates k P p → ((a : A) → P a → Leads gates k Q (f a)) → Leads gates k Q (p >>= f)
then_leads h g = record { by = λ s n. then_holds (h.by s n) (λ r d. (g r.0 d.0).by r.1 d.1) }

abbrev Any : {A : Type 0} → A → Type 0
Any a = Unit {0}

module _ (gates : List GateBody) (k : ℕ) where
  declare_leads : (place : Place) (name : scope.Name) (it : Named) (known : Known) → InBody gates k it
      → Leads gates k Any (declare place name it known)
  unfolding declare
  declare_leads place name it known g = record {
    by = λ s h.
        then_holds (named_in_is (InBody gates k) place name it known s.names h g) (λ names n. ok_holds (tt, n));
  }

  angle_inside : (n : ℕ) → InBody gates k (angle_named n)
  unfolding qubits_of
  angle_inside n = record { wires = λ of e. cc; gate = λ g e. cc }

  wire_inside : (n : ℕ) → n < k → InBody gates k (wire_named n)
  unfolding qubits_of
  wire_inside n l =
      record { wires = λ of e. let same : qubits.Single (qubit.Slot n) ≡ of = cc in subst (IsWire k) same l; gate = λ g e. cc }

  angles_lead : (place : Place) (n : ℕ) (names : List scope.Name) → Leads gates k Any (declare_angles place n names)
  unfolding declare_angles
  angles_lead place n [] = record { by = λ s h. ok_holds (tt, h) }
  angles_lead place n (name ∷ rest) =
      then_leads (declare_leads place name (angle_named n) known.Other (angle_inside n)) (λ _ _. angles_lead place (n + 1) rest)

  wires_lead : (place : Place) (n : ℕ) (names : List scope.Name) → n + length names ≡ k → Leads gates k Any (declare_wires place n names)
  unfolding declare_wires
  wires_lead place n [] e = record { by = λ s h. ok_holds (tt, h) }
  wires_lead place n (name ∷ rest) e =
      then_leads (declare_leads place name (wire_named n) known.Hidden (wire_inside n (omega (arith, e))))
      (λ _ _. wires_lead place (n + 1) rest (omega (arith, e)))

abbrev BodyIsFit : List GateBody → ℕ → GateBody → Type 0
BodyIsFit gates k body = (body.qubits ≡ k) × All (BodyCallFits (gate_sizes gates) k) body.calls

module _ (gates : List GateBody) (k : ℕ) where
  enter_leads : Leads gates k Any enter
  unfolding enter
  enter_leads = record { by = λ s h. ok_holds (tt, (tt, h)) }

  leave_leads : (n : ℕ) → Leads gates k Any (leave n)
  unfolding leave
  leave_leads n = record { by = λ s h. ok_holds (tt, left_is (InBody gates k) s.names.scopes h) }

  calls_lead : (standard : HasStandardGates gates) (included : Bool) (statements : List GateStatement)
      → Leads gates k (All (BodyCallFits (gate_sizes gates) k)) (seen (body_from included [] statements))
  calls_lead standard included statements = record {
    by = λ s h.
        then_holds (body_fits gates k standard s.names h included [] statements (all_none (BodyCallFits (gate_sizes gates) k)))
        (λ calls c. ok_holds (c, h));
  }

  given_leads : (body : GateBody) → BodyIsFit gates k body → Leads gates k (BodyIsFit gates k) (pure body)
  given_leads body h = record { by = λ s n. ok_holds (h, n) }

inside_leads : (gates : List GateBody) (standard : HasStandardGates gates) (gate : GateItem)
    → Leads gates (length gate.qubits) (BodyIsFit gates (length gate.qubits)) (gate_inside gate)
unfolding gate_inside
inside_leads gates standard gate = record {
  by = λ s h.
      (then_leads (enter_leads gates (length gate.qubits)) (λ _ _.
      then_leads (angles_lead gates (length gate.qubits) gate.place 0 (parameters_of gate)) (λ _ _.
      then_leads (wires_lead gates (length gate.qubits) gate.place 0 gate.qubits (omega arith)) (λ _ _.
      then_leads (calls_lead gates (length gate.qubits) standard s.included gate.body) (λ calls c.
      then_leads (leave_leads gates (length gate.qubits) (length s.names.consts)) (λ _ _.
      given_leads gates (length gate.qubits) (body_with gate calls) (refl, c))))))).by s h;
}

inside_also : (gates : List GateBody) (k : ℕ) (it : Named) → IsInside gates it → InBody gates k it
inside_also gates k it h = record {
  wires = λ of e. let none = h.no_qubits in cc;
  gate = λ g e. (h.gate g e).size;
}

pub body_of_fits : (gate : GateItem) (s : State) → SeesGates s
    → Holds (λ (r : GateBody × State). All (BodyCallFits (gate_sizes s.gates) r.0.qubits) r.0.calls) (gate_body_of gate s)
unfolding gate_body_of turned_inside
body_of_fits gate s h =
    then_holds ((inside_leads s.gates h.standard gate).by (turned_inside s.slots s)
    (scopes_also (IsInside s.gates) (InBody s.gates (length gate.qubits)) (inside_also s.gates (length gate.qubits)) s.inside.scopes h.names))
    (λ r d. ok_holds (subst (λ t. All (BodyCallFits (gate_sizes s.gates) t) r.0.calls) (sym d.0.0) d.0.1))

pub gate_bodies_are_well_formed : GateBodiesAreWellFormed
gate_bodies_are_well_formed gate old new body h e = (body_of_fits gate old h).by (body, new) e
