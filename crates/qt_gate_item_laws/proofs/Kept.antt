-- Parameters and qubits are declared in a scope on top of the names, and what is known of them stands behind what was known.
use Rattle.std.proofs.Common.{◌≡◌, ◌≢◌, ◌+◌, ℕ, Bool, true, false, List, [], ◌∷◌, ◌++◌, length, take, Ok, Err, Result, is_some, if◌then◌else◌, refl, sym, ap, ◌∙◌, subst}
use Rattle.std.proofs.lemmas.List.{append_assoc, append-nil}
use Rattle.std.proofs.Math.Seq.{take-append_seam}
use Rattle.qt_const_rules.specs.declared.consts.Known.{Known}
use Rattle.qt_const_rules.specs.declared.consts.Known.TheVariants as known
use Rattle.qt_gate_calls.specs.declared.body.BodyCall.{BodyCall}
use Rattle.qt_const_rules.specs.declared.consts.Entry.{Entry}
use Rattle.qt_gate_calls.specs.declared.body.GateBody.{GateBody}
use Rattle.qt_names.specs.Entries.{Name}
use Rattle.qt_names.specs.Entries as entries
use Rattle.qt_names.specs.Scopes.{declaration, declared, declares, entered, found_in, left}
use Rattle.qt_names.specs.declared.named.Named.{Named}
use Rattle.qt_tree.specs.declared.place.Place.{Place}
use Rattle.qt_tree.specs.declared.program.GateItem.{GateItem}
use Rattle.qt_tree.specs.declared.refusal.TextRefusal.{TextRefusal}
use Rattle.qt_tree.specs.declared.refusal.TextRefusal.TheVariants as refusal
use Rattle.qt_typing.specs.Checked.{Checked, and_then}
use Rattle.qt_typing.specs.Environment.{Typing, ◌>>=◌, pure, seen, declare, enter, leave, named_in}
use Rattle.qt_typing.specs.GateItems.{angle_named, body_from, body_with, declare_angles, declare_wires, gate_body_of, gate_inside, parameters_of, wire_named}
use Rattle.qt_typing.specs.Subroutines.{turned_inside}
use Rattle.qt_typing.specs.declared.names.Names.{Names}
use Rattle.qt_typing.specs.declared.state.State.{State}

-- ---- judgements one after the other

answers : {A B : Type 0} (p : Checked A) (f : A → Checked B) (b : B) → and_then p f ≡ Ok b → (a : A) × (p ≡ Ok a) × (f a ≡ Ok b)
answers (Ok a) f b e = (a, refl, e)
answers (Err x) f b e = absurd (cc)

abbrev ok_of : {A : Type 0} → A → Checked A
ok_of a = Ok a

same_pair : {A : Type 0} (x y : A) → ok_of x ≡ ok_of y → x ≡ y
same_pair x y e = cc

-- ---- the names with a scope on top

abbrev over : State → List entries.Entry → List Entry → State
over s scope more = record s { names = record { scopes = scope ∷ s.names.scopes; consts = s.names.consts ++ more } }

record On (s v : State) : Type 0 where
  pub scope : List entries.Entry
  pub more : List Entry
  pub is : v ≡ over s scope more

-- one declaration more
declare_on : (s : State) (place : Place) (name : Name) (named : Named) (known : Known) (v w : State) → On s v
    → declare place name named known v ≡ Ok (tt, w) → On s w
unfolding declare named_in
declare_on s place name named known v w on e =
    by_test (is_some (found_in on.scope name)) (subst (λ (x : State). declare place name named known x ≡ Ok (tt, w)) on.is e)
  where
    entry : Entry
    entry = record { name = name; known = known }

    there : entries.Entry
    there = record { name = name; named = named }

    scopes_by : Bool → Checked (List (List entries.Entry))
    scopes_by b = if b then Err (refusal.E9 place name) else Ok ((on.scope ++ there ∷ []) ∷ s.names.scopes)

    names_with : List (List entries.Entry) → Checked Names
    names_with scopes = Ok (record { scopes = scopes; consts = (s.names.consts ++ on.more) ++ entry ∷ [] })

    state_with : Names → Checked (Unit {0} × State)
    state_with names = Ok (tt, record (over s on.scope on.more) { names = names })

    by_test : (b : Bool) → and_then (and_then (scopes_by b) names_with) state_with ≡ Ok (tt, w) → On s w
    by_test true e = absurd (cc)
    by_test false e =
        record {
          scope =
              on.scope ++ there ∷ [];
          more = on.more ++ entry ∷ [];
          is =
              sym (ap (λ (r : Unit {0} × State). r.1) (same_pair _ _ e))
              ∙ ap (λ (known : List Entry). record s { names = record { scopes = (on.scope ++ there ∷ []) ∷ s.names.scopes; consts = known } })
              (append_assoc s.names.consts on.more (entry ∷ []));
        }

angles_on : (s : State) (place : Place) (n : ℕ) (names : List Name) (v w : State) → On s v → declare_angles place n names v ≡ Ok (tt, w) → On s w
unfolding declare_angles
angles_on s place n [] v w on e = subst (On s) (ap (λ (r : Unit {0} × State). r.1) (same_pair _ _ e)) on
angles_on s place n (name ∷ rest) v w on e =
    let first = answers (declare place name (angle_named n) known.Other v) _ (tt, w) e in
    angles_on s place (n + 1) rest first.0.1 w (declare_on s place name (angle_named n) known.Other v first.0.1 on first.1) first.2

wires_on : (s : State) (place : Place) (n : ℕ) (names : List Name) (v w : State) → On s v → declare_wires place n names v ≡ Ok (tt, w) → On s w
unfolding declare_wires
wires_on s place n [] v w on e = subst (On s) (ap (λ (r : Unit {0} × State). r.1) (same_pair _ _ e)) on
wires_on s place n (name ∷ rest) v w on e =
    let first = answers (declare place name (wire_named n) known.Hidden v) _ (tt, w) e in
    wires_on s place (n + 1) rest first.0.1 w (declare_on s place name (wire_named n) known.Hidden v first.0.1 on first.1) first.2

-- ---- the end of the scope

left_again : (scope : List entries.Entry) (scopes : List (List entries.Entry)) → scopes ≢ [] → left (scope ∷ scopes) ≡ scopes
left_again scope [] h = absurd (h refl)
left_again scope (next ∷ outer) h = refl

abbrev closing : ℕ → State → State
closing known s = record s { names = record { scopes = left s.names.scopes; consts = take known s.names.consts } }

closed : (s : State) (scope : List entries.Entry) (more : List Entry) → s.names.scopes ≢ []
    → closing (length s.names.consts) (over s scope more) ≡ s
closed s scope more h =
    ap (λ (x : List (List entries.Entry)).
    record s { names = record { scopes = x; consts = take (length s.names.consts) (s.names.consts ++ more) } })
    (left_again scope s.names.scopes h)
    ∙ ap (λ (x : List Entry). record s { names = record { scopes = s.names.scopes; consts = x } }) (take-append_seam s.names.consts more)

begun : (s : State) → On s (record s { names = record { scopes = entered s.names.scopes; consts = s.names.consts } })
begun s =
    record {
      scope = [];
      more = [];
      is =
          sym (ap (λ (x : List Entry). record s { names = record { scopes = [] ∷ s.names.scopes; consts = x } })
          (append-nil s.names.consts));
    }

abbrev last : {A : Type 0} → A × State → State
last r = r.1

inside_keeps : (gate : GateItem) (s t : State) (body : GateBody) → s.names.scopes ≢ [] → gate_inside gate s ≡ Ok (body, t) → t ≡ s
unfolding gate_inside enter leave
inside_keeps gate s t body h e =
    let start : State = record s { names = record { scopes = entered s.names.scopes; consts = s.names.consts } } in
    let angles = answers (declare_angles gate.place 0 (parameters_of gate) start) _ (body, t) e in
    let wires = answers (declare_wires gate.place 0 gate.qubits angles.0.1) _ (body, t) angles.2 in
    let calls = answers (seen (body_from s.included [] gate.body) wires.0.1) _ (body, t) wires.2 in
    let made = answers (body_from s.included [] gate.body wires.0.1.names) _ calls.0 calls.1 in
    let on : On s wires.0.1 =
    wires_on s gate.place 0 gate.qubits angles.0.1 wires.0.1
    (angles_on s gate.place 0 (parameters_of gate) start angles.0.1 (begun s) angles.1) wires.1 in
    let same : calls.0.1 ≡ over s on.scope on.more = sym (ap last (same_pair _ _ made.2)) ∙ on.is in
    sym (ap last (same_pair _ _ calls.2)) ∙ ap (closing (length s.names.consts)) same ∙ closed s on.scope on.more h

pub gate_keeps : (gate : GateItem) (before behind : State) (body : GateBody) → before.inside.scopes ≢ []
    → gate_body_of gate before ≡ Ok (body, behind) → behind ≡ before
unfolding gate_body_of turned_inside
gate_keeps gate before behind body h e =
    let turned : State = turned_inside before.slots before in
    let inner = answers (gate_inside gate turned) _ (body, behind) e in
    sym (ap last (same_pair _ _ inner.2))
    ∙ ap (turned_inside before.slots) (inside_keeps gate turned inner.0.1 inner.0.0 h inner.1)
