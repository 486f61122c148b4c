-- The primitives of an expansion, where the cells hold what its steps give, are those of the call; each step is needed.
use Rattle.std.proofs.Common.{◌≡◌, ℕ, zero, suc, ◌+◌, Bool, true, false, not, ◌&&◌, ◌||◌, List, [], ◌∷◌, ◌++◌, map, refl, sym, ap, subst, ◌∙◌, arith, Some, None}
use Rattle.std.specs.Prelude.{pos, negsuc, if◌then◌else◌}
use Rattle.qt_gate_calls.specs.declared.angle.Angle.{Angle}
use Rattle.qt_gate_calls.specs.declared.body.GateModifier.{GateModifier}
use Rattle.qt_gate_calls.specs.declared.body.GateModifier.TheVariants.{Inv, Pow, Ctrl, NegCtrl}
use Rattle.qt_gate_calls.specs.declared.body.Called.{Called}
use Rattle.qt_gate_calls.specs.declared.body.Called.TheVariants as called
use Rattle.qt_gate_calls.specs.declared.body.BodyCall.{BodyCall}
use Rattle.qt_gate_calls.specs.declared.body.GateBody.{GateBody}
use Rattle.qt_gate_calls.specs.Units.{KnownUnits, opposite, nth_known}
use Rattle.qt_gate_calls.specs.Angles.{value}
use Rattle.qt_gate_calls.specs.Numbered.{if_number, numbered_from}
use Rattle.qt_gate_calls.specs.Primitives.{Turned, Phased, ControlsOf, with_one, with_zero, undo, repeated, powered, picked, first, others, Primitive, Primitives, inverse_of, all_modified_primitives, GatePrimitives, called_primitives, call_primitives, calls_primitives, body_primitives, primitives_of}
use Rattle.qt_instructions.specs.declared.reference.QubitRef.{QubitRef}
use Rattle.qt_primitives.specs.declared.unit.Argument.{Argument}
use Rattle.qt_primitives.specs.declared.unit.Controls.{Controls}
use Rattle.qt_modify.specs.declared.unit.Steps.{Steps}
use Rattle.qt_primitives.specs.declared.unit.UnitPrimitive.{UnitPrimitive}
use Rattle.qt_modify.specs.Reckoning.{Cells, none_known, argument_at, reckoned}
use Rattle.qt_modify.specs.Needs.{occurs, are_idle, flag_at, called_needs, wanted, angles_need, calls_need}
use Rattle.qt_modify.specs.Expansions.{angle_of, no_qubit, inner_controls, inner_qubits, modified, Expanded, Expander, GateExpansion, GateExpansions, needs_in, nothing_after, called_expansion, with_primitives, call_expansion, AllReckoned, reckoned_if, all_reckoned, body_call_expansion, calls_expansion, body_expansion, no_expansion, expansions_of}
use Rattle.qt_modify.specs.Expansions as unit
use Rattle.qt_modify.specs.Calls as typed_calls
use Rattle.qt_typed.specs.declared.call.GateUse.{GateUse}
use Rattle.qt_modify_laws.specs.Laws.{held_in, Holds, IsKnown, AreKnown, angle_at, primitive_at, HasKnown, HaveKnown, ExpansionsArePrimitives, StepsAreNeeded, FixedAnglesAreKnown}
use Rattle.qt_modify_laws.proofs.Tied.{or_cases, Tied, angle_ties}
use Rattle.qt_modify_laws.proofs.Reading.{map-append, map-others, map-nth, map-picked, controls_at, controls_one, controls_zero, angle_at-of, map-undo, map-powered}

true_false : {P : Type 0} → true ≡ false → P
true_false e = absurd (cc)

false_true : {P : Type 0} → false ≡ true → P
false_true e = absurd (cc)

-- ---- all angles are known

known_front : (ps rs : List Primitive) → HaveKnown (ps ++ rs) → HaveKnown ps
known_front [] rs k = tt
known_front (p ∷ ps) rs k = (k.0, known_front ps rs k.1)

known_back : (ps rs : List Primitive) → HaveKnown (ps ++ rs) → HaveKnown rs
known_back [] rs k = k
known_back (p ∷ ps) rs k = known_back ps rs k.1

opposite_known : (a : KnownUnits) → IsKnown (opposite a) → IsKnown a
opposite_known None k = k
opposite_known (Some z) k = tt

inverse_known : (p : Primitive) → HasKnown (inverse_of p) → HasKnown p
inverse_known (Turned ones zeros q a b c) k = (opposite_known a k.0, opposite_known b k.2, opposite_known c k.1)
inverse_known (Phased ones zeros a) k = opposite_known a k

undo_known : (ps : List Primitive) → HaveKnown (undo inverse_of ps) → HaveKnown ps
undo_known [] k = tt
undo_known (p ∷ ps) k = (
  inverse_known p (known_back (undo inverse_of ps) (inverse_of p ∷ []) k).0,
  undo_known ps (known_front (undo inverse_of ps) (inverse_of p ∷ []) k),
)

-- ---- modifiers

repeated_nothing : (k : ℕ) → repeated {P = Primitive} k [] ≡ []
repeated_nothing zero = refl
repeated_nothing (suc k) = ap (λ t. t ++ []) (repeated_nothing k)

-- a power 0 stands in the way
idle_none : (ms : List GateModifier) (ps : Primitives) (cs : ControlsOf ℕ) (qs : List ℕ) → are_idle ms ≡ true
    → all_modified_primitives ms ps cs qs ≡ []
idle_none [] ps cs qs i = false_true i
idle_none (Ctrl ∷ ms) ps cs qs i = idle_none ms ps (with_one (first 0 qs) cs) (others qs) i
idle_none (NegCtrl ∷ ms) ps cs qs i = idle_none ms ps (with_zero (first 0 qs) cs) (others qs) i
idle_none (Inv ∷ ms) ps cs qs i = ap (undo inverse_of) (idle_none ms ps cs qs i)
idle_none (Pow (pos zero) ∷ ms) ps cs qs i = refl
idle_none (Pow (pos (suc k)) ∷ ms) ps cs qs i = ap (repeated (suc k)) (idle_none ms ps cs qs i) ∙ repeated_nothing (suc k)
idle_none (Pow (negsuc k) ∷ ms) ps cs qs i =
    ap (λ t. repeated (suc k) (undo inverse_of t)) (idle_none ms ps cs qs i) ∙ repeated_nothing (suc k)

-- without one, what is within has an unknown angle only where the whole has
inner_known : {P : Type 0} (ms : List GateModifier) (ps : Primitives) (cs : ControlsOf ℕ) (qs : List ℕ) → are_idle ms ≡ false
    → HaveKnown (all_modified_primitives ms ps cs qs) → ((ds : ControlsOf ℕ) (rs : List ℕ) → HaveKnown (ps ds rs) → P) → P
inner_known [] ps cs qs i k f = f cs qs k
inner_known (Ctrl ∷ ms) ps cs qs i k f = inner_known ms ps (with_one (first 0 qs) cs) (others qs) i k f
inner_known (NegCtrl ∷ ms) ps cs qs i k f = inner_known ms ps (with_zero (first 0 qs) cs) (others qs) i k f
inner_known (Inv ∷ ms) ps cs qs i k f = inner_known ms ps cs qs i (undo_known (all_modified_primitives ms ps cs qs) k) f
inner_known (Pow (pos zero) ∷ ms) ps cs qs i k f = true_false i
inner_known (Pow (pos (suc n)) ∷ ms) ps cs qs i k f =
    let within : List Primitive = all_modified_primitives ms ps cs qs in
    inner_known ms ps cs qs i (known_back (repeated n within) within k) f
inner_known (Pow (negsuc n) ∷ ms) ps cs qs i k f =
    let within : List Primitive = all_modified_primitives ms ps cs qs in
    inner_known ms ps cs qs i (undo_known within (known_back (repeated n (undo inverse_of within)) (undo inverse_of within) k)) f

module _ (cells : Cells) (place : QubitRef → ℕ) (z : place no_qubit ≡ 0) where
  one_more : (ps : Primitives) (cs : Controls) (qs : List QubitRef)
      → ps (controls_at place (unit.with_one (first no_qubit qs) cs)) (map place (others qs))
      ≡ ps (with_one (first 0 (map place qs)) (controls_at place cs)) (others (map place qs))
  one_more ps cs qs =
      ap (λ t. ps t (map place (others qs)))
      (controls_one place (first no_qubit qs) cs ∙ ap (λ t. with_one t (controls_at place cs)) (map-nth place no_qubit 0 0 qs z))
      ∙ ap (ps (with_one (first 0 (map place qs)) (controls_at place cs))) (map-others place qs)

  zero_more : (ps : Primitives) (cs : Controls) (qs : List QubitRef)
      → ps (controls_at place (unit.with_zero (first no_qubit qs) cs)) (map place (others qs))
      ≡ ps (with_zero (first 0 (map place qs)) (controls_at place cs)) (others (map place qs))
  zero_more ps cs qs =
      ap (λ t. ps t (map place (others qs)))
      (controls_zero place (first no_qubit qs) cs ∙ ap (λ t. with_zero t (controls_at place cs)) (map-nth place no_qubit 0 0 qs z))
      ∙ ap (ps (with_zero (first 0 (map place qs)) (controls_at place cs))) (map-others place qs)

  -- under modifiers, where what is within is read so
  modified_reads : (ms : List GateModifier) (us : List UnitPrimitive) (ps : Primitives) (cs : Controls) (qs : List QubitRef)
      → map (primitive_at place cells) us ≡ ps (controls_at place (inner_controls ms qs cs)) (map place (inner_qubits ms qs))
      → map (primitive_at place cells) (modified ms us) ≡ all_modified_primitives ms ps (controls_at place cs) (map place qs)
  modified_reads [] us ps cs qs e = e
  modified_reads (Ctrl ∷ ms) us ps cs qs e =
      modified_reads ms us ps (unit.with_one (first no_qubit qs) cs) (others qs) e ∙ one_more (all_modified_primitives ms ps) cs qs
  modified_reads (NegCtrl ∷ ms) us ps cs qs e =
      modified_reads ms us ps (unit.with_zero (first no_qubit qs) cs) (others qs) e ∙ zero_more (all_modified_primitives ms ps) cs qs
  modified_reads (Inv ∷ ms) us ps cs qs e = map-undo place cells (modified ms us) ∙ ap (undo inverse_of) (modified_reads ms us ps cs qs e)
  modified_reads (Pow k ∷ ms) us ps cs qs e =
      map-powered place cells k (modified ms us) ∙ ap (powered inverse_of k) (modified_reads ms us ps cs qs e)

  inner_known_at : (ms : List GateModifier) (ps : Primitives) (cs : Controls) (qs : List QubitRef) → are_idle ms ≡ false
      → HaveKnown (all_modified_primitives ms ps (controls_at place cs) (map place qs))
      → HaveKnown (ps (controls_at place (inner_controls ms qs cs)) (map place (inner_qubits ms qs)))
  inner_known_at [] ps cs qs i k = k
  inner_known_at (Ctrl ∷ ms) ps cs qs i k =
      inner_known_at ms ps (unit.with_one (first no_qubit qs) cs) (others qs) i
      (subst HaveKnown (sym (one_more (all_modified_primitives ms ps) cs qs)) k)
  inner_known_at (NegCtrl ∷ ms) ps cs qs i k =
      inner_known_at ms ps (unit.with_zero (first no_qubit qs) cs) (others qs) i
      (subst HaveKnown (sym (zero_more (all_modified_primitives ms ps) cs qs)) k)
  inner_known_at (Inv ∷ ms) ps cs qs i k =
      inner_known_at ms ps cs qs i (undo_known (all_modified_primitives ms ps (controls_at place cs) (map place qs)) k)
  inner_known_at (Pow (pos zero) ∷ ms) ps cs qs i k = true_false i
  inner_known_at (Pow (pos (suc n)) ∷ ms) ps cs qs i k =
      let within : List Primitive = all_modified_primitives ms ps (controls_at place cs) (map place qs) in
      inner_known_at ms ps cs qs i (known_back (repeated n within) within k)
  inner_known_at (Pow (negsuc n) ∷ ms) ps cs qs i k =
      let within : List Primitive = all_modified_primitives ms ps (controls_at place cs) (map place qs) in
      inner_known_at ms ps cs qs i (undo_known within (known_back (repeated n (undo inverse_of within)) (undo inverse_of within) k))

-- ---- an expander goes on after the steps so far, and a step of its own isn't fixed

pub record Grows (cells : Cells) (x : Expander) : Type 0 where
  pub before : (cs : Controls) (qs : List QubitRef) (steps : Steps) → Holds cells (x cs qs steps).steps → Holds cells steps
  pub none : (cs : Controls) (qs : List QubitRef) (steps : Steps) → Holds none_known steps → Holds none_known (x cs qs steps).steps

-- an expander and the primitives that it is to give
pub record Meets (cells : Cells) (place : QubitRef → ℕ) (x : Expander) (ps : Primitives) : Type 0 where
  pub means : (cs : Controls) (qs : List QubitRef) (steps : Steps) → Holds cells (x cs qs steps).steps
      → (map (primitive_at place cells) (x cs qs steps).primitives ≡ ps (controls_at place cs) (map place qs)) × Holds cells steps
  pub sound : (cs : Controls) (qs : List QubitRef) (steps : Steps) → Holds cells (x cs qs steps).steps
      → HaveKnown (ps (controls_at place cs) (map place qs)) → AreKnown cells steps → AreKnown cells (x cs qs steps).steps

-- a call under modifiers, which may be idle
abbrev call_if : Bool → List GateModifier → Expander → Expander
call_if idle ms x cs qs steps =
    if idle then nothing_after steps else with_primitives (modified ms) (x (inner_controls ms qs cs) (inner_qubits ms qs) steps)

call_if_grows : (cells : Cells) (idle : Bool) (ms : List GateModifier) (x : Expander) → Grows cells x → Grows cells (call_if idle ms x)
call_if_grows cells true ms x g = record { before = λ cs qs steps h. h; none = λ cs qs steps h. h }
call_if_grows cells false ms x g = record {
  before = λ cs qs steps h. g.before (inner_controls ms qs cs) (inner_qubits ms qs) steps h;
  none = λ cs qs steps h. g.none (inner_controls ms qs cs) (inner_qubits ms qs) steps h;
}

idle_meets : (cells : Cells) (place : QubitRef → ℕ) (ms : List GateModifier) (x : Expander) (ps : Primitives) → are_idle ms ≡ true
    → Meets cells place (call_if true ms x) (all_modified_primitives ms ps)
idle_meets cells place ms x ps i = record {
  means = λ cs qs steps h. (sym (idle_none ms ps (controls_at place cs) (map place qs) i), h);
  sound = λ cs qs steps h k s. s;
}

busy_meets : (cells : Cells) (place : QubitRef → ℕ) → place no_qubit ≡ 0 → (ms : List GateModifier) (x : Expander) (ps : Primitives)
    → are_idle ms ≡ false → Meets cells place x ps → Meets cells place (call_if false ms x) (all_modified_primitives ms ps)
busy_meets cells place z ms x ps i m = record {
  means = λ cs qs steps h.
      let inner : (map (primitive_at place cells) (x (inner_controls ms qs cs) (inner_qubits ms qs) steps).primitives
      ≡ ps (controls_at place (inner_controls ms qs cs)) (map place (inner_qubits ms qs))) × Holds cells steps =
      m.means (inner_controls ms qs cs) (inner_qubits ms qs) steps h in
      (modified_reads cells place z ms (x (inner_controls ms qs cs) (inner_qubits ms qs) steps).primitives ps cs qs inner.0, inner.1);
  sound = λ cs qs steps h k s.
      m.sound (inner_controls ms qs cs) (inner_qubits ms qs) steps h (inner_known_at cells place z ms ps cs qs i k) s;
}

-- ---- by number

-- the arguments that are needed hold what is known of them
abbrev pub Agree : Cells → (ℕ → Bool) → List Argument → List KnownUnits → Type 0
Agree cells needs given known = (i : ℕ) → needs i ≡ true → held_in cells (argument_at i given) ≡ nth_known i known

pub record Expands (cells : Cells) (place : QubitRef → ℕ) (x : GateExpansion) (ps : List KnownUnits → Primitives) : Type 0 where
  pub meets : (given : List Argument) (known : List KnownUnits) → Agree cells x.needs given known
      → Meets cells place (x.expander given) (ps known)
  pub needed : (known : List KnownUnits) (cs : ControlsOf ℕ) (qs : List ℕ) → HaveKnown (ps known cs qs) → (i : ℕ) → x.needs i ≡ true
      → IsKnown (nth_known i known)
  pub grows : (given : List Argument) → Grows cells (x.expander given)

pub record AllExpand (cells : Cells) (place : QubitRef → ℕ) (e : GateExpansions) (ps : GatePrimitives) : Type 0 where
  pub by : (i : ℕ) → Expands cells place (e i) (ps i)

no_flag : {P : Type 0} (i : ℕ) → flag_at [] i ≡ true → P
no_flag zero e = false_true e
no_flag (suc i) e = false_true e

module _ (cells : Cells) (place : QubitRef → ℕ) (z : place no_qubit ≡ 0) (e : GateExpansions) (ps : GatePrimitives)
    (h : AllExpand cells place e ps) where
  called_meets : (gate : Called) (given : List Argument) (known : List KnownUnits)
      → Agree cells (called_needs (needs_in e) gate) given known
      → Meets cells place (called_expansion e gate given) (called_primitives ps gate known)
  called_meets called.U given known a = record {
    means = λ cs qs steps k. (
      ap (λ t. Turned (map place cs.ones) (map place cs.zeros) t (angle_at cells (angle_of (argument_at 0 given)))
          (angle_at cells (angle_of (argument_at 1 given))) (angle_at cells (angle_of (argument_at 2 given))) ∷ [])
          (map-nth place no_qubit 0 0 qs z)
          ∙ ap (λ t. Turned (map place cs.ones) (map place cs.zeros) (first 0 (map place qs)) t
          (angle_at cells (angle_of (argument_at 1 given))) (angle_at cells (angle_of (argument_at 2 given))) ∷ [])
          (angle_at-of cells (argument_at 0 given) ∙ a 0 refl)
          ∙ ap (λ t. Turned (map place cs.ones) (map place cs.zeros) (first 0 (map place qs)) (nth_known 0 known) t
          (angle_at cells (angle_of (argument_at 2 given))) ∷ [])
          (angle_at-of cells (argument_at 1 given) ∙ a 1 refl)
          ∙ ap (λ t. Turned (map place cs.ones) (map place cs.zeros) (first 0 (map place qs)) (nth_known 0 known)
          (nth_known 1 known) t ∷ [])
          (angle_at-of cells (argument_at 2 given) ∙ a 2 refl),
      k,
    );
    sound = λ cs qs steps k l s. s;
  }
  called_meets called.GlobalPhase given known a = record {
    means = λ cs qs steps k. (
      ap (λ t. Phased (map place cs.ones) (map place cs.zeros) t ∷ []) (angle_at-of cells (argument_at 0 given) ∙ a 0 refl),
      k,
    );
    sound = λ cs qs steps k l s. s;
  }
  called_meets (called.Gate i) given known a = record {
    means = ((h.by i).meets given known a).means;
    sound = ((h.by i).meets given known a).sound;
  }

  called_grows : (gate : Called) (given : List Argument) → Grows cells (called_expansion e gate given)
  called_grows called.U given = record { before = λ cs qs steps k. k; none = λ cs qs steps k. k }
  called_grows called.GlobalPhase given = record { before = λ cs qs steps k. k; none = λ cs qs steps k. k }
  called_grows (called.Gate i) given = record { before = ((h.by i).grows given).before; none = ((h.by i).grows given).none }

  pub call_grows : (ms : List GateModifier) (gate : Called) (given : List Argument) → Grows cells (call_expansion e ms gate given)
  call_grows ms gate given = call_if_grows cells (are_idle ms) ms (called_expansion e gate given) (called_grows gate given)

  called_needed : (gate : Called) (known : List KnownUnits) (cs : ControlsOf ℕ) (qs : List ℕ)
      → HaveKnown (called_primitives ps gate known cs qs)
      → (i : ℕ) → called_needs (needs_in e) gate i ≡ true → IsKnown (nth_known i known)
  called_needed called.U known cs qs k zero n = k.0.0
  called_needed called.U known cs qs k (suc zero) n = k.0.1
  called_needed called.U known cs qs k (suc (suc zero)) n = k.0.2
  called_needed called.U known cs qs k (suc (suc (suc i))) n = no_flag i n
  called_needed called.GlobalPhase known cs qs k zero n = k.0
  called_needed called.GlobalPhase known cs qs k (suc i) n = no_flag i n
  called_needed (called.Gate g) known cs qs k i n = (h.by g).needed known cs qs k i n

  wanted_if : (ms : List GateModifier) (gate : Called) (i : ℕ) → are_idle ms ≡ false → called_needs (needs_in e) gate i ≡ true
      → wanted (needs_in e) ms gate i ≡ true
  wanted_if ms gate i n c = ap (λ t. not t && called_needs (needs_in e) gate i) n ∙ c

  pub call_meets_by : (ms : List GateModifier) (gate : Called) (given : List Argument) (known : List KnownUnits) (idle : Bool)
      → are_idle ms ≡ idle → ((i : ℕ) → wanted (needs_in e) ms gate i ≡ true → held_in cells (argument_at i given) ≡ nth_known i known)
      → Meets cells place (call_if idle ms (called_expansion e gate given)) (call_primitives ps ms gate known)
  call_meets_by ms gate given known true i agree = idle_meets cells place ms (called_expansion e gate given)
      (called_primitives ps gate known) i
  call_meets_by ms gate given known false i agree =
      busy_meets cells place z ms (called_expansion e gate given) (called_primitives ps gate known) i
      (called_meets gate given known (λ n c. agree n (wanted_if ms gate n i c)))

-- ---- the arguments of a call

and_first : (a b : Bool) → (a && b) ≡ true → a ≡ true
and_first true b e = refl
and_first false b e = false_true e

and_second : (a b : Bool) → (a && b) ≡ true → b ≡ true
and_second true b e = e
and_second false b e = false_true e

or_first : (a b : Bool) → a ≡ true → (a || b) ≡ true
or_first a b e = ap (λ t. t || b) e

or_second : (a b : Bool) → b ≡ true → (a || b) ≡ true
or_second true b e = refl
or_second false b e = e

-- one argument
record OneTied (cells : Cells) (want : Bool) (given : List Argument) (known : List KnownUnits) (a : Angle) : Type 0 where
  means : Agree cells (λ i. want && occurs a i) given known → (steps : Steps) → Holds cells (reckoned_if want given a steps).steps
      → (want ≡ true → held_in cells (reckoned_if want given a steps).angle ≡ value known a) × Holds cells steps
  sound : Agree cells (λ i. want && occurs a i) given known → (steps : Steps) → Holds cells (reckoned_if want given a steps).steps
      → (want ≡ true → IsKnown (value known a)) → AreKnown cells steps → AreKnown cells (reckoned_if want given a steps).steps
  before : (steps : Steps) → Holds cells (reckoned_if want given a steps).steps → Holds cells steps
  none : (steps : Steps) → Holds none_known steps → Holds none_known (reckoned_if want given a steps).steps

one_tied : (cells : Cells) (want : Bool) (given : List Argument) (known : List KnownUnits) (a : Angle) → OneTied cells want given known a
one_tied cells true given known a =
    let t : Tied cells given known (reckoned given a) (value known a) (occurs a) = angle_ties cells given known a in
    record {
      means = λ agree steps h.
          let both : (held_in cells (reckoned given a steps).angle ≡ value known a) × Holds cells steps = t.means agree steps h in
          (λ e. both.0, both.1);
      sound = λ agree steps h k s. t.sound agree steps h (k refl) s;
      before = t.before;
      none = t.none;
    }
one_tied cells false given known a = record {
  means = λ agree steps h. (λ e. false_true e, h);
  sound = λ agree steps h k s. s;
  before = λ steps h. h;
  none = λ steps h. h;
}

-- the arguments that are wanted hold their values, where the first of them has the number j
abbrev pub HoldValues : Cells → (ℕ → Bool) → ℕ → List Argument → List KnownUnits → Type 0
HoldValues cells want j arguments values = (i : ℕ) → want (j + i) ≡ true → held_in cells (argument_at i arguments) ≡ nth_known i values

-- the values of the arguments that are wanted are known
abbrev pub KnownValues : (ℕ → Bool) → ℕ → List KnownUnits → Type 0
KnownValues want j values = (i : ℕ) → want (j + i) ≡ true → IsKnown (nth_known i values)

-- the arguments from the one with the number j on
pub record ManyTied (cells : Cells) (want : ℕ → Bool) (given : List Argument) (known : List KnownUnits) (j : ℕ)
    (angles : List Angle) : Type 0 where
  pub means : Agree cells (angles_need want j angles) given known → (steps : Steps)
      → Holds cells (all_reckoned want given j angles steps).steps
      → HoldValues cells want j (all_reckoned want given j angles steps).angles (map (value known) angles) × Holds cells steps
  pub sound : Agree cells (angles_need want j angles) given known → (steps : Steps)
      → Holds cells (all_reckoned want given j angles steps).steps → KnownValues want j (map (value known) angles) → AreKnown cells steps
      → AreKnown cells (all_reckoned want given j angles steps).steps
  pub before : (steps : Steps) → Holds cells (all_reckoned want given j angles steps).steps → Holds cells steps
  pub none : (steps : Steps) → Holds none_known steps → Holds none_known (all_reckoned want given j angles steps).steps
  pub strict : KnownValues want j (map (value known) angles) → (i : ℕ) → angles_need want j angles i ≡ true → IsKnown (nth_known i known)

at_zero : (want : ℕ → Bool) (j : ℕ) → want j ≡ true → want (j + 0) ≡ true
at_zero want j e =
    let z : j + 0 ≡ j = omega arith in
    ap want z ∙ e

from_zero : (want : ℕ → Bool) (j : ℕ) → want (j + 0) ≡ true → want j ≡ true
from_zero want j e =
    let z : j ≡ j + 0 = omega arith in
    ap want z ∙ e

at_suc : (want : ℕ → Bool) (j i : ℕ) → want (suc j + i) ≡ true → want (j + suc i) ≡ true
at_suc want j i e =
    let z : j + suc i ≡ suc j + i = omega arith in
    ap want z ∙ e

from_suc : (want : ℕ → Bool) (j i : ℕ) → want (j + suc i) ≡ true → want (suc j + i) ≡ true
from_suc want j i e =
    let z : suc j + i ≡ j + suc i = omega arith in
    ap want z ∙ e

agree_step : (cells : Cells) (want : ℕ → Bool) (j : ℕ) (one : Argument) (v : KnownUnits) (rest : List Argument) (vs : List KnownUnits)
    → (want j ≡ true → held_in cells one ≡ v) → HoldValues cells want (suc j) rest vs → HoldValues cells want j (one ∷ rest) (v ∷ vs)
agree_step cells want j one v rest vs f g zero e = f (from_zero want j e)
agree_step cells want j one v rest vs f g (suc i) e = g i (from_suc want j i e)

no_argument : (cells : Cells) (i : ℕ) → held_in cells (argument_at i []) ≡ nth_known i []
no_argument cells zero = refl
no_argument cells (suc i) = refl

many_tied : (cells : Cells) (want : ℕ → Bool) (given : List Argument) (known : List KnownUnits) (j : ℕ) (angles : List Angle)
    → ManyTied cells want given known j angles
many_tied cells want given known j [] = record {
  means = λ agree steps h. (λ i e. no_argument cells i, h);
  sound = λ agree steps h k s. s;
  before = λ steps h. h;
  none = λ steps h. h;
  strict = λ k i e. false_true e;
}
many_tied cells want given known j (a ∷ rest) =
    let one : OneTied cells (want j) given known a = one_tied cells (want j) given known a in
    let later : ManyTied cells want given known (suc j) rest = many_tied cells want given known (suc j) rest in
    record {
      means = λ agree steps h.
          let after : Steps = (reckoned_if (want j) given a steps).steps in
          let right : HoldValues cells want (suc j) (all_reckoned want given (suc j) rest after).angles (map (value known) rest)
          × Holds cells after =
          later.means (λ i e. agree i (or_second (want j && occurs a i) (angles_need want (suc j) rest i) e)) after h in
          let left : (want j ≡ true → held_in cells (reckoned_if (want j) given a steps).angle ≡ value known a) × Holds cells steps =
          one.means (λ i e. agree i (or_first (want j && occurs a i) (angles_need want (suc j) rest i) e)) steps right.1 in (
            agree_step cells want j (reckoned_if (want j) given a steps).angle (value known a)
                (all_reckoned want given (suc j) rest after).angles (map (value known) rest) left.0 right.0,
            left.1,
          );
      sound = λ agree steps h k s.
          let after : Steps = (reckoned_if (want j) given a steps).steps in
          let right : HoldValues cells want (suc j) (all_reckoned want given (suc j) rest after).angles (map (value known) rest)
          × Holds cells after =
          later.means (λ i e. agree i (or_second (want j && occurs a i) (angles_need want (suc j) rest i) e)) after h in
          later.sound (λ i e. agree i (or_second (want j && occurs a i) (angles_need want (suc j) rest i) e)) after h
          (λ i e. k (suc i) (at_suc want j i e))
          (one.sound (λ i e. agree i (or_first (want j && occurs a i) (angles_need want (suc j) rest i) e)) steps right.1
          (λ e. k 0 (at_zero want j e)) s);
      before = λ steps h. one.before steps (later.before (reckoned_if (want j) given a steps).steps h);
      none = λ steps h. later.none (reckoned_if (want j) given a steps).steps (one.none steps h);
      strict = λ k i e.
          or_cases (want j && occurs a i) (angles_need want (suc j) rest i) e
          (λ b. (angle_ties cells given known a).strict (k 0 (at_zero want j (and_first (want j) (occurs a i) b))) i
          (and_second (want j) (occurs a i) b))
          (λ b. later.strict (λ n f. k (suc n) (at_suc want j n f)) i b);
    }

-- ---- a call in a body

not_true : (b : Bool) → not b ≡ true → b ≡ false
not_true true e = false_true e
not_true false e = refl

zero_first : (want : ℕ → Bool) (i : ℕ) → want i ≡ true → want (0 + i) ≡ true
zero_first want i e =
    let z : 0 + i ≡ i = omega arith in
    ap want z ∙ e

zero_gone : (want : ℕ → Bool) (i : ℕ) → want (0 + i) ≡ true → want i ≡ true
zero_gone want i e =
    let z : i ≡ 0 + i = omega arith in
    ap want z ∙ e

module _ (cells : Cells) (place : QubitRef → ℕ) (z : place no_qubit ≡ 0) (e : GateExpansions) (ps : GatePrimitives)
    (h : AllExpand cells place e ps) where
  -- what is wanted is known where the call's angles are
  call_needed : (ms : List GateModifier) (gate : Called) (known : List KnownUnits) (cs : ControlsOf ℕ) (qs : List ℕ)
      → HaveKnown (call_primitives ps ms gate known cs qs) → (i : ℕ) → wanted (needs_in e) ms gate i ≡ true → IsKnown (nth_known i known)
  call_needed ms gate known cs qs k i w =
      inner_known ms (called_primitives ps gate known) cs qs
      (not_true (are_idle ms) (and_first (not (are_idle ms)) (called_needs (needs_in e) gate i) w)) k
      (λ ds rs l.
      called_needed cells place z e ps h gate known ds rs l i (and_second (not (are_idle ms)) (called_needs (needs_in e) gate i) w))

  body_call_grows : (c : BodyCall) (given : List Argument) → Grows cells (body_call_expansion e c given)
  body_call_grows c given =
      let want : ℕ → Bool = wanted (needs_in e) c.modifiers c.gate in
      let many : ManyTied cells want given [] 0 c.angles = many_tied cells want given [] 0 c.angles in
      record {
        before = λ cs qs steps k.
            let args : AllReckoned = all_reckoned want given 0 c.angles steps in
            many.before steps
            ((call_grows cells place z e ps h c.modifiers c.gate args.angles).before cs (picked no_qubit qs c.qubits) args.steps k);
        none = λ cs qs steps k.
            let args : AllReckoned = all_reckoned want given 0 c.angles steps in
            (call_grows cells place z e ps h c.modifiers c.gate args.angles).none cs (picked no_qubit qs c.qubits) args.steps
            (many.none steps k);
      }

  abbrev one_call : BodyCall → List KnownUnits → Primitives
  one_call c known cs qs = call_primitives ps c.modifiers c.gate (map (value known) c.angles) cs (picked 0 qs c.qubits)

  body_call_meets : (c : BodyCall) (given : List Argument) (known : List KnownUnits)
      → Agree cells (angles_need (wanted (needs_in e) c.modifiers c.gate) 0 c.angles) given known
      → Meets cells place (body_call_expansion e c given) (one_call c known)
  body_call_meets c given known agree =
      let want : ℕ → Bool = wanted (needs_in e) c.modifiers c.gate in
      let many : ManyTied cells want given known 0 c.angles = many_tied cells want given known 0 c.angles in
      let angles : List KnownUnits = map (value known) c.angles in
      record {
        means = λ cs qs steps k.
            let args : AllReckoned = all_reckoned want given 0 c.angles steps in
            let first_part : Holds cells args.steps =
            (call_grows cells place z e ps h c.modifiers c.gate args.angles).before cs (picked no_qubit qs c.qubits) args.steps k in
            let held_args : HoldValues cells want 0 args.angles angles × Holds cells steps = many.means agree steps first_part in
            let within : Meets cells place (call_expansion e c.modifiers c.gate args.angles)
            (call_primitives ps c.modifiers c.gate angles) =
            call_meets_by cells place z e ps h c.modifiers c.gate args.angles angles (are_idle c.modifiers) refl
            (λ i w. held_args.0 i (zero_first want i w)) in (
              (within.means cs (picked no_qubit qs c.qubits) args.steps k).0
                  ∙ ap (call_primitives ps c.modifiers c.gate angles (controls_at place cs)) (map-picked place no_qubit 0 qs c.qubits z),
              held_args.1,
            );
        sound = λ cs qs steps k l s.
            let args : AllReckoned = all_reckoned want given 0 c.angles steps in
            let first_part : Holds cells args.steps =
            (call_grows cells place z e ps h c.modifiers c.gate args.angles).before cs (picked no_qubit qs c.qubits) args.steps k in
            let held_args : HoldValues cells want 0 args.angles angles × Holds cells steps = many.means agree steps first_part in
            let within : Meets cells place (call_expansion e c.modifiers c.gate args.angles)
            (call_primitives ps c.modifiers c.gate angles) =
            call_meets_by cells place z e ps h c.modifiers c.gate args.angles angles (are_idle c.modifiers) refl
            (λ i w. held_args.0 i (zero_first want i w)) in
            within.sound cs (picked no_qubit qs c.qubits) args.steps k
            (subst (λ (rs : List ℕ). HaveKnown (call_primitives ps c.modifiers c.gate angles (controls_at place cs) rs))
            (sym (map-picked place no_qubit 0 qs c.qubits z)) l)
            (many.sound agree steps first_part
            (λ i w. call_needed c.modifiers c.gate angles (controls_at place cs) (picked 0 (map place qs) c.qubits) l i
            (zero_gone want i w)) s);
      }

-- a body's calls from one on
pub record CallsMeet (cells : Cells) (place : QubitRef → ℕ) (e : GateExpansions) (ps : GatePrimitives)
    (calls : List BodyCall) : Type 0 where
  pub meets : (given : List Argument) (known : List KnownUnits) → Agree cells (calls_need (needs_in e) calls) given known
      → Meets cells place (calls_expansion e calls given) (calls_primitives ps calls known)
  pub needed : (known : List KnownUnits) (cs : ControlsOf ℕ) (qs : List ℕ) → HaveKnown (calls_primitives ps calls known cs qs) → (i : ℕ)
      → calls_need (needs_in e) calls i ≡ true → IsKnown (nth_known i known)
  pub grows : (given : List Argument) → Grows cells (calls_expansion e calls given)

calls_meet : (cells : Cells) (place : QubitRef → ℕ) → place no_qubit ≡ 0 → (e : GateExpansions) (ps : GatePrimitives)
    → AllExpand cells place e ps → (calls : List BodyCall) → CallsMeet cells place e ps calls
calls_meet cells place z e ps h [] = record {
  meets = λ given known a. record { means = λ cs qs steps k. (refl, k); sound = λ cs qs steps k l s. s };
  needed = λ known cs qs k i n. false_true n;
  grows = λ given. record { before = λ cs qs steps k. k; none = λ cs qs steps k. k };
}
calls_meet cells place z e ps h (c ∷ calls) =
    let later : CallsMeet cells place e ps calls = calls_meet cells place z e ps h calls in
    let needs_one : ℕ → Bool = angles_need (wanted (needs_in e) c.modifiers c.gate) 0 c.angles in
    record {
      meets = λ given known a.
          let one : Meets cells place (body_call_expansion e c given) (one_call cells place z e ps h c known) =
          body_call_meets cells place z e ps h c given known (λ i n. a i (or_first (needs_one i) (calls_need (needs_in e) calls i) n)) in
          let rest : Meets cells place (calls_expansion e calls given) (calls_primitives ps calls known) =
          later.meets given known (λ i n. a i (or_second (needs_one i) (calls_need (needs_in e) calls i) n)) in
          record {
            means = λ cs qs steps k.
                let x : Expanded = body_call_expansion e c given cs qs steps in
                let y : Expanded = calls_expansion e calls given cs qs x.steps in
                let right : (map (primitive_at place cells) y.primitives
                ≡ calls_primitives ps calls known (controls_at place cs) (map place qs)) × Holds cells x.steps =
                rest.means cs qs x.steps k in
                let left : (map (primitive_at place cells) x.primitives
                ≡ one_call cells place z e ps h c known (controls_at place cs) (map place qs)) × Holds cells steps =
                one.means cs qs steps right.1 in (
                  map-append (primitive_at place cells) x.primitives y.primitives
                      ∙ ap (λ t. t ++ map (primitive_at place cells) y.primitives) left.0
                      ∙ ap (λ t. one_call cells place z e ps h c known (controls_at place cs) (map place qs) ++ t) right.0,
                  left.1,
                );
            sound = λ cs qs steps k l s.
                let x : Expanded = body_call_expansion e c given cs qs steps in
                let mine : List Primitive = one_call cells place z e ps h c known (controls_at place cs) (map place qs) in
                let theirs : List Primitive = calls_primitives ps calls known (controls_at place cs) (map place qs) in
                rest.sound cs qs x.steps k (known_back mine theirs l)
                (one.sound cs qs steps ((later.grows given).before cs qs x.steps k) (known_front mine theirs l) s);
          };
      needed = λ known cs qs k i n.
          let angles : List KnownUnits = map (value known) c.angles in
          let mine : List Primitive = call_primitives ps c.modifiers c.gate angles cs (picked 0 qs c.qubits) in
          let want : ℕ → Bool = wanted (needs_in e) c.modifiers c.gate in
          or_cases (needs_one i) (calls_need (needs_in e) calls i) n
          (λ b. (many_tied cells want [] known 0 c.angles).strict
          (λ j w. call_needed cells place z e ps h c.modifiers c.gate angles cs (picked 0 qs c.qubits)
          (known_front mine (calls_primitives ps calls known cs qs) k) j (zero_gone want j w)) i b)
          (λ b. later.needed known cs qs (known_back mine (calls_primitives ps calls known cs qs) k) i b);
      grows = λ given.
          let one : Grows cells (body_call_expansion e c given) = body_call_grows cells place z e ps h c given in
          record {
            before = λ cs qs steps k.
                one.before cs qs steps ((later.grows given).before cs qs (body_call_expansion e c given cs qs steps).steps k);
            none = λ cs qs steps k.
                (later.grows given).none cs qs (body_call_expansion e c given cs qs steps).steps (one.none cs qs steps k);
          };
    }

-- ---- gates by number

body_expands : (cells : Cells) (place : QubitRef → ℕ) → place no_qubit ≡ 0 → (e : GateExpansions) (ps : GatePrimitives)
    → AllExpand cells place e ps → (body : GateBody) → Expands cells place (body_expansion e body) (body_primitives ps body)
body_expands cells place z e ps h body =
    let all : CallsMeet cells place e ps body.calls = calls_meet cells place z e ps h body.calls in
    record { meets = all.meets; needed = all.needed; grows = all.grows }

number_expands : (cells : Cells) (place : QubitRef → ℕ) (n i : ℕ) (x y : GateExpansion) (p q : List KnownUnits → Primitives)
    → Expands cells place x p → Expands cells place y q → Expands cells place (if_number n i x y) (if_number n i p q)
number_expands cells place zero zero x y p q g h = g
number_expands cells place zero (suc i) x y p q g h = h
number_expands cells place (suc n) zero x y p q g h = h
number_expands cells place (suc n) (suc i) x y p q g h = number_expands cells place n i x y p q g h

gates_expand_from : (cells : Cells) (place : QubitRef → ℕ) → place no_qubit ≡ 0 → (gates : List GateBody) (n : ℕ) (e : GateExpansions)
    (ps : GatePrimitives) → AllExpand cells place e ps
    → AllExpand cells place (numbered_from body_expansion n gates e) (numbered_from body_primitives n gates ps)
gates_expand_from cells place z [] n e ps h = h
gates_expand_from cells place z (body ∷ gates) n e ps h =
    gates_expand_from cells place z gates (suc n) _ _
    (record {
      by = λ i. number_expands cells place n i (body_expansion e body) (e i) (body_primitives ps body) (ps i)
          (body_expands cells place z e ps h body) (h.by i);
    })

nothing_expands : (cells : Cells) (place : QubitRef → ℕ) → Expands cells place no_expansion (λ given cs qs. [])
nothing_expands cells place = record {
  meets = λ given known a. record { means = λ cs qs steps k. (refl, k); sound = λ cs qs steps k l s. s };
  needed = λ known cs qs k i n. false_true n;
  grows = λ given. record { before = λ cs qs steps k. k; none = λ cs qs steps k. k };
}

gates_expand : (cells : Cells) (place : QubitRef → ℕ) → place no_qubit ≡ 0 → (gates : List GateBody)
    → AllExpand cells place (expansions_of gates) (primitives_of gates)
gates_expand cells place z gates = gates_expand_from cells place z gates 0 _ _ (record { by = λ i. nothing_expands cells place })

-- ---- the laws

held_nth : (cells : Cells) (given : List Argument) (i : ℕ) → held_in cells (argument_at i given) ≡ nth_known i (map (held_in cells) given)
held_nth cells [] i = no_argument cells i
held_nth cells (a ∷ given) zero = refl
held_nth cells (a ∷ given) (suc i) = held_nth cells given i

use_meets : (cells : Cells) (place : QubitRef → ℕ) → place no_qubit ≡ 0 → (used : GateUse) (given : List Argument)
    → Meets cells place (call_expansion (expansions_of used.gates) used.modifiers used.gate given)
    (call_primitives (primitives_of used.gates) used.modifiers used.gate (map (held_in cells) given))
use_meets cells place z used given =
    call_meets_by cells place z _ _ (gates_expand cells place z used.gates) used.modifiers used.gate given (map (held_in cells) given)
    (are_idle used.modifiers) refl (λ i w. held_nth cells given i)

pub expansions_are_primitives : ExpansionsArePrimitives
expansions_are_primitives cells place z used given qs first h =
    ((use_meets cells place z used given).means typed_calls.no_controls qs (record { first = first; steps = [] }) h).0

pub steps_are_needed : StepsAreNeeded
steps_are_needed cells place z used given qs first h k =
    (use_meets cells place z used given).sound typed_calls.no_controls qs (record { first = first; steps = [] }) h k tt

pub fixed_angles_are_known : FixedAnglesAreKnown
fixed_angles_are_known place z used given qs first =
    expansions_are_primitives none_known place z used given qs first
    ((call_grows none_known place z _ _ (gates_expand none_known place z used.gates) used.modifiers used.gate given).none
    typed_calls.no_controls qs
    (record { first = first; steps = [] }) tt)
