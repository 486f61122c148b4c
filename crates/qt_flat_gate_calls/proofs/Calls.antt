-- The code of a gate call does what the call means.
use Rattle.std.proofs.Common.{◌≡◌, ℕ, suc, ◌+◌, Bool, true, false, nat_lt, if◌then◌else◌, ℤ, Ok, Err, Option, Some, None, List, [], ◌∷◌, ◌++◌, length, map, refl, sym, ap, subst, ◌∙◌, arith}
use Rattle.std.specs.List.{flat_map}
use Rattle.qt_tree.specs.declared.place.Place.{Place}
use Rattle.qt_ring.specs.Matrix.{Operator}
use Rattle.qt_ring.specs.State.{applied}
use Rattle.qt_ring.proofs.Gates.{applied_has_all, qubits-applied}
use Rattle.qt_gate_calls.specs.Faults.{applied_of}
use Rattle.qt_gate_calls.specs.Matrices.{call_matrix, matrices_of}
use Rattle.qt_gate_calls.specs.Primitives.{Primitive, no_controls, call_primitives, primitives_of}
use Rattle.qt_gate_calls.specs.Units.{KnownUnits}
use Rattle.qt_typed.specs.declared.call.GateUse.{GateUse}
use Rattle.qt_typed.specs.declared.call.TypedQubit.{TypedQubit}
use Rattle.qt_meaning.specs.Applying.{different, events, gate_call, landed, multiplied}
use Rattle.qt_meaning.specs.Expressions.{phases_of}
use Rattle.qt_meaning.specs.Places.{Site, all_tested, numbers_named}
use Rattle.qt_meaning.specs.Points.{Event, Faulted, Point, Run, go_on, leaf, noted, then_do, with_result}
use Rattle.qt_meaning.specs.Values.{BadAngle, Evaluated, Index, and_then, or_fault}
use Rattle.qt_meaning.specs.WellFormed.{GatesFit, call_size, gate_sizes}
use Rattle.qt_meaning_laws.proofs.Named.{different_qubits, qubits_are}
use Rattle.qt_ring.specs.Places.{AreQubits}
use Rattle.qt_instructions.specs.declared.angle.AngleStep.{AngleStep}
use Rattle.qt_instructions.specs.declared.reference.QubitRef.{QubitRef}
use Rattle.qt_instructions.specs.declared.reference.QubitRef.TheVariants as reference
use Rattle.qt_instructions.specs.declared.instruction.Instr.{Instr}
use Rattle.qt_instructions.specs.declared.parts.Parts.{Parts}
use Rattle.qt_code.specs.Cells.{Cells, named_by, qubit_of, qubits_of}
use Rattle.qt_code.specs.Tail.{tail}
use Rattle.qt_primitives.specs.declared.unit.Argument.{Argument}
use Rattle.qt_primitives.specs.declared.unit.UnitPrimitive.{UnitPrimitive}
use Rattle.qt_modify.specs.Calls.{arguments_from, behind_arguments}
use Rattle.qt_modify.specs.Eighths.{first_wrong}
use Rattle.qt_modify.specs.Expansions.{Expanded}
use Rattle.qt_modify_laws.specs.Laws.{held_in, primitive_at, primitives_at}
use Rattle.qt_modify_laws.specs.Running.{AreBelow, UnitCells, known_in, run_from, steps_run}
use Rattle.qt_modify_laws.proofs.Keeping.{use_longer}
use Rattle.qt_modify_laws.proofs.Runs.{runs_give_primitives}
use Rattle.qt_gate_laws.specs.Laws.{IsCall}
use Rattle.qt_gate_laws.specs.Primitives.{HaveQubits}
use Rattle.qt_gate_laws.proofs.Products.{primitives_have_their_qubits}
use Rattle.qt_gate_call_laws.specs.Applying.{after_steps, primitives_run}
use Rattle.qt_gate_call_laws.specs.Seen.{LookAlike}
use Rattle.qt_gate_call_laws.proofs.Leaves.{alike, alike_back, alike_then, on_then, then_alike}
use Rattle.qt_gate_call_laws.proofs.Multiplied.{calls_are_expansions}
use Rattle.qt_flat_code.specs.GateCalls.{arguments_code, arguments_length, behind_qubits, call_expanded, call_references, gate_call_code, gate_call_length, primitives_code, qubits_code, qubits_length, steps_code, test_code}
use Rattle.qt_flat_expressions.specs.Lands.{StandsAt}
use Rattle.qt_flat_expressions.proofs.Lengths.{Long, joined}
use Rattle.qt_flat_expressions.proofs.Standing.{stands_behind, stands_first}
use Rattle.qt_flat_gate_calls.specs.Landing.{GoesOn, IsWhole}
use Rattle.qt_flat_gate_calls.specs.Laws.{GateCallsLand}
use Rattle.qt_flat_gate_calls.proofs.Arguments.{Held, all_below, arguments_get, arguments_long, held_kept, units_of}
use Rattle.qt_flat_expressions.proofs.Arriving.{Arrives, Gets, gets_same}
use Rattle.qt_flat_gate_calls.proofs.Arriving.{gets_followed}
use Rattle.qt_flat_gate_calls.proofs.Primitives.{named_in, primitives_land, read_in}
use Rattle.qt_flat_gate_calls.proofs.Qubits.{NamedAll, Stays, as_named, behind_more, names_kept, qubits_get, qubits_long, test_gets}
use Rattle.qt_flat_gate_calls.proofs.Steps.{HoldUnits, steps_get}

-- ---- how long the code is

steps_long : (next : ℕ) (steps : List AngleStep) → Long (steps_code next steps) (length steps)
steps_long next [] = record { long = refl }
steps_long next (s ∷ steps) = let h = steps_long (suc next) steps in record { long = omega (arith, h.long) }

primitives_long : (us : List UnitPrimitive) → Long (primitives_code us) (length us)
primitives_long [] = record { long = refl }
primitives_long (u ∷ us) = let h = primitives_long us in record { long = omega (arith, h.long) }

pub call_long : (site : Site) (used : GateUse) (operands : List TypedQubit) (at : ℕ)
    → Long (gate_call_code site used operands at) (gate_call_length site used operands)
call_long site used operands at =
    let cell = behind_arguments 0 used.arguments in
    let made = call_expanded site used operands in
    joined _ _ _ _ (arguments_long used.arguments site.base 0 at)
    (joined _ _ _ _ (qubits_long operands site cell (at + arguments_length used.arguments))
    (joined (test_code (call_references site used operands)) _ (length (test_code (call_references site used operands))) _ (record { long = refl })
    (joined _ _ _ _ (steps_long (behind_qubits operands cell) made.steps.steps) (primitives_long made.primitives))))

-- ---- what follows the product

-- what goes on alike from each point goes on alike behind the product
multiplied_goes : (code : Parts) (used : GateUse) (angles : List KnownUnits) (qs : List ℕ) (place : Place) (p : Point) (to : ℕ) (cells : Cells) (next : Run)
    → IsWhole code.qubits p.state → GoesOn code p.fuel to next
    → LookAlike (then_do (multiplied used angles qs place) (tail code to cells) p) (then_do (multiplied used angles qs place) next p)
multiplied_goes code used angles qs place p to cells next whole goes =
    by (applied_of (call_primitives (primitives_of used.gates) used.modifiers used.gate angles no_controls qs)).complete
    (events place (applied_of (call_primitives (primitives_of used.gates) used.modifiers used.gate angles no_controls qs)).primitives)
  where
    g : Operator
    g = call_matrix (matrices_of used.gates) used.modifiers used.gate angles

    by : (complete : Bool) (es : List Event)
        → LookAlike (then_do (landed complete es place (applied g qs)) (tail code to cells) p) (then_do (landed complete es place (applied g qs)) next p)
    by true es =
        let q : Point = noted es (record p { state = applied g qs p.state }) in
        alike_then (alike _ _ (on_then (tail code to cells) q))
        (alike_then (goes cells q refl (qubits-applied g qs p.state ∙ whole.0, applied_has_all g qs p.state)) (alike _ _ (sym (on_then next q))))
    by false es = alike _ _ refl

-- ---- after the test

module _ (code : Parts) (place : Place) (used : GateUse) (operands : List TypedQubit) (site : Site) (to : ℕ) (next : Run) (p : Point)
    (whole : IsWhole code.qubits p.state) (goes : GoesOn code p.fuel to next) where
  abbrev given : List Argument
  given = arguments_from 0 used.arguments

  abbrev refs : List QubitRef
  refs = call_references site used operands

  abbrev first : ℕ
  first = behind_qubits operands (behind_arguments 0 used.arguments)

  abbrev made : Expanded
  made = call_expanded site used operands

  -- the steps, then the primitives, with the arguments and the qubits in cells
  steps_land : (at : ℕ) (cells : Cells) (angles : List ℤ) (qs : List ℕ) → GatesFit used.gates
      → length qs ≡ call_size (gate_sizes used.gates) used.modifiers used.gate → AreQubits code.qubits qs
      → map (held_in (known_in (units_of cells))) given ≡ map (λ (u : ℤ). Some u) angles → map (named_in cells) refs ≡ qs
      → first_wrong made.primitives ≡ None
      → StandsAt code place at (steps_code first made.steps.steps ++ primitives_code made.primitives)
      → at + (length made.steps.steps + length made.primitives) ≡ to
      → LookAlike (tail code at cells p) (then_do (multiplied used (map (λ (u : ℤ). Some u) angles) qs place) next p)
  steps_land at cells angles qs fits count differ holds names accepted h t =
      by (steps_run made.steps (units_of cells)) refl
      (subst (λ v. Gets code place p UnitCells at cells mid first HoldUnits v) ran
      (steps_get code place p made.steps.steps first at mid cells (stands_first code place at steps prims h) refl))
    where
      steps : List Instr
      steps = steps_code first made.steps.steps

      prims : List Instr
      prims = primitives_code made.primitives

      mid : ℕ
      mid = at + length made.steps.steps

      below : AreBelow first given
      below = all_below used.arguments first (behind_more operands (behind_arguments 0 used.arguments))

      ran : or_fault BadAngle (run_from first made.steps.steps (units_of cells)) ≡ or_fault BadAngle (steps_run made.steps (units_of cells))
      ran = ap (λ n. or_fault BadAngle (run_from n made.steps.steps (units_of cells))) (sym (use_longer used given refs first below).first)

      same_angles : List KnownUnits
      same_angles = map (λ (u : ℤ). Some u) angles

      called : IsCall used.gates used.modifiers used.gate p.state.qubits qs
      called = record { gates_fit = fits; count = count; different = subst (λ n. AreQubits n qs) (sym whole.0) differ }

      -- the product, by the law, for cells that name these qubits
      product : (new : Cells) → map (named_in new) refs ≡ qs
          → LookAlike (multiplied used same_angles qs place p)
          (after_steps (steps_run made.steps (units_of cells)) place
          (λ units. primitives_run (map (primitive_at (named_in new) (known_in units)) made.primitives) place) p)
      product new e =
          alike_then
          (alike _ _ (ap (λ (ks : List KnownUnits). multiplied used ks qs place p) (sym holds) ∙ ap (λ (ns : List ℕ). multiplied used (map (held_in (known_in (units_of cells))) given) ns place p) (sym e)))
          (calls_are_expansions used given refs first below (named_in new) refl (units_of cells) place p
          (subst (λ (ns : List ℕ). IsCall used.gates used.modifiers used.gate p.state.qubits ns) (sym e) called) whole.1)

      by : (r : Option UnitCells) → steps_run made.steps (units_of cells) ≡ r
          → Gets code place p UnitCells at cells mid first HoldUnits (or_fault BadAngle r)
          → LookAlike (tail code at cells p) (then_do (multiplied used same_angles qs place) next p)
      by None e g =
          let l = product cells names in
          let f : after_steps (steps_run made.steps (units_of cells)) place
          (λ units. primitives_run (map (primitive_at (named_in cells) (known_in units)) made.primitives) place) p ≡ leaf (Faulted BadAngle place) p =
          ap (λ r. after_steps r place (λ units. primitives_run (map (primitive_at (named_in cells) (known_in units)) made.primitives) place) p) e in
          alike_then (alike _ _ g.out)
          (then_alike (leaf (Faulted BadAngle place)) (multiplied used same_angles qs place) next p p (alike_back (alike_then l (alike _ _ f))))
      by (Some units) e g =
          let r : Arrives code place p at cells mid first (HoldUnits units) = g.out in
          let new = r.new in
          let n : map (named_in new) refs ≡ qs = names_kept operands site (behind_arguments 0 used.arguments) first cells new (omega arith) r.kept ∙ names in
          let is : steps_run made.steps (units_of cells) ≡ Some (units_of new) = e ∙ ap Some (sym r.holds) in
          let xs : List Primitive = map (read_in new) made.primitives in
          let gives : xs ≡ primitives_at (known_in (units_of cells)) (named_in new) used given refs =
          runs_give_primitives used given refs first below (named_in new) refl (units_of cells) (units_of new) is in
          let own : HaveQubits code.qubits xs =
          subst (HaveQubits code.qubits) (sym gives)
          (primitives_have_their_qubits used.gates used.modifiers used.gate (map (held_in (known_in (units_of cells))) given) code.qubits (map (named_in new) refs)
          (subst (λ (ns : List ℕ). IsCall used.gates used.modifiers used.gate code.qubits ns) (sym n)
          (record { gates_fit = fits; count = count; different = differ }))).0 in
          let lands = primitives_land code place made.primitives mid to new p accepted own
          (stands_behind code place at steps prims (length made.steps.steps) (steps_long first made.steps.steps).long h) (omega (arith, t)) in
          let f : after_steps (steps_run made.steps (units_of cells)) place
          (λ us. primitives_run (map (primitive_at (named_in new) (known_in us)) made.primitives) place) p ≡ primitives_run xs place p =
          ap (λ s. after_steps s place (λ us. primitives_run (map (primitive_at (named_in new) (known_in us)) made.primitives) place) p) is in
          let l : LookAlike (multiplied used same_angles qs place p) (primitives_run xs place p) = alike_then (product new n) (alike _ _ f) in
          alike_then (alike _ _ (r.same ∙ lands))
          (alike_then (then_alike (primitives_run xs place) (multiplied used same_angles qs place) (tail code to new) p p (alike_back l))
          (multiplied_goes code used same_angles qs place p to new next whole goes))

-- ---- the tests

then_ok : {A B : Type 0} (v : Evaluated A) (rest : A → Evaluated B) (b : B) → and_then v rest ≡ Ok b → (a : A) × ((v ≡ Ok a) × (rest a ≡ Ok b))
then_ok (Ok a) rest b e = (a, (refl, e))
then_ok (Err fault) rest b e = absurd (cc)

one_named : (n : ℕ) (r : QubitRef) (cells : Cells) (q : ℕ) → qubit_of n r cells ≡ Ok q → named_by r cells ≡ q
one_named n (reference.At m) cells q e = cc
one_named n (reference.Work cell) cells q e = by (nat_lt (cells cell) n) e
  where
    by : (b : Bool) → (if b then Ok (cells cell) else Err Index) ≡ Ok q → cells cell ≡ q
    by true f = cc
    by false f = absurd (cc)

-- references that are qubits name them
all_named : (n : ℕ) (rs : List QubitRef) (cells : Cells) (qs : List ℕ) → qubits_of n rs cells ≡ Ok qs → map (named_in cells) rs ≡ qs
all_named n [] cells qs e = cc
all_named n (r ∷ rs) cells qs e =
    let (q, (a, b)) = then_ok (qubit_of n r cells) _ qs e in
    let (more, (c, d)) = then_ok (qubits_of n rs cells) _ qs b in
    let s : q ∷ more ≡ qs = cc in
    ap (λ x. x ∷ map (named_in cells) rs) (one_named n r cells q a) ∙ ap (λ xs. q ∷ xs) (all_named n rs cells more c) ∙ s

results_joined : (v : Evaluated (List ℕ)) (f : List ℕ → Evaluated (List ℕ)) (place : Place) (run : List ℕ → Run) (p : Point)
    → with_result (and_then v f) place run p ≡ with_result v place (λ ms. with_result (f ms) place run) p
results_joined (Ok ms) f place run p = refl
results_joined (Err fault) f place run p = refl

-- ---- the law

pub gate_calls_land : GateCallsLand
gate_calls_land code place scope site slots used operands at same stands fits h = record { by = lands }
  where
    cell : ℕ
    cell = behind_arguments 0 used.arguments

    refs : List QubitRef
    refs = call_references site used operands

    a : List Instr
    a = arguments_code used.arguments site.base 0 at

    b : List Instr
    b = qubits_code operands site cell (at + arguments_length used.arguments)

    c : List Instr
    c = test_code refs

    d : List Instr
    d = steps_code (behind_qubits operands cell) (call_expanded site used operands).steps.steps ++ primitives_code (call_expanded site used operands).primitives

    one : ℕ
    one = at + arguments_length used.arguments

    two : ℕ
    two = one + qubits_length operands

    three : ℕ
    three = two + length (test_code refs)

    to : ℕ
    to = at + gate_call_length site used operands

    later : StandsAt code place one (b ++ (c ++ d))
    later = stands_behind code place at a (b ++ (c ++ d)) (arguments_length used.arguments) (arguments_long used.arguments site.base 0 at).long h

    last : StandsAt code place two (c ++ d)
    last = stands_behind code place one b (c ++ d) (qubits_length operands) (qubits_long operands site cell one).long later

    program : scope.qubits ≡ code.qubits
    program = sym stands.qubits ∙ same

    lands : (next : Run) (cells : Cells) (p : Point) → IsWhole code.qubits p.state → GoesOn code p.fuel to next
        → LookAlike (tail code at cells p) (then_do (gate_call site place used operands) next p)
    lands next cells p whole goes =
        gets_followed code place p at cells one 0 (Held used.arguments 0) (phases_of used.arguments site.base p.store) _ next
        (arguments_get code place p site.base slots used.arguments fits.arguments 0 at one cells (stands_first code place at a (b ++ (c ++ d)) h) refl)
        (λ new angles is holds kept.
        gets_followed code place p one new two cell (NamedAll code place p scope site slots same stands operands cell) (numbers_named site operands p.store) _ next
        (qubits_get code place p scope site slots same stands operands fits.indexes fits.qubits cell one two new (stands_first code place one b (c ++ d) later) refl)
        (λ newer ns it names keeps.
        tested angles ns newer it names.1
        (held_kept cell new newer keeps (arguments_from 0 used.arguments) (all_below used.arguments cell (omega arith)) ∙ holds)))
      where
        product : List ℤ → List ℕ → Run
        product angles qs = multiplied used (map (λ (u : ℤ). Some u) angles) qs place

        tested : (angles : List ℤ) (ns : List ℕ) (newer : Cells) → numbers_named site operands p.store ≡ Ok ns
            → qubits_of code.qubits refs newer ≡ all_tested site operands ns
            → map (held_in (known_in (units_of newer))) (arguments_from 0 used.arguments) ≡ map (λ (u : ℤ). Some u) angles
            → LookAlike (tail code two newer p)
            (then_do (with_result (all_tested site operands ns) place (λ ms. with_result (different ms) place (product angles))) next p)
        tested angles ns newer it names holds =
            alike_then
            (gets_followed code place p two newer three 0 (Stays newer) (and_then (all_tested site operands ns) different) (product angles) next
            (gets_same code place p two newer three 0 (Stays newer) (and_then (qubits_of code.qubits refs newer) different) (and_then (all_tested site operands ns) different)
            (ap (λ v. and_then v different) names)
            (test_gets code place p refs two three 0 newer fits.differ (stands_first code place two c d last) refl))
            (λ newest qs passed stays kept.
            let (ms, (e, f)) = then_ok (all_tested site operands ns) different qs passed in
            let are = qubits_are scope site (as_named code place p scope site slots same stands) operands p.store ns ms fits.qubits it e in
            let differ = different_qubits scope ms qs are.0 f in
            subst (λ (cs : Cells). LookAlike (tail code three cs p) (then_do (product angles qs) next p)) (sym stays)
            (steps_land code place used operands site to next p whole goes three newer angles qs
            (subst GatesFit (sym fits.called.0) fits.gates)
            (ap length (sym differ.0) ∙ are.1 ∙ fits.called.1 ∙ ap (λ gs. call_size (gate_sizes gs) used.modifiers used.gate) (sym fits.called.0))
            (subst (λ n. AreQubits n qs) program differ.1)
            holds
            (all_named code.qubits refs newer ms (names ∙ e) ∙ differ.0)
            fits.accepted
            (stands_behind code place two c d (length (test_code refs)) refl last)
            (omega arith))))
            (alike _ _ (ap (flat_map (λ l. go_on next l.signal l.point)) (results_joined (all_tested site operands ns) different place (product angles) p)))
