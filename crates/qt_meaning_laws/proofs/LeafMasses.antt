-- The masses of all leaves of a well formed program are together that of the state at its root.
use Rattle.std.proofs.Common.{◌≡◌, ℕ, zero, suc, ◌<◌, Bool, true, false, List, [], ◌∷◌, ◌++◌, length, map, Option, Some, None, Ok, Err, refl, sym, ap, subst, ◌∙◌}
use Rattle.std.specs.List.{All, flat_map}
use Rattle.qt_tree.specs.declared.place.Place.{Place}
use Rattle.qt_ring.specs.Matrix.{Operator}
use Rattle.qt_ring.specs.Places.{digit, AreQubits}
use Rattle.qt_ring.specs.State.{State, HasAllEntries, zero_state, applied, project, flip, vanishes}
use Rattle.qt_ring.proofs.Gates.{applied_has_all, qubits-applied}
use Rattle.qt_ring.proofs.Totals.{project_has_all}
use Rattle.qt_ring.proofs.States.{qubits-project, qubits-flip, flip_has_all}
use Rattle.qt_root2.specs.Real.{plus_real}
use Rattle.qt_root2.proofs.Reals.{IsLeast, zero_real_is_least, plus_real_is_least, plus_real_assoc, plus_real-zero, zero_real-plus}
use Rattle.qt_mass.specs.Mass.{mass}
use Rattle.qt_mass.proofs.Masses.{mass_is_least, project_masses, vanishing_mass, all_entries_zero_state, mass_zero_state}
use Rattle.qt_gate_calls.specs.Faults.{applied_of}
use Rattle.qt_gate_calls.specs.Matrices.{call_matrix, matrices_of}
use Rattle.qt_gate_calls.specs.Numbered.{if_number}
use Rattle.qt_gate_calls.specs.Primitives.{no_controls, call_primitives, primitives_of}
use Rattle.qt_gate_calls.specs.Units.{KnownUnits}
use Rattle.qt_typed.specs.declared.call.GateUse.{GateUse}
use Rattle.qt_typed.specs.declared.call.TypedQubit.{TypedQubit}
use Rattle.qt_typed.specs.declared.call.SubroutineCall.{SubroutineCall}
use Rattle.qt_typed.specs.declared.program.TypedParameter.{TypedParameter}
use Rattle.qt_typed.specs.declared.program.TypedSubroutine.{TypedSubroutine}
use Rattle.qt_typed.specs.declared.program.Typed.{Typed}
use Rattle.qt_typed.specs.declared.statement.TypedRight.{TypedRight}
use Rattle.qt_typed.specs.declared.statement.TypedRight.TheVariants as right
use Rattle.qt_typed.specs.declared.statement.TypedAction.{TypedAction}
use Rattle.qt_typed.specs.declared.statement.TypedAction.TheVariants as action
use Rattle.qt_typed.specs.declared.statement.TypedStatement.{TypedStatement}
use Rattle.qt_typed.specs.Choices.{Counts, list_choices, subroutine_choices}
use Rattle.qt_meaning.specs.Values.{Evaluated, BadAngle}
use Rattle.qt_meaning.specs.Places.{Site}
use Rattle.qt_meaning.specs.Points.{Event, Point, On, Continued, Broken, Dry, Faulted, Signal, Leaf, Run, leaf, go, choose, with_result, spend_of, spend, with_store}
use Rattle.qt_meaning.specs.Measuring.{unless, outcome, chose, measured, reset}
use Rattle.qt_meaning.specs.Applying.{events, landed, multiplied, operands_at}
use Rattle.qt_meaning.specs.Loops.{after_turn, turns}
use Rattle.qt_meaning.specs.Statements.{Arguments, Calls, past, list_tree, entered, registers_from, body_run, calls_of}
use Rattle.qt_meaning.specs.Distribution.{main_site, root, run_of}
use Rattle.qt_meaning.specs.Laws.{total, MassIsKept}
use Rattle.qt_meaning.specs.WellFormed.{Scope, GatesFit, call_size, gate_sizes, QubitFits, CallFits, UseFits, RightFits, OptionalFits, ActionFits, BodyFits, sizes_from, AllFit, main_scope, IsWellFormed}
use Rattle.qt_meaning_laws.specs.Masses.{MassGoesThrough}
use Rattle.qt_meaning_laws.proofs.Runs.{IsClosed, HasChoices, then_each, CallHas, GateHas, RightHas, OptionalHas, ActionHas, action_has}
use Rattle.qt_meaning_laws.proofs.Trees.{list_has}
use Rattle.qt_meaning_laws.proofs.Unitary.{IsUnitaryOn, each_call_unitary}
use Rattle.qt_meaning_laws.proofs.StateMasses.{unitary_keeps_mass, flips_keep_mass}
use Rattle.qt_meaning_laws.proofs.Named.{IsQubit, SiteFits, all_none, qubits_are, register_is, registers_are, own_sizes, own_members, sizes_taken, given_sizes, different_qubits, operands_are}

-- ---- sums over leaves

total_is_least : (ls : List Leaf) → IsLeast (total ls)
total_is_least [] = zero_real_is_least
total_is_least (l ∷ ls) = plus_real_is_least (mass l.point.state) (total ls)

total-append : (xs ys : List Leaf) → total (xs ++ ys) ≡ plus_real (total xs) (total ys)
total-append [] ys = sym (zero_real-plus (total ys) (total_is_least ys))
total-append (x ∷ xs) ys = ap (plus_real (mass x.point.state)) (total-append xs ys) ∙ sym (plus_real_assoc (mass x.point.state) (total xs) (total ys))

module _ (n : ℕ) where
  -- the state has the program's qubits, and an entry for each basis state
  abbrev pub Fits : State → Type 0
  Fits s = (s.qubits ≡ n) × HasAllEntries s

  abbrev AllFitting : List Leaf → Type 0
  AllFitting [] = Unit {0}
  AllFitting (l ∷ ls) = Fits l.point.state × AllFitting ls

  -- the leaves have the mass of a state together, and fit
  pub record HaveMass (ls : List Leaf) (s : State) : Type 0 where
    pub same : total ls ≡ mass s
    pub fit : AllFitting ls

  pub record Keeps (r : Run) : Type 0 where
    pub by : (p : Point) → Fits p.state → HaveMass (r p) p.state

  fitting-append : (xs ys : List Leaf) → AllFitting xs → AllFitting ys → AllFitting (xs ++ ys)
  fitting-append [] ys f g = g
  fitting-append (x ∷ xs) ys f g = (f.0, fitting-append xs ys f.1 g)

  one_leaf : (x : Signal) (p : Point) (s : State) → Fits p.state → mass p.state ≡ mass s → HaveMass (leaf x p) s
  one_leaf x p s f e = record { same = plus_real-zero (mass p.state) (mass_is_least p.state) ∙ e; fit = (f, tt) }

  leaf_keeps : (x : Signal) → Keeps (leaf x)
  leaf_keeps x = record { by = λ p f. one_leaf x p p.state f refl }

  go_keeps : (f : List ℕ → List ℕ) → Keeps (go (with_store f))
  go_keeps f = record { by = λ p fit. one_leaf On (with_store f p) p.state fit refl }

  choose_keeps : (b : Bool) (r s : Run) → Keeps r → Keeps s → Keeps (choose b r s)
  choose_keeps true r s g h = record { by = g.by }
  choose_keeps false r s g h = record { by = h.by }

  result_keeps : {A : Type 0} (e : Evaluated A) (place : Place) (r : A → Run) → ((a : A) → Keeps (r a)) → Keeps (with_result e place r)
  result_keeps (Ok a) place r h = record { by = (h a).by }
  result_keeps (Err fault) place r h = record { by = (leaf_keeps (Faulted fault place)).by }

  spend_of_keeps : (fuel : ℕ) (r : Run) → Keeps r → Keeps (spend_of fuel r)
  spend_of_keeps zero r g = record { by = (leaf_keeps Dry).by }
  spend_of_keeps (suc fuel) r g = record { by = λ p f. g.by (record p { fuel = fuel }) f }

  spend_keeps : (r : Run) → Keeps r → Keeps (spend r)
  spend_keeps r g = record { by = λ p. (spend_of_keeps p.fuel r g).by p }

  -- ---- one after the other

  each_keeps : (next : Signal → Run) → ((x : Signal) → Keeps (next x)) → (ls : List Leaf) → AllFitting ls → (total (flat_map (λ l. next l.signal l.point) ls) ≡ total ls) × AllFitting (flat_map (λ l. next l.signal l.point) ls)
  each_keeps next g [] f = (refl, tt)
  each_keeps next g (l ∷ ls) f =
      let here = (g l.signal).by l.point f.0 in
      let rest = each_keeps next g ls f.1 in
      let later : List Leaf = flat_map (λ l. next l.signal l.point) ls in (
        total-append (next l.signal l.point) later ∙ ap (λ a. plus_real a (total later)) here.same ∙ ap (plus_real (mass l.point.state)) rest.0,
        fitting-append (next l.signal l.point) later here.fit rest.1,
      )

  following_keeps : (first : Run) (next : Signal → Run) → Keeps first → ((x : Signal) → Keeps (next x)) → Keeps (then_each first next)
  following_keeps first next g h = record {
    by = λ p f.
        let a = g.by p f in
        let b = each_keeps next h (first p) a.fit in
        record { same = b.0 ∙ a.same; fit = b.1 };
  }

  after_turn_keeps : (next : Run) (f g : List ℕ → List ℕ) → Keeps next → (x : Signal) → Keeps (after_turn next (with_store f) (with_store g) x)
  after_turn_keeps next f g h On = record { by = λ p fit. h.by (with_store f p) fit }
  after_turn_keeps next f g h Continued = record { by = λ p fit. h.by (with_store f p) fit }
  after_turn_keeps next f g h Broken = record { by = λ p fit. one_leaf On (with_store g (with_store f p)) p.state fit refl }
  after_turn_keeps next f g h x = record { by = (leaf_keeps x).by }

  turns_keep : (most : ℕ) (more : List ℕ → Evaluated Bool) (place : Place) (f g : List ℕ → List ℕ) (body : Run) → Keeps body → Keeps (turns most more place (with_store f) (with_store g) body)
  turns_keep zero more place f g body h =
      record { by = λ p. (result_keeps (more p.store) place _ (λ b. choose_keeps b (leaf Dry) (go (with_store g)) (leaf_keeps Dry) (go_keeps g))).by p }
  turns_keep (suc most) more place f g body h =
      let rest : Run = turns most more place (with_store f) (with_store g) body in
      let next : Run = then_each body (after_turn rest (with_store f) (with_store g)) in
      let step : Keeps next = following_keeps body _ h (after_turn_keeps rest f g (turns_keep most more place f g body h)) in
      record { by = λ p. (result_keeps (more p.store) place _ (λ b. choose_keeps b (spend next) (go (with_store g)) (spend_keeps next step) (go_keeps g))).by p }

  keeps_closed : IsClosed Keeps
  keeps_closed = record {
    ending = leaf_keeps;
    reading = λ next h. record { by = λ p. (h p.store).by p };
    storing = λ f next h. record { by = λ p fit. h.by (with_store f p) fit };
    spending = spend_keeps;
    following = λ first next d g h. following_keeps first next g h;
    turning = λ more place f g body h. record { by = λ p. (turns_keep p.fuel more place f g body h).by p };
  }

  -- ---- choices

  fits_project : (q : ℕ) (b : Bool) (s : State) → Fits s → Fits (project q b s)
  fits_project q b s f = (qubits-project q b s ∙ f.0, project_has_all q b s)

  unless_has_mass : (v : Bool) (next : Run) (p : Point) → vanishes p.state ≡ v → HaveMass (next p) p.state → HaveMass (unless v next p) p.state
  unless_has_mass true next p e w = record { same = sym (vanishing_mass p.state e); fit = tt }
  unless_has_mass false next p e w = w

  outcome_has_mass : (q : ℕ) (b : Bool) (next : Run) (p : Point) → Fits p.state → ((r : Point) → Fits r.state → HaveMass (next r) r.state) → HaveMass (outcome q b next p) (project q b p.state)
  outcome_has_mass q b next p f g =
      let r : Point = record p { state = project q b p.state } in
      unless_has_mass (vanishes (project q b p.state)) next r refl (g r (fits_project q b p.state f))

  both_have_mass : (q : ℕ) (xs ys : List Leaf) (s : State) → q < n → Fits s → HaveMass xs (project q false s) → HaveMass ys (project q true s) → HaveMass (xs ++ ys) s
  both_have_mass q xs ys s l f g h = record {
    same = total-append xs ys ∙ ap (λ a. plus_real a (total ys)) g.same ∙ ap (plus_real (mass (project q false s))) h.same
        ∙ project_masses s q (subst (λ (k : ℕ). q < k) (sym f.0) l) f.1;
    fit = fitting-append xs ys g.fit h.fit;
  }

  measured_keeps : (place : Place) (number q : ℕ) (keep : ℕ → List ℕ → List ℕ) → q < n → Keeps (measured place number q keep)
  measured_keeps place number q keep l =
      let one : (b : Bool) (p : Point) → Fits p.state → HaveMass (outcome q b (λ r. leaf On (chose place number b (with_store (keep (digit b)) r))) p) (project q b p.state) =
      λ b p f. outcome_has_mass q b _ p f (λ r g. one_leaf On _ r.state g refl) in
      record { by = λ p f. both_have_mass q _ _ p.state l f (one false p f) (one true p f) }

  reset_keeps : (place : Place) (number q : ℕ) → q < n → Keeps (reset place number q)
  reset_keeps place number q l = record {
    by = λ p f.
        both_have_mass q _ _ p.state l f
        (outcome_has_mass q false (λ r. leaf On (chose place number false r)) p f (λ r g. one_leaf On _ r.state g refl))
        (outcome_has_mass q true (λ r. leaf On (chose place number true (record r { state = flip q r.state }))) p f
        (λ r g. one_leaf On _ r.state (qubits-flip q r.state ∙ g.0, flip_has_all q r.state) (flips_keep_mass q r.state g.1)));
  }

  choices : HasChoices (λ q. q < n) Keeps
  choices = record { measuring = measured_keeps; resetting = reset_keeps }

  -- ---- gates

  landed_keeps : (b : Bool) (es : List Event) (place : Place) (g : Operator) (qs : List ℕ) → IsUnitaryOn (length qs) g → AreQubits n qs → Keeps (landed b es place (applied g qs))
  landed_keeps true es place g qs t q = record {
    by = λ p f.
        one_leaf On _ p.state (qubits-applied g qs p.state ∙ f.0, applied_has_all g qs p.state)
        (unitary_keeps_mass g qs p.state t.unitary (sym t.size) (subst (λ k. AreQubits k qs) (sym f.0) q) f.1);
  }
  landed_keeps false es place g qs t q = record { by = λ p f. one_leaf (Faulted BadAngle place) _ p.state f refl }

  multiplied_keeps : (used : GateUse) (angles : List KnownUnits) (qs : List ℕ) (place : Place) → GatesFit used.gates → length qs ≡ call_size (gate_sizes used.gates) used.modifiers used.gate → AreQubits n qs → Keeps (multiplied used angles qs place)
  multiplied_keeps used angles qs place fits size q =
      let done = applied_of (call_primitives (primitives_of used.gates) used.modifiers used.gate angles no_controls qs) in
      let t = each_call_unitary used.gates fits used.modifiers used.gate angles in
      landed_keeps done.complete (events place done.primitives) place (call_matrix (matrices_of used.gates) used.modifiers used.gate angles) qs
      (record { unitary = t.unitary; size = t.size ∙ sym size }) q

-- ---- calls

-- what is handed over has those sizes, and the qubits are the program's
pub record HandsOver (n : ℕ) (sizes : List ℕ) (given : Arguments) : Type 0 where
  pub same_sizes : map length given.qubits ≡ sizes
  pub members : All (All (λ q. q < n)) given.qubits

abbrev CallsKeep : Scope → Calls → Type 0
CallsKeep z calls = (i : ℕ) (given : Arguments) (at : Site) → at.qubits ≡ z.qubits → HandsOver z.qubits (sizes_taken (z.taken i)) given → Keeps z.qubits (calls i given at)

module _ (z : Scope) (gates_fit : GatesFit z.gates) (calls : Calls) (calls_keep : CallsKeep z calls) (at : Site) (site : SiteFits z at) where
  abbrev P : Run → Type 0
  P = Keeps z.qubits

  use_keeps : (count : ℕ) (used : GateUse) (operands : List TypedQubit) → length operands ≡ count → UseFits z count used → All (QubitFits z) operands → GateHas P (keeps_closed z.qubits) (IsQubit z) (choices z.qubits) at used operands
  use_keeps count used operands l fit fits = λ place angles store ns ms qs e f g.
      let named = qubits_are z at site operands store ns ms fits e f in
      let d = different_qubits z ms qs named.0 g in
      multiplied_keeps z.qubits used angles qs place
      (subst GatesFit (sym fit.0) gates_fit)
      (ap length (sym d.0) ∙ named.1 ∙ l ∙ fit.1 ∙ ap (λ gates. call_size (gate_sizes gates) used.modifiers used.gate) (sym fit.0))
      d.1

  call_keeps : (call : SubroutineCall) → CallFits z call → CallHas P (keeps_closed z.qubits) calls call at
  call_keeps call fit = λ store values ns qs e f.
      let given = registers_are z at site call.qubits store ns qs fit.1 e f in
      calls_keep call.subroutine _ _ site.same_qubits (record { same_sizes = given.1 ∙ given_sizes (z.taken call.subroutine) call.values call.qubits fit.0; members = given.0 })

  right_keeps : (value : TypedRight) → RightFits z value → RightHas P (keeps_closed z.qubits) (IsQubit z) (choices z.qubits) calls at value
  right_keeps (right.Value value) fit = tt
  right_keeps (right.Measure qubits) fit = λ store ns qs e f. (register_is z at site qubits store ns qs fit e f).0
  right_keeps (right.Call call result to) fit = call_keeps call fit

  optional_keeps : (value : Option TypedRight) → OptionalFits z value → OptionalHas P (keeps_closed z.qubits) (IsQubit z) (choices z.qubits) calls at value
  optional_keeps None fit = tt
  optional_keeps (Some value) fit = right_keeps value fit

  parts_keep : (a : TypedAction) → ActionFits z a → ActionHas P (keeps_closed z.qubits) (IsQubit z) (choices z.qubits) calls at a
  parts_keep (action.Declare kind slot value) fit = optional_keeps value fit
  parts_keep (action.Assign target value) fit = right_keeps value fit
  parts_keep (action.Measure qubits target) fit = λ store ns qs e f. (register_is z at site qubits store ns qs fit e f).0
  parts_keep (action.Reset qubits) fit = λ store ns qs e f. (register_is z at site qubits store ns qs fit e f).0
  parts_keep (action.Gate call) fit = use_keeps (length call.operands) call.used call.operands refl fit.0 fit.1
  parts_keep (action.Broadcast call) fit = λ i l.
      let here = operands_are z call.size i call.operands l fit.1 in
      use_keeps (length call.operands) call.used (operands_at i call.operands) here.0 fit.0 here.1
  parts_keep (action.Call call) fit = call_keeps call fit
  parts_keep (action.Return value) fit = optional_keeps value fit
  parts_keep _ fit = tt

-- ---- programs

past_fits : (z : Scope) (count : ℕ) (at : Site) → SiteFits z at → SiteFits z (past count at)
past_fits z count at s = record { same_qubits = s.same_qubits; sizes = s.sizes; members = s.members }

body_keeps : (z : Scope) → GatesFit z.gates → (counts : Counts) (calls : Calls) → CallsKeep z calls → (body : List TypedStatement) (at : Site) → BodyFits z body → SiteFits z at → Keeps z.qubits (list_tree counts calls body at)
body_keeps z gates counts calls h body at fit site =
    list_has (Keeps z.qubits) (keeps_closed z.qubits) (ActionFits z) (SiteFits z) (past_fits z) counts calls
    (λ a at place f s. action_has (Keeps z.qubits) (keeps_closed z.qubits) (IsQubit z) (choices z.qubits) calls a at place (parts_keep z gates calls h at s a f))
    body at fit site

subroutine_keeps : (z : Scope) → GatesFit z.gates → (counts : Counts) (calls : Calls) → CallsKeep z calls → (s : TypedSubroutine) → BodyFits (record z { own = sizes_from 0 s.parameters }) s.body →
    (given : Arguments) (at : Site) → at.qubits ≡ z.qubits → HandsOver z.qubits (sizes_taken s.parameters) given → Keeps z.qubits (body_run counts calls s given at)
subroutine_keeps z gates counts calls h s fit given at same g =
    let site : Site = record at { registers = registers_from 0 s.parameters given.qubits } in
    (keeps_closed z.qubits).storing (entered s.parameters given.values given.qubits at.base) (list_tree counts calls s.body site)
    (body_keeps (record z { own = sizes_from 0 s.parameters }) gates counts calls h s.body site fit
    (record {
      same_qubits = same;
      sizes = λ i. own_sizes 0 s.parameters given.qubits i g.same_sizes;
      members = λ i. own_members (λ q. q < z.qubits) 0 s.parameters given.qubits i g.members;
    }))

by_number : (n i k : ℕ) (own before : List TypedParameter) (given : Arguments) (r s : Run) → (HandsOver k (sizes_taken own) given → Keeps k r) → (HandsOver k (sizes_taken before) given → Keeps k s) → HandsOver k (sizes_taken (if_number n i own before)) given → Keeps k (if_number n i r s)
by_number zero zero k own before given r s f g h = f h
by_number (suc n) (suc i) k own before given r s f g h = by_number n i k own before given r s f g h
by_number zero (suc i) k own before given r s f g h = g h
by_number (suc n) zero k own before given r s f g h = g h

all_keep : (z : Scope) → GatesFit z.gates → (n : ℕ) (ss : List TypedSubroutine) (body : List TypedStatement) (counts all : Counts) (calls : Calls) → CallsKeep z calls → AllFit z n ss body → (at : Site) → SiteFits z at → Keeps z.qubits (list_tree all (calls_of n ss counts calls) body at)
all_keep z gates n [] body counts all calls h fit at site = body_keeps z gates all calls h body at fit site
all_keep z gates n (s ∷ ss) body counts all calls h fit at site =
    all_keep (record z { taken = λ i. if_number n i s.parameters (z.taken i) }) gates (suc n) ss body
    (λ i. if_number n i (list_choices counts s.body) (counts i)) all
    (λ i given at. if_number n i (body_run counts calls s given at) (calls i given at))
    (λ i given at same g.
    by_number n i z.qubits s.parameters (z.taken i) given _ _
    (subroutine_keeps z gates counts calls h s fit.0 given at same) (h i given at same) g)
    fit.1 at (record { same_qubits = site.same_qubits; sizes = site.sizes; members = site.members })

program_keeps : (typed : Typed) → IsWellFormed typed → Keeps typed.qubits (run_of typed)
program_keeps typed fit =
    all_keep (main_scope typed) fit.0 0 typed.subroutines typed.body (λ i. 0) (subroutine_choices typed.subroutines) (λ i given at. leaf On)
    (λ i given at same g. leaf_keeps typed.qubits On)
    fit.1 (main_site typed) (record { same_qubits = refl; sizes = λ i. refl; members = λ i. all_none (λ q. q < typed.qubits) })

pub mass_goes_through : (typed : Typed) → MassGoesThrough typed
mass_goes_through typed = λ fit p same all. ((program_keeps typed fit).by p (same, all)).same

qubits-zero_state : (n : ℕ) → (zero_state n).qubits ≡ n
unfolding zero_state
qubits-zero_state n = refl

pub mass_is_kept : (typed : Typed) → MassIsKept typed
mass_is_kept typed = λ fit fuel.
    mass_goes_through typed fit (root typed fuel) (qubits-zero_state typed.qubits) (all_entries_zero_state typed.qubits) ∙ mass_zero_state typed.qubits
