-- One unit of fuel more changes nothing where no leaf is dry, but for the fuel that is left.
use Rattle.std.proofs.Common.{◌≡◌, ℕ, zero, suc, Bool, true, false, List, [], ◌∷◌, ◌++◌, map, Ok, Err, refl, sym, ap, ◌∙◌}
use Rattle.std.specs.List.{flat_map}
use Rattle.std.proofs.lemmas.List.{map-append}
use Rattle.qt_tree.specs.declared.place.Place.{Place}
use Rattle.qt_gate_calls.specs.Faults.{EighthPrimitive, applied_of}
use Rattle.qt_gate_calls.specs.Matrices.{call_matrix, matrices_of}
use Rattle.qt_gate_calls.specs.Primitives.{no_controls, call_primitives, primitives_of}
use Rattle.qt_gate_calls.specs.Units.{KnownUnits}
use Rattle.qt_ring.specs.State.{State, project, flip, vanishes, applied}
use Rattle.qt_ring.specs.Places.{digit}
use Rattle.qt_typed.specs.declared.call.GateUse.{GateUse}
use Rattle.qt_typed.specs.declared.program.Typed.{Typed}
use Rattle.qt_meaning.specs.Values.{Evaluated, BadAngle}
use Rattle.qt_meaning.specs.Points.{Event, Did, Chose, Point, On, Broken, Continued, Returned, Ended, Faulted, Dry, Signal, Leaf, Run, leaf, go, choose, with_result, spend_of, spend, with_store, noted}
use Rattle.qt_meaning.specs.Measuring.{unless, outcome, chose, measured, reset}
use Rattle.qt_meaning.specs.Applying.{events, landed, multiplied}
use Rattle.qt_meaning.specs.Loops.{after_turn, turns}
use Rattle.qt_meaning.specs.Distribution.{AllLeaves, NotDry, root, run_of}
use Rattle.qt_meaning.specs.Laws.{with_more, with_unit, FuelSuffices}
use Rattle.qt_meaning_laws.proofs.Runs.{IsClosed, then_each, KeepsDry}
use Rattle.qt_meaning_laws.proofs.Programs.{program_has}

abbrev pub unit_more : Point → Point
unit_more p = record p { fuel = suc p.fuel; trail = map with_more p.trail }

abbrev pub NoneDry : List Leaf → Type 0
NoneDry ls = AllLeaves NotDry ls

none_dry_front : (xs ys : List Leaf) → NoneDry (xs ++ ys) → NoneDry xs
none_dry_front [] ys h = tt
none_dry_front (x ∷ xs) ys h = (h.0, none_dry_front xs ys h.1)

none_dry_back : (xs ys : List Leaf) → NoneDry (xs ++ ys) → NoneDry ys
none_dry_back [] ys h = h
none_dry_back (x ∷ xs) ys h = none_dry_back xs ys h.1

-- where no leaf of the first is dry, the second does the same with one unit more
pub record Climbs (r s : Run) : Type 0 where
  pub by : (p : Point) → NoneDry (r p) → s (unit_more p) ≡ map with_unit (r p)

leaf_climbs : (s : Signal) → Climbs (leaf s) (leaf s)
leaf_climbs s = record { by = λ p h. refl }

dry_climbs : (r : Run) → Climbs (leaf Dry) r
dry_climbs r = record { by = λ p h. absurd h.0 }

choose_climbs : (b : Bool) (r s r' s' : Run) → Climbs r r' → Climbs s s' → Climbs (choose b r s) (choose b r' s')
choose_climbs true r s r' s' g h = record { by = g.by }
choose_climbs false r s r' s' g h = record { by = h.by }

result_climbs : {A : Type 0} (e : Evaluated A) (place : Place) (r s : A → Run) → ((a : A) → Climbs (r a) (s a)) → Climbs (with_result e place r) (with_result e place s)
result_climbs (Ok a) place r s h = record { by = (h a).by }
result_climbs (Err fault) place r s h = record { by = λ p g. refl }

spend_of_climbs : (fuel : ℕ) (r s : Run) → Climbs r s → (p : Point) → NoneDry (spend_of fuel r p) → spend_of (suc fuel) s (unit_more p) ≡ map with_unit (spend_of fuel r p)
spend_of_climbs zero r s g p h = absurd h.0
spend_of_climbs (suc fuel) r s g p h = g.by (record p { fuel = fuel }) h

spend_climbs : (r s : Run) → Climbs r s → Climbs (spend r) (spend s)
spend_climbs r s g = record { by = λ p h. spend_of_climbs p.fuel r s g p h }

-- ---- one after the other

dry_stays : (next : Signal → Run) → KeepsDry next → (s : Signal) (p : Point) → NoneDry (next s p) → NotDry s
dry_stays next d Dry p h = (rw d at h).0
dry_stays next d On p h = tt
dry_stays next d Broken p h = tt
dry_stays next d Continued p h = tt
dry_stays next d Returned p h = tt
dry_stays next d Ended p h = tt
dry_stays next d (Faulted fault place) p h = tt

none_dry_before : (next : Signal → Run) → KeepsDry next → (ls : List Leaf) → NoneDry (flat_map (λ l. next l.signal l.point) ls) → NoneDry ls
none_dry_before next d [] h = tt
none_dry_before next d (l ∷ ls) h =
    let rest = flat_map (λ (l : Leaf). next l.signal l.point) ls in
    (dry_stays next d l.signal l.point (none_dry_front (next l.signal l.point) rest h), none_dry_before next d ls (none_dry_back (next l.signal l.point) rest h))

each_climbs : (r s : Signal → Run) → ((x : Signal) → Climbs (r x) (s x)) → (ls : List Leaf) → NoneDry (flat_map (λ l. r l.signal l.point) ls) → flat_map (λ l. s l.signal l.point) (map with_unit ls) ≡ map with_unit (flat_map (λ l. r l.signal l.point) ls)
each_climbs r s g [] h = refl
each_climbs r s g (l ∷ ls) h =
    let rest = flat_map (λ (l : Leaf). r l.signal l.point) ls in
    ap (λ a. a ++ flat_map (λ l. s l.signal l.point) (map with_unit ls)) ((g l.signal).by l.point (none_dry_front (r l.signal l.point) rest h))
    ∙ ap (λ b. map with_unit (r l.signal l.point) ++ b) (each_climbs r s g ls (none_dry_back (r l.signal l.point) rest h))
    ∙ sym (map-append with_unit (r l.signal l.point) rest)

following_climbs : (first : Run) (r s : Signal → Run) → KeepsDry r → Climbs first first → ((x : Signal) → Climbs (r x) (s x)) → Climbs (then_each first r) (then_each first s)
following_climbs first r s d g h = record {
  by = λ p n.
      ap (flat_map (λ l. s l.signal l.point)) (g.by p (none_dry_before r d (first p) n)) ∙ each_climbs r s h (first p) n;
}

-- ---- loops: with a unit more there is one turn more at most

after_turn_climbs : (r s : Run) (f g : List ℕ → List ℕ) → Climbs r s → (x : Signal) → Climbs (after_turn r (with_store f) (with_store g) x) (after_turn s (with_store f) (with_store g) x)
after_turn_climbs r s f g h On = record { by = λ p. h.by (with_store f p) }
after_turn_climbs r s f g h Continued = record { by = λ p. h.by (with_store f p) }
after_turn_climbs r s f g h x = record { by = λ p n. refl }

turns_climb : (n : ℕ) (more : List ℕ → Evaluated Bool) (place : Place) (f g : List ℕ → List ℕ) (body : Run) → Climbs body body → Climbs (turns n more place (with_store f) (with_store g) body) (turns (suc n) more place (with_store f) (with_store g) body)
turns_climb zero more place f g body h = record { by = λ p. (result_climbs (more p.store) place _ _ (λ b. choose_climbs b (leaf Dry) (go (with_store g)) _ (go (with_store g)) (dry_climbs _) (record { by = λ p n. refl }))).by p }
turns_climb (suc n) more place f g body h =
    let rest : ℕ → Run = λ m. turns m more place (with_store f) (with_store g) body in
    let next : ℕ → Run = λ m. then_each body (after_turn (rest m) (with_store f) (with_store g)) in
    let step : Climbs (next n) (next (suc n)) = following_climbs body _ _ (λ p. refl) h (after_turn_climbs (rest n) (rest (suc n)) f g (turns_climb n more place f g body h)) in
    record { by = λ p. (result_climbs (more p.store) place _ _ (λ b. choose_climbs b (spend (next n)) (go (with_store g)) (spend (next (suc n))) (go (with_store g)) (spend_climbs (next n) (next (suc n)) step) (record { by = λ p n. refl }))).by p }

abbrev Stays : Run → Type 0
Stays r = Climbs r r

climbs_closed : IsClosed Stays
climbs_closed = record {
  ending = leaf_climbs;
  reading = λ next h. record { by = λ p. (h p.store).by p };
  storing = λ f next h. record { by = λ p. h.by (with_store f p) };
  spending = λ next h. spend_climbs next next h;
  following = λ first next d g h. following_climbs first next next d g h;
  turning = λ more place f g body h. record { by = λ p. (turns_climb p.fuel more place f g body h).by p };
}

-- ---- choices and gates

noted_climbs : (es : List Event) (p : Point) → map with_more es ≡ es → noted es (unit_more p) ≡ unit_more (noted es p)
noted_climbs es p e = ap (λ t. record (unit_more p) { trail = map with_more p.trail ++ t }) (sym e) ∙ ap (λ t. record (unit_more p) { trail = t }) (sym (map-append with_more p.trail es))

chose_climbs : (place : Place) (number : ℕ) (bit : Bool) (p : Point) → chose place number bit (unit_more p) ≡ unit_more (chose place number bit p)
chose_climbs place number bit p = ap (λ t. record (unit_more p) { trail = t }) (sym (map-append with_more p.trail (Chose place bit p.fuel number p.store ∷ [])))

unless_climbs : (b : Bool) (r s : Run) → Climbs r s → Climbs (unless b r) (unless b s)
unless_climbs true r s g = record { by = λ p h. refl }
unless_climbs false r s g = record { by = g.by }

outcome_climbs : (q : ℕ) (bit : Bool) (r : Run) → Stays r → Stays (outcome q bit r)
outcome_climbs q bit r g = record { by = λ p. (unless_climbs (vanishes (project q bit p.state)) r r g).by (record p { state = project q bit p.state }) }

both_climb : (r s : Run) → Stays r → Stays s → Stays (λ p. r p ++ s p)
both_climb r s g h = record {
  by = λ p n.
      ap (λ a. a ++ s (unit_more p)) (g.by p (none_dry_front (r p) (s p) n)) ∙ ap (λ b. map with_unit (r p) ++ b) (h.by p (none_dry_back (r p) (s p) n)) ∙ sym (map-append with_unit (r p) (s p));
}

measured_climbs : (place : Place) (number q : ℕ) (keep : ℕ → List ℕ → List ℕ) → Stays (measured place number q keep)
measured_climbs place number q keep =
    let one : (bit : Bool) → Stays (outcome q bit (λ r. leaf On (chose place number bit (with_store (keep (digit bit)) r)))) =
    λ bit. outcome_climbs q bit _ (record { by = λ p h. ap (leaf On) (chose_climbs place number bit (with_store (keep (digit bit)) p)) }) in
    both_climb _ _ (one false) (one true)

reset_climbs : (place : Place) (number q : ℕ) → Stays (reset place number q)
reset_climbs place number q =
    both_climb _ _
    (outcome_climbs q false _ (record { by = λ p h. ap (leaf On) (chose_climbs place number false p) }))
    (outcome_climbs q true _ (record { by = λ p h. ap (leaf On) (chose_climbs place number true (record p { state = flip q p.state })) }))

events_climb : (place : Place) (es : List EighthPrimitive) → map with_more (events place es) ≡ events place es
events_climb place [] = refl
events_climb place (e ∷ es) = ap (λ t. Did e place ∷ t) (events_climb place es)

landed_climbs : (b : Bool) (place : Place) (es : List EighthPrimitive) (f : State → State) → Stays (landed b (events place es) place f)
landed_climbs true place es f = record { by = λ p h. ap (leaf On) (noted_climbs (events place es) (record p { state = f p.state }) (events_climb place es)) }
landed_climbs false place es f = record { by = λ p h. ap (leaf (Faulted BadAngle place)) (noted_climbs (events place es) p (events_climb place es)) }

multiplied_climbs : (used : GateUse) (angles : List KnownUnits) (qs : List ℕ) (place : Place) → Stays (multiplied used angles qs place)
multiplied_climbs used angles qs place =
    let done = applied_of (call_primitives (primitives_of used.gates) used.modifiers used.gate angles no_controls qs) in
    landed_climbs done.complete place done.primitives (applied (call_matrix (matrices_of used.gates) used.modifiers used.gate angles) qs)

-- ---- programs

program_climbs : (typed : Typed) → Stays (run_of typed)
program_climbs typed =
    program_has Stays climbs_closed
    (record { measuring = λ place number q keep any. measured_climbs place number q keep; resetting = λ place number q any. reset_climbs place number q })
    multiplied_climbs typed

pub fuel_suffices : (typed : Typed) → FuelSuffices typed
fuel_suffices typed = λ fuel ends. (program_climbs typed).by (root typed fuel) ends
