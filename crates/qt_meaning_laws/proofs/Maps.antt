-- A map of states that goes with all that programs do to states goes through programs.
use Rattle.std.proofs.Common.{◌≡◌, ℕ, zero, suc, Bool, true, false, List, [], ◌∷◌, ◌++◌, map, Ok, Err, refl, sym, ap, ◌∙◌}
use Rattle.std.specs.List.{flat_map}
use Rattle.std.proofs.lemmas.List.{map-append}
use Rattle.qt_tree.specs.declared.place.Place.{Place}
use Rattle.qt_gate_calls.specs.Faults.{applied_of}
use Rattle.qt_gate_calls.specs.Matrices.{call_matrix, matrices_of}
use Rattle.qt_gate_calls.specs.Primitives.{no_controls, call_primitives, primitives_of}
use Rattle.qt_gate_calls.specs.Units.{KnownUnits}
use Rattle.qt_ring.specs.Matrix.{Operator}
use Rattle.qt_ring.specs.State.{State, project, vanishes, applied}
use Rattle.qt_ring.specs.Places.{digit}
use Rattle.qt_typed.specs.declared.call.GateUse.{GateUse}
use Rattle.qt_typed.specs.declared.program.Typed.{Typed}
use Rattle.qt_meaning.specs.Values.{Evaluated}
use Rattle.qt_meaning.specs.Points.{Event, Point, On, Continued, Dry, Signal, Leaf, Run, leaf, go, choose, with_result, spend_of, spend, with_store, noted}
use Rattle.qt_meaning.specs.Measuring.{unless, outcome, chose, measured, reset}
use Rattle.qt_meaning.specs.Applying.{events, landed, multiplied}
use Rattle.qt_meaning.specs.Loops.{after_turn, turns}
use Rattle.qt_meaning.specs.Distribution.{run_of}
use Rattle.qt_meaning_laws.specs.Maps.{GoesWithStates, point_by, leaf_by, MapsGoThrough}
use Rattle.qt_meaning_laws.proofs.Runs.{IsClosed, then_each}
use Rattle.qt_meaning_laws.proofs.Programs.{program_has}

module _ (f : State → State) (good : GoesWithStates f) where
  pub record Goes (r : Run) : Type 0 where
    pub by : (p : Point) → r (point_by f p) ≡ map (leaf_by f) (r p)

  leaf_goes : (s : Signal) → Goes (leaf s)
  leaf_goes s = record { by = λ p. refl }

  choose_goes : (b : Bool) (r s : Run) → Goes r → Goes s → Goes (choose b r s)
  choose_goes true r s g h = record { by = g.by }
  choose_goes false r s g h = record { by = h.by }

  result_goes : {A : Type 0} (e : Evaluated A) (place : Place) (r : A → Run) → ((a : A) → Goes (r a)) → Goes (with_result e place r)
  result_goes (Ok a) place r h = record { by = (h a).by }
  result_goes (Err fault) place r h = record { by = λ p. refl }

  spend_of_goes : (fuel : ℕ) (r : Run) → Goes r → Goes (spend_of fuel r)
  spend_of_goes zero r g = record { by = λ p. refl }
  spend_of_goes (suc fuel) r g = record { by = λ p. g.by (record p { fuel = fuel }) }

  spend_goes : (r : Run) → Goes r → Goes (spend r)
  spend_goes r g = record { by = λ p. (spend_of_goes p.fuel r g).by p }

  -- ---- one after the other

  each_goes : (next : Signal → Run) → ((s : Signal) → Goes (next s)) → (ls : List Leaf) → flat_map (λ l. next l.signal l.point) (map (leaf_by f) ls) ≡ map (leaf_by f) (flat_map (λ l. next l.signal l.point) ls)
  each_goes next g [] = refl
  each_goes next g (l ∷ ls) =
      ap (λ a. a ++ flat_map (λ l. next l.signal l.point) (map (leaf_by f) ls)) ((g l.signal).by l.point)
      ∙ ap (λ b. map (leaf_by f) (next l.signal l.point) ++ b) (each_goes next g ls)
      ∙ sym (map-append (leaf_by f) (next l.signal l.point) (flat_map (λ l. next l.signal l.point) ls))

  following_goes : (first : Run) (next : Signal → Run) → Goes first → ((s : Signal) → Goes (next s)) → Goes (then_each first next)
  following_goes first next g h = record { by = λ p. ap (flat_map (λ l. next l.signal l.point)) (g.by p) ∙ each_goes next h (first p) }

  after_turn_goes : (next : Run) (body_end loop_end : List ℕ → List ℕ) → Goes next → (s : Signal) → Goes (after_turn next (with_store body_end) (with_store loop_end) s)
  after_turn_goes next body_end loop_end g On = record { by = λ p. g.by (with_store body_end p) }
  after_turn_goes next body_end loop_end g Continued = record { by = λ p. g.by (with_store body_end p) }
  after_turn_goes next body_end loop_end g s = record { by = λ p. refl }

  turns_go : (n : ℕ) (more : List ℕ → Evaluated Bool) (place : Place) (body_end loop_end : List ℕ → List ℕ) (body : Run) → Goes body → Goes (turns n more place (with_store body_end) (with_store loop_end) body)
  turns_go zero more place body_end loop_end body g =
      record { by = λ p. (result_goes (more p.store) place _ (λ b. choose_goes b (leaf Dry) (go (with_store loop_end)) (leaf_goes Dry) (record { by = λ p. refl }))).by p }
  turns_go (suc n) more place body_end loop_end body g =
      let rest : Run = turns n more place (with_store body_end) (with_store loop_end) body in
      let next : Run = then_each body (after_turn rest (with_store body_end) (with_store loop_end)) in
      let step : Goes next = following_goes body _ g (after_turn_goes rest body_end loop_end (turns_go n more place body_end loop_end body g)) in
      record { by = λ p. (result_goes (more p.store) place _ (λ b. choose_goes b (spend next) (go (with_store loop_end)) (spend_goes next step) (record { by = λ p. refl }))).by p }

  goes_closed : IsClosed Goes
  goes_closed = record {
    ending = leaf_goes;
    reading = λ next h. record { by = λ p. (h p.store).by p };
    storing = λ change next h. record { by = λ p. h.by (with_store change p) };
    spending = spend_goes;
    following = λ first next d g h. following_goes first next g h;
    turning = λ more place body_end loop_end body h. record { by = λ p. (turns_go p.fuel more place body_end loop_end body h).by p };
  }

  -- ---- choices and gates

  unless_goes : (b : Bool) (r : Run) → Goes r → Goes (unless b r)
  unless_goes true r g = record { by = λ p. refl }
  unless_goes false r g = record { by = g.by }

  outcome_goes : (q : ℕ) (bit : Bool) (r : Run) → Goes r → Goes (outcome q bit r)
  outcome_goes q bit r g = record {
    by = λ p.
        ap (λ s. unless (vanishes s) r (record p { state = s })) (good.projections q bit p.state)
        ∙ ap (λ b. unless b r (record p { state = f (project q bit p.state) })) (good.zeros (project q bit p.state))
        ∙ (unless_goes (vanishes (project q bit p.state)) r g).by (record p { state = project q bit p.state });
  }

  both_go : (r s : Run) → Goes r → Goes s → Goes (λ p. r p ++ s p)
  both_go r s g h = record {
    by = λ p.
        ap (λ a. a ++ s (point_by f p)) (g.by p) ∙ ap (λ b. map (leaf_by f) (r p) ++ b) (h.by p) ∙ sym (map-append (leaf_by f) (r p) (s p));
  }

  measured_goes : (place : Place) (number q : ℕ) (keep : ℕ → List ℕ → List ℕ) → Goes (measured place number q keep)
  measured_goes place number q keep =
      let one : (bit : Bool) → Goes (outcome q bit (λ r. leaf On (chose place number bit (with_store (keep (digit bit)) r)))) =
      λ bit. outcome_goes q bit _ (record { by = λ p. refl }) in
      both_go _ _ (one false) (one true)

  reset_goes : (place : Place) (number q : ℕ) → Goes (reset place number q)
  reset_goes place number q =
      both_go _ _
      (outcome_goes q false _ (record { by = λ p. refl }))
      (outcome_goes q true _ (record { by = λ p. ap (λ s. leaf On (chose place number true (record p { state = s }))) (good.flips q p.state) }))

  landed_goes : (b : Bool) (es : List Event) (place : Place) (g : Operator) (qs : List ℕ) → Goes (landed b es place (applied g qs))
  landed_goes true es place g qs = record { by = λ p. ap (λ s. leaf On (noted es (record p { state = s }))) (good.gates g qs p.state) }
  landed_goes false es place g qs = record { by = λ p. refl }

  multiplied_goes : (used : GateUse) (angles : List KnownUnits) (qs : List ℕ) (place : Place) → Goes (multiplied used angles qs place)
  multiplied_goes used angles qs place =
      let done = applied_of (call_primitives (primitives_of used.gates) used.modifiers used.gate angles no_controls qs) in
      landed_goes done.complete (events place done.primitives) place (call_matrix (matrices_of used.gates) used.modifiers used.gate angles) qs

  -- ---- programs

  pub program_goes : (typed : Typed) → Goes (run_of typed)
  program_goes typed =
      program_has Goes goes_closed
      (record { measuring = λ place number q keep any. measured_goes place number q keep; resetting = λ place number q any. reset_goes place number q })
      multiplied_goes typed

pub maps_go_through : (typed : Typed) → MapsGoThrough typed
maps_go_through typed = λ f good. (program_goes f good typed).by
