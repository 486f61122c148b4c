-- Statements without bodies, in turn.
use Rattle.std.proofs.Common.{◌≡◌, ℕ, suc, ◌+◌, List, [], ◌∷◌, refl, sym, ap, subst, arith}
use Rattle.std.specs.List.{flat_map}
use Rattle.qt_typed.specs.Choices.{Counts, choices as choices_of}
use Rattle.qt_typed.specs.declared.statement.TypedStatement.{TypedStatement}
use Rattle.qt_typed.specs.declared.statement.TypedStatement.TheVariants.{Simple, If', Loop'}
use Rattle.qt_meaning.specs.Places.{Site}
use Rattle.qt_meaning.specs.Points.{On, Leaf, Point, Run, go_on, leaf, then_do}
use Rattle.qt_meaning.specs.Statements.{list_tree, past, tree}
use Rattle.qt_meaning.specs.WellFormed.{Scope}
use Rattle.qt_instructions.specs.declared.parts.Parts.{Parts}
use Rattle.qt_code.specs.Tail.{tail}
use Rattle.qt_flat_code.specs.Statements.{Codes, Exits, list_length, statement_length}
use Rattle.qt_gate_call_laws.proofs.Leaves.{alike, alike_then, on_then}
use Rattle.qt_flat_gate_calls.proofs.Following.{then_then}
use Rattle.qt_flat_actions.specs.Fits.{LinesStand}
use Rattle.qt_flat_actions.specs.Laws.{FuelLands, StatementsFit, StatementsStand, StraightCodeLands}
use Rattle.qt_flat_actions.proofs.Landing.{statements_land}
use Rattle.qt_flat_actions.proofs.Sites.{action_same}

fuel_then : (code : Parts) (at mid to : ℕ) (first second : Run) → FuelLands code at mid first → FuelLands code mid to second
    → FuelLands code at to (then_do first second)
fuel_then code at mid to first second a b = record {
  by = λ next cells p whole goes.
      alike_then
      (a.by (then_do second next) cells p whole
      (λ f le new q e w. b.by next new q w (λ g lt. goes g (omega (arith, lt, e, le)))))
      (alike _ _ (sym (then_then first second next p)));
}

fuel_here : (code : Parts) (at to : ℕ) → at ≡ to → FuelLands code at to (leaf On)
fuel_here code at to e = record {
  by = λ next cells p whole goes.
      alike_then (alike _ _ (ap (λ n. tail code n cells p) e))
      (alike_then (goes p.fuel (omega arith) cells p refl whole) (alike _ _ (sym (on_then next p))));
}

fuel_to : (code : Parts) (at to n : ℕ) (run : Run) → to ≡ n → FuelLands code at to run → FuelLands code at n run
fuel_to code at to n run e h = subst (λ m. FuelLands code at m run) e h

same_run : (code : Parts) (at to : ℕ) (run other : Run) → ((p : Point) → run p ≡ other p) → FuelLands code at to run → FuelLands code at to other
same_run code at to run other e h = record {
  by = λ next cells p whole goes.
      alike_then (h.by next cells p whole goes) (alike _ _ (ap (flat_map (λ (l : Leaf). go_on next l.signal l.point)) (e p)));
}

-- the code of a statement, and of all that follow, is the same behind more choices
stands_past : (code : Parts) (scope : Scope) (slots : ℕ) (z choices : Counts) (codes : Codes) (exits : Exits) (n : ℕ) (site other : Site) (at : ℕ)
    (ss : List TypedStatement) → StatementsFit code scope slots z choices other at ss → StatementsStand code z codes exits site at ss
    → StatementsStand code z codes exits (past n site) at ss
stands_past code scope slots z choices codes exits n site other at [] fits h = tt
stands_past code scope slots z choices codes exits n site other at (Simple spot action ∷ ss) fits h =
    let e = action_same code scope slots (suc at) other z codes exits spot.place n site action (suc at) fits.0 in (
      (h.0.0, subst (LinesStand code (suc at)) (sym e) h.0.1),
      stands_past code scope slots z choices codes exits n site (past (choices_of choices (Simple spot action)) other)
          (at + statement_length z (Simple spot action)) ss fits.1 h.1,
    )
stands_past code scope slots z choices codes exits n site other at (If' spot condition k body body_slots m otherwise otherwise_slots ∷ ss) fits h =
    absurd fits.0
stands_past code scope slots z choices codes exits n site other at (Loop' spot over loop_slots k body body_slots ∷ ss) fits h = absurd fits.0

pub straight_code_lands : StraightCodeLands
straight_code_lands code scope slots z choices codes exits calls [] site at fits h =
    same_run code at (at + 0) (leaf On) (list_tree choices calls [] site) (λ p. refl) (fuel_here code at (at + 0) (omega arith))
straight_code_lands code scope slots z choices codes exits calls (Simple spot action ∷ ss) site at fits h =
    let s = Simple spot action in
    let mid = at + statement_length z s in
    let on = past (choices_of choices s) site in
    fuel_to code at (mid + list_length z ss) (at + list_length z (s ∷ ss)) _ (omega arith)
    (same_run code at (mid + list_length z ss) (then_do (tree choices calls s site) (list_tree choices calls ss on)) (list_tree choices calls (s ∷ ss) site) (λ p. refl)
    (fuel_then code at mid (mid + list_length z ss) (tree choices calls s site) (list_tree choices calls ss on)
    (statements_land code scope site slots z choices codes exits calls spot action at fits.0 h.0)
    (straight_code_lands code scope slots z choices codes exits calls ss on mid fits.1
    (stands_past code scope slots z choices codes exits (choices_of choices s) site on mid ss fits.1 h.1))))
straight_code_lands code scope slots z choices codes exits calls (If' spot condition k body body_slots m otherwise otherwise_slots ∷ ss) site at fits h =
    absurd fits.0
straight_code_lands code scope slots z choices codes exits calls (Loop' spot over loop_slots k body body_slots ∷ ss) site at fits h = absurd fits.0
