-- The flat code of statements without bodies means what they mean (flat code is this profile's; OpenQASM 3.0 live specification,
-- "Classical instructions" and "Built-in quantum instructions"; Cross et al. 2022).
use Rattle.std.specs.Prelude.{ℕ, suc, ◌+◌, ◌≤◌, List, [], ◌∷◌}
use Rattle.qt_tree.specs.declared.place.Place.{Place}
use Rattle.qt_typed.specs.Choices.{Counts, choices as choices_of}
use Rattle.qt_typed.specs.declared.statement.Spot.{Spot}
use Rattle.qt_typed.specs.declared.statement.TypedAction.{TypedAction}
use Rattle.qt_typed.specs.declared.statement.TypedStatement.{TypedStatement}
use Rattle.qt_typed.specs.declared.statement.TypedStatement.TheVariants.{Simple}
use Rattle.qt_meaning.specs.Places.{Site}
use Rattle.qt_meaning.specs.Points.{Point, Run, then_do}
use Rattle.qt_meaning.specs.Statements.{Calls, act, list_tree, past, tree}
use Rattle.qt_meaning.specs.WellFormed.{Scope}
use Rattle.qt_instructions.specs.declared.parts.Parts.{Parts}
use Rattle.qt_code.specs.Cells.{Cells}
use Rattle.qt_code.specs.Tail.{tail}
use Rattle.qt_flat_code.specs.Statements.{Codes, Exits, action_code, action_length, list_length, statement_code, statement_length}
use Rattle.qt_gate_call_laws.specs.Seen.{LookAlike}
use Rattle.qt_flat_gate_calls.specs.Landing.{GoesOn, IsWhole, RunLands}
use Rattle.qt_flat_actions.specs.Fits.{ActionFits, LinesStand}

-- wherever the code of an action that fits stands, whatever else the code has, it does what the action means
abbrev pub ActionsLand : Type 0
ActionsLand =
    (code : Parts) (place : Place) (scope : Scope) (site : Site) (slots : ℕ) (lengths : Counts) (codes : Codes) (exits : Exits) (calls : Calls)
    (action : TypedAction) (at : ℕ) → ActionFits code scope site slots at action
    → LinesStand code at (action_code lengths codes action exits place site at)
    → RunLands code at (at + action_length lengths action) (act calls action site place)

-- a piece that may spend fuel does what the run does: from its first instruction on the run has the leaves of the meaning's run, with what
-- follows the piece for each fuel that may be left
pub record FuelLands (code : Parts) (at to : ℕ) (run : Run) : Type 0 where
  pub by : (next : Run) (cells : Cells) (p : Point) → IsWhole code.qubits p.state → ((fuel : ℕ) → fuel ≤ p.fuel → GoesOn code fuel to next)
      → LookAlike (tail code at cells p) (then_do run next p)

-- and so with the unit of fuel that each statement spends first
abbrev pub StatementsLand : Type 0
StatementsLand =
    (code : Parts) (scope : Scope) (site : Site) (slots : ℕ) (lengths choices : Counts) (codes : Codes) (exits : Exits) (calls : Calls) (spot : Spot)
    (action : TypedAction) (at : ℕ) → ActionFits code scope site slots (suc at) action
    → LinesStand code at (statement_code lengths codes (Simple spot action) exits site at)
    → FuelLands code at (at + statement_length lengths (Simple spot action)) (tree choices calls (Simple spot action) site)

-- statements in turn, none of which has a body: each fits behind the choices of those before it
abbrev pub StatementFits : Parts → Scope → Site → ℕ → ℕ → TypedStatement → Type 0
StatementFits code scope site slots at (Simple spot action) = ActionFits code scope site slots (suc at) action
StatementFits code scope site slots at _ = ⊥

abbrev pub StatementsFit : Parts → Scope → ℕ → Counts → Counts → Site → ℕ → List TypedStatement → Type 0
StatementsFit code scope slots lengths choices site at [] = Unit {0}
StatementsFit code scope slots lengths choices site at (s ∷ ss) =
    StatementFits code scope site slots at s
    × StatementsFit code scope slots lengths choices (past (choices_of choices s) site) (at + statement_length lengths s) ss

-- the code of each statement stands where the lengths of those before it say
abbrev pub StatementsStand : Parts → Counts → Codes → Exits → Site → ℕ → List TypedStatement → Type 0
StatementsStand code lengths codes exits site at [] = Unit {0}
StatementsStand code lengths codes exits site at (s ∷ ss) =
    LinesStand code at (statement_code lengths codes s exits site at)
    × StatementsStand code lengths codes exits site (at + statement_length lengths s) ss

abbrev pub StraightCodeLands : Type 0
StraightCodeLands =
    (code : Parts) (scope : Scope) (slots : ℕ) (lengths choices : Counts) (codes : Codes) (exits : Exits) (calls : Calls) (statements : List TypedStatement)
    (site : Site) (at : ℕ) → StatementsFit code scope slots lengths choices site at statements
    → StatementsStand code lengths codes exits site at statements
    → FuelLands code at (at + list_length lengths statements) (list_tree choices calls statements site)
