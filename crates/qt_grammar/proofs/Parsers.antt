-- What the parsers cite: a function that answers what reading a form answers keeps its promise.
use Rattle.std.proofs.Common.{◌≡◌, ◌≢◌, ℕ, ◌-◌, List, length, true, Option, None, Result, Err, refl}
use Rattle.qt_terminals.specs.Terminals.{PlacedTerminal, stream, with_terminal}
use Rattle.qt_terminals.specs.declared.terminal.Terminal.TheVariants as w
use Rattle.qt_grammar.specs.declared.refusal.Refusal.{Refusal}
use Rattle.qt_grammar.specs.declared.refusal.Refusal.TheVariants.{Syntax, OutOfMemory}
use Rattle.qt_grammar.specs.Sorts.{Sort, Value, expr, program}
use Rattle.qt_grammar.specs.Form.{Form}
use Rattle.qt_grammar.specs.Outcome.{Outcome, Says, Tells}
use Rattle.qt_grammar.specs.Language.{expression, whole}
use Rattle.qt_grammar.specs.Spelling.{Limits, language_limits, limits_at}
use Rattle.qt_grammar.specs.Reading.{run, run_to}
use Rattle.qt_grammar.specs.Promise.{Answers, Parses, CouldBegin}
use Rattle.qt_grammar.proofs.LookaheadTests.{good}
use Rattle.qt_grammar.proofs.Tables.{tested_whole, tested_expression}
use Rattle.qt_grammar.proofs.Limits.{given}
use Rattle.qt_grammar.proofs.Promises.{answers, answers_said, parses}
use Rattle.qt_grammar.proofs.Begins.{could_begin, could_not_begin}
use Rattle.qt_grammar.proofs.Lists.{reading, past}

-- any form that passes the test, at any place
pub form_answers : (all : List PlacedTerminal) (l : Limits) (s : Sort) (f : Form s) → good f ≡ true → (outer : Option ℕ) (i : ℕ) (r : Result (Value s × ℕ) Refusal) → Says (reading all l f outer i) r → Answers (stream all) s f outer i l r
unfolding reading
form_answers all l s f g outer i r h = answers_said (stream all) s f g outer i (length all) (past all) l r h

pub form_outcome : (all : List PlacedTerminal) (l : Limits) (s : Sort) (f : Form s) → good f ≡ true → (outer : Option ℕ) (i : ℕ) → Answers (stream all) s f outer i l (reading all l f outer i)
unfolding reading
form_outcome all l s f g outer i = answers (stream all) s f g outer i (length all) (past all) l (reading all l f outer i) refl

-- memory doesn't run out in a definition
pub form_decides : (all : List PlacedTerminal) (l : Limits) (s : Sort) (f : Form s) → good f ≡ true → (outer : Option ℕ) (i : ℕ) → reading all l f outer i ≢ Err OutOfMemory
unfolding reading
form_decides all l s f g outer i h = given (stream all) (length all) (past all) l.operators l.levels f g outer i (Err OutOfMemory) h

-- ---- for the parsers, whose outcomes are `run` of the stream of all tokens, within the limits of the language

-- an expression that is read from a place on, whose first token has this depth
pub expression_answers : (all : List PlacedTerminal) (depth at : ℕ) (r : Result (Value expr × ℕ) Refusal)
    → Says (run (stream all) language_limits.operators (length all) (run_to (stream all) language_limits.operators (length all) (language_limits.levels - depth)) expression None at) r
    → Answers (stream all) expr expression None at (limits_at depth) r
unfolding reading
expression_answers all depth at r h = form_answers all (limits_at depth) expr expression tested_expression None at r h

-- a program
pub program_parses : (all : List PlacedTerminal) (r : Result (Value program) Refusal) → Tells (run (stream all) language_limits.operators (length all) (run_to (stream all) language_limits.operators (length all) language_limits.levels) whole None 0) r → Parses (stream all) language_limits r
unfolding reading
program_parses all r h = parses (stream all) language_limits r (reading all language_limits whole None 0) (form_outcome all language_limits program whole tested_whole None 0) h

-- The parser was refused at place n, and read again with the terminal `barrier` there. Where it was refused there again, nothing
-- could begin there; else a statement, or a call in a gate's body, could.
module _ (all : List PlacedTerminal) (n : ℕ) (refused : run (stream all) language_limits.operators (length all) (run_to (stream all) language_limits.operators (length all) language_limits.levels) whole None 0 ≡ Err (Syntax n)) where
  abbrev pub Again : Outcome (Value program)
  Again = run (stream (with_terminal all n w.Barrier)) language_limits.operators (length (with_terminal all n w.Barrier)) (run_to (stream (with_terminal all n w.Barrier)) language_limits.operators (length (with_terminal all n w.Barrier)) language_limits.levels) whole None 0

  pub barrier_begins : (r : Result (Value program) Refusal) → Tells Again r → r ≢ Err (Syntax n) → r ≢ Err OutOfMemory → CouldBegin all n
  unfolding reading
  barrier_begins r h ne m = could_begin all language_limits n refused r h ne m

  pub barrier_refused : Again ≡ Err (Syntax n) → CouldBegin all n → ⊥
  unfolding reading
  barrier_refused h o = could_not_begin all language_limits n refused h o
