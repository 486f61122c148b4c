-- The laws of the grammar and of reading it.
use Rattle.std.specs.Prelude.{◌≡◌, ◌≢◌, ℕ, ◌≤◌, ◌<◌, ◌↔◌, List, Option, None, Result, Ok, Err}
use Rattle.qt_terminals.specs.Terminals.{PlacedTerminal, stream}
use Rattle.qt_grammar.specs.declared.refusal.Refusal.{Refusal}
use Rattle.qt_grammar.specs.declared.refusal.Refusal.TheVariants.{Syntax, Nest, OutOfMemory}
use Rattle.qt_grammar.specs.Sorts.{Sort, Value, expr, program}
use Rattle.qt_grammar.specs.Outcome.{Outcome}
use Rattle.qt_grammar.specs.Language.{expression, whole}
use Rattle.qt_grammar.specs.Spelling.{Limits, Spells, Opens, OpensAtAll, SpellsProgram}
use Rattle.qt_grammar.specs.Depth.{StandAtOneDepth, Spelling, SpelledAt, Beginning, OpenedAt, SpellsNoDeeper, OpensNoDeeper}
use Rattle.qt_grammar.specs.Operators.{flat_expression, parts_in_turn}
use Rattle.qt_grammar.specs.Form.{Form}
use Rattle.qt_grammar.specs.Promise.{Stopper, FirstTooDeep, Answers, Parses}

-- tokens spell one program at most, whatever the limits
abbrev pub OneProgram : Type 0
OneProgram = (all : List PlacedTerminal) (l m : Limits) (p q : Value program) → SpellsProgram (stream all) l p → SpellsProgram (stream all) m q → p ≡ q

-- for all tokens and limits some answer of a parser is right, and no other: the program, the stopper or the first token too deep
abbrev pub SomeParse : Type 0
SomeParse = (all : List PlacedTerminal) (l : Limits) → (r : Result (Value program) Refusal) × (r ≢ Err OutOfMemory) × Parses (stream all) l r

abbrev pub OneParse : Type 0
OneParse = (all : List PlacedTerminal) (l : Limits) (a b : Result (Value program) Refusal) → a ≢ Err OutOfMemory → b ≢ Err OutOfMemory → Parses (stream all) l a → Parses (stream all) l b → a ≡ b

-- the same for an expression that is read from some place on
abbrev pub SomeAnswer : Type 0
SomeAnswer = (all : List PlacedTerminal) (l : Limits) (outer : Option ℕ) (i : ℕ) → (r : Outcome (Value expr)) × (r ≢ Err OutOfMemory) × Answers (stream all) expr expression outer i l r

abbrev pub OneAnswer : Type 0
OneAnswer = (all : List PlacedTerminal) (l : Limits) (outer : Option ℕ) (i : ℕ) (a b : Outcome (Value expr)) → a ≢ Err OutOfMemory → b ≢ Err OutOfMemory
    → Answers (stream all) expr expression outer i l a → Answers (stream all) expr expression outer i l b → a ≡ b

-- a list of tokens that opens a program opens it at each place on the way
abbrev pub OpensOnTheWay : Type 0
OpensOnTheWay = (all : List PlacedTerminal) (l : Limits) (j k : ℕ) → j ≤ k → Opens (stream all) program whole None 0 l k → Opens (stream all) program whole None 0 l j

-- within larger limits more is spelled
abbrev pub LargerLimitsSpellMore : Type 0
LargerLimitsSpellMore = (all : List PlacedTerminal) (l m : Limits) (p : Value program) → l.levels ≤ m.levels → l.operators ≤ m.operators → SpellsProgram (stream all) l p → SpellsProgram (stream all) m p

-- the first token too deep stands before the stopper
abbrev pub TooDeepBeforeStopper : Type 0
TooDeepBeforeStopper = (all : List PlacedTerminal) (l : Limits) (m n : ℕ) → FirstTooDeep (stream all) program whole None 0 l m → Stopper (stream all) program whole None 0 n → m < n

-- tokens that spell a program within the limits are answered by it
abbrev pub SpelledIsParsed : Type 0
SpelledIsParsed = (all : List PlacedTerminal) (l : Limits) (p : Value program) → SpellsProgram (stream all) l p → Parses (stream all) l (Ok p)

-- where a list opens a program, but not within the limits, some token is too deep, and the first of them is answered
abbrev pub TooDeepIsTold : Type 0
TooDeepIsTold = (all : List PlacedTerminal) (l : Limits) (k : ℕ) → OpensAtAll (stream all) program whole None 0 k → (Opens (stream all) program whole None 0 l k → ⊥) → (n : ℕ) × Parses (stream all) l (Err (Nest n))

-- where there is a stopper, and the list before it opens a program within the limits, the stopper is answered
abbrev pub StopperIsTold : Type 0
StopperIsTold = (all : List PlacedTerminal) (l : Limits) (n : ℕ) → Stopper (stream all) program whole None 0 n → Opens (stream all) program whole None 0 l n → Parses (stream all) l (Err (Syntax n))

-- ---- the limits, in the language's words

-- Within so many levels the tokens spell an expression exactly where they spell it whatever the levels, with no token in more
-- parentheses, brackets, braces, operands of unary operators and right sides of `**`; and the same of what opens it.
abbrev pub LevelsOfExpressionAreDepth : Type 0
LevelsOfExpressionAreDepth = (all : List PlacedTerminal) (l : Limits) (outer : Option ℕ) (i j : ℕ)
    → ((v : Value expr) → Spells (stream all) expr expression outer i l v j ↔ SpellsNoDeeper (stream all) expr expression outer i l v j)
    × (Opens (stream all) expr expression outer i l j ↔ OpensNoDeeper (stream all) expr expression outer i l j)

-- The same of a program, with the bodies that a token stands in, where at least one level is allowed. With none the names of a
-- gate's angles would stand too deep, but they are in no form with a name.
abbrev pub LevelsOfProgramAreDepth : Type 0
LevelsOfProgramAreDepth = (all : List PlacedTerminal) (l : Limits) → 1 ≤ l.levels → (j : ℕ)
    → ((p : Value program) → Spells (stream all) program whole None 0 l p j ↔ SpellsNoDeeper (stream all) program whole None 0 l p j)
    × (Opens (stream all) program whole None 0 l j ↔ OpensNoDeeper (stream all) program whole None 0 l j)

-- each token of a form that is spelled, or opened, stands at one depth, and no other token stands at any
abbrev pub EachTokenStands : Type 0
EachTokenStands = (all : List PlacedTerminal) (operators : ℕ) (s : Sort) (f : Form s) (outer : Option ℕ) (i j : ℕ)
    → ((v : Value s) (h : Spelling (stream all) s f outer i operators v j) → StandAtOneDepth i j (SpelledAt (stream all) s f outer i operators v j h))
    × ((h : Beginning (stream all) s f outer i operators j) → StandAtOneDepth i j (OpenedAt (stream all) s f outer i operators j h))

-- Strengths aside, tokens spell an expression exactly where they spell factors with binary operators between, and the same of what
-- opens it, whatever the limits.
abbrev pub StrengthsOnlyGroup : Type 0
StrengthsOnlyGroup = (all : List PlacedTerminal) (l : Limits) (outer : Option ℕ) (i j : ℕ)
    → (((v : Value expr) × Spells (stream all) expr expression outer i l v j) ↔ ((v : Value expr) × Spells (stream all) expr flat_expression outer i l v j))
    × (Opens (stream all) expr expression outer i l j ↔ Opens (stream all) expr flat_expression outer i l j)

-- Whatever the levels, tokens spell an expression exactly where unary operators, primaries and binary operators in turn spell them;
-- and the same of what opens it.
abbrev pub PartsStandInTurn : Type 0
PartsStandInTurn = (all : List PlacedTerminal) (operators : ℕ) (outer : Option ℕ) (i j : ℕ)
    → (((levels : ℕ) × (v : Value expr) × Spells (stream all) expr expression outer i (record { levels = levels; operators = operators }) v j)
    ↔ ((levels : ℕ) × (v : Value expr) × Spells (stream all) expr parts_in_turn outer i (record { levels = levels; operators = operators }) v j))
    × (((levels : ℕ) × Opens (stream all) expr expression outer i (record { levels = levels; operators = operators }) j)
    ↔ ((levels : ℕ) × Opens (stream all) expr parts_in_turn outer i (record { levels = levels; operators = operators }) j))
