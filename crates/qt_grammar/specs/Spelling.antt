-- Which tokens spell a form of the grammar with which tree, and which tokens open it, within limits: so many levels of forms with
-- names, and so many operators in one expression that stands in no other. How they are found is another matter: nothing here reads
-- from the left. That a level is what the language counts is said in `Depth`.
use Rattle.std.specs.Prelude.{◌≡◌, ℕ, zero, suc, ◌-◌, Option, None}
use Rattle.qt_terminals.specs.Terminals.{PlacedTerminal}
use Rattle.qt_grammar.specs.Sorts.{Sort, Value, Name, sort, program}
use Rattle.qt_grammar.specs.Form.{Form, Reading, Opening, ReadsBy, OpensBy}
use Rattle.qt_grammar.specs.Language.{rule, whole}

-- ---- the limits of the language

-- how many levels of forms with names, and how many operators in one expression that stands in no other
pub record Limits : Type 0 where
  pub levels : ℕ
  pub operators : ℕ

-- no token of a program stands deeper than 64, and no expression that stands in no other has more than 256 operators
abbrev pub language_limits : Limits
language_limits = record { levels = 64; operators = 256 }

-- the same for a form that itself stands at some depth, which is no more than the levels
abbrev pub limits_at : ℕ → Limits
limits_at depth = record { levels = language_limits.levels - depth; operators = language_limits.operators }

-- ---- forms with names

-- what a form with a name reads and opens within so many levels
module _ (ts : ℕ → PlacedTerminal) (cap : ℕ) where
  abbrev pub ReadsTo : ℕ → (n : Name) → Option ℕ → Reading (Value (sort n))
  ReadsTo zero n outer = λ i v j. ⊥
  ReadsTo (suc d) n outer = ReadsBy ts cap (ReadsTo d) (rule n) outer

  abbrev pub OpensTo : ℕ → (n : Name) → Option ℕ → Opening
  OpensTo zero n outer = λ i j. j ≡ i
  OpensTo (suc d) n outer = OpensBy ts cap (ReadsTo d) (OpensTo d) (rule n) outer

-- ---- any form

-- a form, read from a place on; `outer` is the number of operators before the outermost expression round that place
module _ (ts : ℕ → PlacedTerminal) (s : Sort) (f : Form s) (outer : Option ℕ) (i : ℕ) where
  -- the tokens up to place j spell a tree, within limits
  abbrev pub Spells : Limits → Value s → ℕ → Type 0
  Spells l v j = ReadsBy ts l.operators (ReadsTo ts l.operators l.levels) f outer i v j

  -- the tokens up to place j open the form, within limits
  abbrev pub Opens : Limits → ℕ → Type 0
  Opens l j = OpensBy ts l.operators (ReadsTo ts l.operators l.levels) (OpensTo ts l.operators l.levels) f outer i j

  -- the same, whatever the limits
  abbrev pub SpellsAtAll : Value s → ℕ → Type 0
  SpellsAtAll v j = (l : Limits) × Spells l v j

  abbrev pub OpensAtAll : ℕ → Type 0
  OpensAtAll j = (l : Limits) × Opens l j

-- a program, which ends with the end of the text
module _ (ts : ℕ → PlacedTerminal) where
  abbrev pub SpellsProgram : Limits → Value program → Type 0
  SpellsProgram l p = (j : ℕ) × Spells ts program whole None 0 l p j
