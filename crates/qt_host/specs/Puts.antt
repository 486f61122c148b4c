-- How much of an answer went out.
use Rattle.std.specs.Prelude.{ℕ, List}
use Rattle.qt_outside.specs.Causes.{Texts}
use Rattle.qt_lines.specs.Puts.{Seen, Whole, Part}
use Rattle.qt_host.specs.Said.{Said, answered}

-- the answer that is said went out whole
abbrev pub Answered : List (List ℕ) → Texts → Seen → Seen → Type 0
Answered words texts before after = (bytes : List ℕ) × Said words texts (answered bytes) × Whole before after bytes

-- a prefix of the answer that is said went out
abbrev pub AnsweredInPart : List (List ℕ) → Texts → Seen → Seen → Type 0
AnsweredInPart words texts before after = (bytes : List ℕ) × Said words texts (answered bytes) × Part before after bytes
