-- Two laws of texts of the first form (specs/Form.antt): a text is that of one program at most, and it is short.
use Rattle.std.specs.Prelude.{◌≡◌, ℕ, ◌≤◌, List, length}
use Rattle.qt_first.specs.declared.program.Program.{Program}
use Rattle.qt_first.specs.Form.{IsFirstFormText}

abbrev pub HasOneReading : List ℕ → Type 0
HasOneReading text = (p r : Program) → IsFirstFormText p text → IsFirstFormText r text → p ≡ r

abbrev pub IsShort : List ℕ → Type 0
IsShort text = (p : Program) → IsFirstFormText p text → length text ≤ 1024
