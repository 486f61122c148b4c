-- A page as far as it is written, for the contracts of what puts lexemes on it.
use Rattle.std.specs.Prelude.{◌≡◌, ℕ, List, [], ◌∷◌, ◌++◌, Option, Some, None, IsFalse}
use Rattle.std.specs.String.{string_bytes}
use Rattle.qt_lexemes.specs.declared.role.Role.{Role}
use Rattle.qt_lexemes.specs.declared.page.Page.{Page}
use Rattle.qt_lexemes.specs.Lexemes.{Lexeme}
use Rattle.qt_lexemes.specs.Spacing.{gap}

-- the text, and the last lexeme of the line that is being written
pub record Sheet : Type 0 where
  pub text : List ℕ
  pub last : Option Role

unfoldable pub sheet_of : Page → Sheet
sheet_of page = record { text = string_bytes page.text; last = page.last }

unfoldable pub blank : Sheet
blank = record { text = []; last = None }

-- one more lexeme stands on the line
unfoldable pub put_on : Sheet → Lexeme → Sheet
put_on sheet lexeme = record { text = sheet.text ++ (gap sheet.last lexeme.role ++ lexeme.text); last = Some lexeme.role }

-- a new line begins with its margin
unfoldable pub begun : Sheet → List ℕ → Sheet
begun sheet margin = record { text = sheet.text ++ margin; last = None }

-- the line ends
unfoldable pub ended : Sheet → Sheet
ended sheet = record { text = sheet.text ++ 10 ∷ []; last = None }

-- nothing that was put on the page is wanting
unfoldable pub IsKept : Page → Type 0
IsKept page = IsFalse page.lost

-- A step on a page: a page that is kept after it was kept before, and the step was made.
abbrev pub Makes : (Sheet → Sheet) → Page → Page → Type 0
Makes step before after = IsKept after → IsKept before × (sheet_of after ≡ step (sheet_of before))
