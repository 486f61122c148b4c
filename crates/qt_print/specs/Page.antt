-- What is written when the lines of a part are put on a page, for the contracts inside this crate. That it is the canonical text of
-- `specs/Text.antt` is a lemma. A part has a margin, and each of its lines two spaces more for each body of the part.
use Rattle.std.specs.Prelude.{Bool, true, false, ℕ, List, [], ◌∷◌, ◌++◌, map, Option, Some, None, codes}
use Rattle.qt_tree.specs.declared.statement.Statement.{Statement}
use Rattle.qt_lexemes.specs.Lexemes.{Lexeme, semicolon}
use Rattle.qt_lexemes.specs.Page.{Sheet, Makes, put_on, begun, ended}
use Rattle.qt_lexemes.specs.declared.page.Page.{Page}
use Rattle.qt_print.specs.Statements.{Line, all_lines, body_start, body_end, else_lexeme, statement_lines}
use Rattle.qt_print.specs.Text.{margin}

abbrev pub puts : Sheet → List Lexeme → Sheet
puts sheet [] = sheet
puts sheet (lexeme ∷ lexemes) = puts (put_on sheet lexeme) lexemes

-- a statement's lexemes on the line that is begun, its `;`, and the line's end
abbrev pub put_sentence : Sheet → List Lexeme → Sheet
put_sentence sheet lexemes = ended (puts sheet (lexemes ++ semicolon ∷ []))

abbrev pub put_line : Sheet → List ℕ → List Lexeme → Sheet
put_line sheet before lexemes = ended (puts (begun sheet before) lexemes)

abbrev pub put_lines : Sheet → List ℕ → List Line → Sheet
put_lines sheet before [] = sheet
put_lines sheet before (line ∷ lines) = put_lines (put_line sheet (before ++ margin line.depth) line.lexemes) before lines

-- a body behind a head, up to its `}`
abbrev pub put_body : Sheet → List ℕ → List (List Line) → Sheet
put_body sheet before parts =
    put_on (begun (put_lines (ended (put_on sheet body_start)) (before ++ codes "  ") (all_lines parts)) before) body_end

-- a head and its body, on a line that is begun
abbrev pub put_block : Sheet → List ℕ → List Lexeme → List (List Line) → Sheet
put_block sheet before head parts = ended (put_body (puts sheet head) before parts)

abbrev pub put_else : Sheet → List ℕ → Option (List (List Line)) → Sheet
put_else sheet before None = sheet
put_else sheet before (Some parts) = put_body (put_on sheet else_lexeme) before parts

abbrev pub put_if : Sheet → List ℕ → List Lexeme → List (List Line) → Option (List (List Line)) → Sheet
put_if sheet before head parts other = ended (put_else (put_body (puts sheet head) before parts) before other)

abbrev pub each_lines : Option (List Statement) → Option (List (List Line))
each_lines None = None
each_lines (Some statements) = Some (map statement_lines statements)

-- what a call puts on a page: lexemes, a statement on a line that is begun, lines with at least a margin
abbrev pub Puts : Page → List Lexeme → Page → Type 0
Puts old lexemes new = Makes (λ sheet. puts sheet lexemes) old new

abbrev pub PutsSentence : Page → List Lexeme → Page → Type 0
PutsSentence old lexemes new = Makes (λ sheet. put_sentence sheet lexemes) old new

abbrev pub PutsLines : Page → List ℕ → List Line → Page → Type 0
PutsLines old before lines new = Makes (λ sheet. put_lines sheet before lines) old new

-- what stands before a part: the lexeme between two of them, unless it is the first
abbrev pub unless_first : Bool → Lexeme → List Lexeme
unless_first true between = []
unless_first false between = between ∷ []
