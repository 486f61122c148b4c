-- The canonical text of a program, byte by byte: its lines, each with two spaces for each body that it stands in, and with
-- one space between two lexemes where the spacing says so. OpenQASM 3.0 live specification, "Comments": white space between
-- tokens has no meaning.
use Rattle.std.specs.Prelude.{ℕ, zero, suc, ◌+◌, List, [], ◌∷◌, ◌++◌, Option, Some, None}
use Rattle.qt_tree.specs.declared.program.Program.{Program}
use Rattle.qt_lexemes.specs.declared.role.Role.{Role}
use Rattle.qt_lexemes.specs.Spacing.{gap}
use Rattle.qt_lexemes.specs.Lexemes.{Lexeme}
use Rattle.qt_print.specs.Statements.{Line}
use Rattle.qt_print.specs.Programs.{program_lines}

-- two spaces for each body
abbrev pub margin : ℕ → List ℕ
margin zero = []
margin (suc depth) = 32 ∷ 32 ∷ margin depth

-- lexemes behind this one on a line
abbrev pub spread : Option Role → List Lexeme → List ℕ
spread last [] = []
spread last (lexeme ∷ lexemes) = gap last lexeme.role ++ (lexeme.text ++ spread (Some lexeme.role) lexemes)

-- a line that stands in so many bodies, and its line feed
abbrev pub line_text : ℕ → List Lexeme → List ℕ
line_text depth lexemes = margin depth ++ (spread None lexemes ++ 10 ∷ [])

-- lines of a part that stands in so many bodies
abbrev pub lines_text : ℕ → List Line → List ℕ
lines_text depth [] = []
lines_text depth (line ∷ lines) = line_text (depth + line.depth) line.lexemes ++ lines_text depth lines

abbrev pub canonical : Program → List ℕ
canonical program = lines_text 0 (program_lines program)
