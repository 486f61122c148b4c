-- What is put on a page is the text of the lexemes and the lines.
use Rattle.std.proofs.Common.{◌≡◌, ℕ, ◌+◌, List, [], ◌∷◌, ◌++◌, map, Some, None, ap, sym, ◌∙◌, append_assoc, arith}
use Rattle.std.proofs.lemmas.List.{append-nil}
use Rattle.qt_tree.specs.declared.program.Program.{Program}
use Rattle.qt_lexemes.specs.Lexemes.{Lexeme}
use Rattle.qt_print.specs.Statements.{Line, all_lines}
use Rattle.qt_print.specs.Programs.{version_lines, item_lines, program_lines}
use Rattle.qt_lexemes.specs.Spacing.{gap}
use Rattle.qt_print.specs.Text.{margin, spread, line_text, lines_text, canonical}
use Rattle.qt_lexemes.specs.Page.{Sheet, blank, put_on, begun, ended}
use Rattle.qt_print.specs.Page.{puts, put_line, put_lines}
use Rattle.qt_print.proofs.Lines.{lines_both}

puts_text : (sheet : Sheet) (lexemes : List Lexeme) → (puts sheet lexemes).text ≡ sheet.text ++ spread sheet.last lexemes
unfolding put_on
puts_text sheet [] = sym (append-nil sheet.text)
puts_text sheet (lexeme ∷ lexemes) =
    puts_text (put_on sheet lexeme) lexemes
    ∙ (append_assoc sheet.text (gap sheet.last lexeme.role ++ lexeme.text) (spread (Some lexeme.role) lexemes)
    ∙ ap (λ t. sheet.text ++ t) (append_assoc (gap sheet.last lexeme.role) lexeme.text (spread (Some lexeme.role) lexemes)))

put_line_text : (sheet : Sheet) (depth : ℕ) (lexemes : List Lexeme) → (put_line sheet (margin depth) lexemes).text ≡ sheet.text ++ line_text depth lexemes
unfolding begun ended
put_line_text sheet depth lexemes =
    ap (λ t. t ++ 10 ∷ []) (puts_text (begun sheet (margin depth)) lexemes)
    ∙ (append_assoc (sheet.text ++ margin depth) (spread None lexemes) (10 ∷ [])
    ∙ append_assoc sheet.text (margin depth) (spread None lexemes ++ 10 ∷ []))

put_lines_text : (sheet : Sheet) (lines : List Line) → (put_lines sheet [] lines).text ≡ sheet.text ++ lines_text 0 lines
put_lines_text sheet [] = sym (append-nil sheet.text)
put_lines_text sheet (line ∷ lines) =
    let outermost : line.depth ≡ 0 + line.depth = omega arith in
    put_lines_text (put_line sheet (margin line.depth) line.lexemes) lines
    ∙ (ap (λ t. t ++ lines_text 0 lines) (put_line_text sheet line.depth line.lexemes)
    ∙ (append_assoc sheet.text (line_text line.depth line.lexemes) (lines_text 0 lines)
    ∙ ap (λ t. sheet.text ++ (line_text t line.lexemes ++ lines_text 0 lines)) outermost))

pub printed : (program : Program) → (put_lines (put_lines blank [] (all_lines (map version_lines program.versions))) [] (all_lines (map item_lines program.items))).text ≡ canonical program
unfolding blank
printed program = ap (λ t. t.text) (sym (lines_both blank [] (all_lines (map version_lines program.versions)) (all_lines (map item_lines program.items)))) ∙ put_lines_text blank (program_lines program)
