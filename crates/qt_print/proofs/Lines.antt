-- Putting the lines of statements on a page, and the lines of each form of the tree.
use Rattle.std.proofs.Common.{◌≡◌, ℕ, ◌+◌, List, [], ◌∷◌, ◌++◌, map, Option, Some, None, codes, refl, ap, sym, ◌∙◌, append_assoc, get_or, drop, length, ◌<◌, add-one, drop-cons, suc}
use Rattle.std.proofs.lemmas.List.{append-nil}
use Rattle.qt_tree.specs.declared.expression.CompoundOperator.{CompoundOperator}
use Rattle.qt_tree.specs.declared.expression.Expr.{Expr}
use Rattle.qt_tree.specs.declared.expression.Scalar.{Scalar}
use Rattle.qt_tree.specs.declared.label.Label.{Label}
use Rattle.qt_tree.specs.declared.statement.Operand.{Operand}
use Rattle.qt_tree.specs.declared.statement.Target.{Target}
use Rattle.qt_tree.specs.declared.statement.Right.{Right}
use Rattle.qt_tree.specs.declared.statement.GateCall.{GateCall}
use Rattle.qt_tree.specs.declared.statement.Sequence.{Sequence}
use Rattle.qt_tree.specs.declared.statement.Statement.{Statement, out-Statement}
use Rattle.qt_tree.specs.declared.statement.StatementForm.{StatementForm}
use Rattle.qt_tree.specs.declared.statement.StatementForm.TheVariants as s
use Rattle.qt_tree.specs.declared.statement.StatementForm.TheFolds.{fold_out-Statement}
use Rattle.qt_lexemes.specs.Lexemes.{Lexeme, semicolon}
use Rattle.qt_print.specs.Statements.{Line, line, indented, all_lines, sentence, block, two_blocks, body_start, body_end, else_lexeme, form_step, statement_step, form_lines, statement_lines, declaration_lexemes, register_lexemes, constant_lexemes, alias_lexemes, assignment_lexemes, compound_lexemes, measurement_lexemes, reset_lexemes, barrier_lexemes, call_lexemes, subroutine_lexemes, condition_lexemes, for_lexemes, single_lexemes, return_lexemes}
use Rattle.qt_lexemes.specs.Page.{Sheet, IsKept, Makes, sheet_of, put_on, begun, ended}
use Rattle.qt_lexemes.specs.declared.page.Page.{Page}
use Rattle.qt_print.specs.Page.{Puts, PutsLines, puts, put_sentence, put_line, put_lines, put_body, put_block, put_if, each_lines}
use Rattle.qt_print.specs.Text.{margin}
use Rattle.qt_print.proofs.Puts.{puts_both}
use Rattle.qt_print.proofs.Forms.{declaration_lines, register_lines, constant_lines, alias_lines, assignment_lines, compound_lines, measurement_lines, reset_lines, barrier_lines, gate_lines, subroutine_lines, break_lines, continue_lines, return_lines, end_lines, while_lines, for_lines, if_lines, if_else_lines}

pub lines_both : (sheet : Sheet) (before : List ℕ) (xs ys : List Line) → put_lines sheet before (xs ++ ys) ≡ put_lines (put_lines sheet before xs) before ys
lines_both sheet before [] ys = refl
lines_both sheet before (x ∷ xs) ys = lines_both (put_line sheet (before ++ margin x.depth) x.lexemes) before xs ys

line_put : (sheet : Sheet) (before : List ℕ) (lexemes : List Lexeme) → put_lines sheet before (line lexemes) ≡ put_line sheet before lexemes
line_put sheet before lexemes = ap (λ t. put_line sheet t lexemes) (append-nil before)

deeper_by : (before : List ℕ) (inner : ℕ) → before ++ margin (inner + 1) ≡ (before ++ codes "  ") ++ margin inner
deeper_by before inner = rw add-one (sym (append_assoc before (codes "  ") (margin inner)))

indented_put : (sheet : Sheet) (before : List ℕ) (lines : List Line) → put_lines sheet before (indented lines) ≡ put_lines sheet (before ++ codes "  ") lines
indented_put sheet before [] = refl
indented_put sheet before (x ∷ xs) =
    indented_put (put_line sheet (before ++ margin (x.depth + 1)) x.lexemes) before xs
    ∙ ap (λ t. put_lines (put_line sheet t x.lexemes) (before ++ codes "  ") xs) (deeper_by before x.depth)

pub sentence_put : (sheet : Sheet) (before : List ℕ) (lexemes : List Lexeme) → put_lines sheet before (sentence lexemes) ≡ put_sentence (begun sheet before) lexemes
sentence_put sheet before lexemes = line_put sheet before (lexemes ++ semicolon ∷ [])

-- the lines of a head and of its body, up to the `}`
opened : (sheet : Sheet) (before : List ℕ) (head : List Lexeme) (parts : List (List Line)) → put_lines sheet before (line (head ++ body_start ∷ []) ++ indented (all_lines parts)) ≡ put_lines (ended (put_on (puts (begun sheet before) head) body_start)) (before ++ codes "  ") (all_lines parts)
opened sheet before head parts =
    lines_both sheet before (line (head ++ body_start ∷ [])) (indented (all_lines parts))
    ∙ (ap (λ t. put_lines t before (indented (all_lines parts))) (line_put sheet before (head ++ body_start ∷ []) ∙ ap ended (puts_both (begun sheet before) head (body_start ∷ [])))
    ∙ indented_put (ended (put_on (puts (begun sheet before) head) body_start)) before (all_lines parts))

regroup : (xs ys zs : List Line) → xs ++ (ys ++ zs) ≡ (xs ++ ys) ++ zs
regroup [] ys zs = refl
regroup (x ∷ xs) ys zs = ap (λ t. x ∷ t) (regroup xs ys zs)

pub block_put : (sheet : Sheet) (before : List ℕ) (head : List Lexeme) (parts : List (List Line)) → put_lines sheet before (block head parts) ≡ put_block (begun sheet before) before head parts
block_put sheet before head parts =
    ap (put_lines sheet before) (regroup (line (head ++ body_start ∷ [])) (indented (all_lines parts)) (line (body_end ∷ [])))
    ∙ (lines_both sheet before (line (head ++ body_start ∷ []) ++ indented (all_lines parts)) (line (body_end ∷ []))
    ∙ (ap (λ t. put_lines t before (line (body_end ∷ []))) (opened sheet before head parts)
    ∙ line_put (put_lines (ended (put_on (puts (begun sheet before) head) body_start)) (before ++ codes "  ") (all_lines parts)) before (body_end ∷ [])))

pub two_blocks_put : (sheet : Sheet) (before : List ℕ) (head : List Lexeme) (parts other : List (List Line)) → put_lines sheet before (two_blocks head parts other) ≡ put_if (begun sheet before) before head parts (Some other)
two_blocks_put sheet before head parts other =
    ap (put_lines sheet before) (regroup (line (head ++ body_start ∷ [])) (indented (all_lines parts)) (block (body_end ∷ else_lexeme ∷ []) other))
    ∙ (lines_both sheet before (line (head ++ body_start ∷ []) ++ indented (all_lines parts)) (block (body_end ∷ else_lexeme ∷ []) other)
    ∙ (ap (λ t. put_lines t before (block (body_end ∷ else_lexeme ∷ []) other)) (opened sheet before head parts)
    ∙ block_put (put_lines (ended (put_on (puts (begun sheet before) head) body_start)) (before ++ codes "  ") (all_lines parts)) before (body_end ∷ else_lexeme ∷ []) other))

-- what of lines is still to be put, where a part of them stands on the page
abbrev pub LinesLeft : List ℕ → Page → List Line → Page → List Line → Type 0
LinesLeft before start whole page rest = IsKept page → IsKept start × (put_lines (sheet_of page) before rest ≡ put_lines (sheet_of start) before whole)

-- a turn of a loop that puts the lines of parts one after another
module _ {A : Type 0} (lines : A → List Line) where
  pub lines_turn : (before : List ℕ) (start page after : Page) (whole : List Line) (xs : List A) (i : ℕ) (x : A) → i < length xs → x ≡ get_or xs i x → Makes (λ sheet. put_lines sheet before (lines x)) page after
      → LinesLeft before start whole page (all_lines (map lines (drop i xs))) → LinesLeft before start whole after (all_lines (map lines (drop (i + 1) xs)))
  lines_turn before start page after whole xs i x lt e put left kept =
      let drops : map lines (drop i xs) ≡ lines x ∷ map lines (drop (i + 1) xs) = rw (add-one, drop-cons xs i x) (ap (λ t. lines t ∷ map lines (drop (suc i) xs)) (sym e)) in
      let rest = all_lines (map lines (drop (i + 1) xs)) in
      let (kept_page, put_is) = put kept in
      let (kept_start, left_is) = left kept_page in (
        kept_start,
        ap (λ t. put_lines t before rest) put_is
            ∙ (sym (lines_both (sheet_of page) before (lines x) rest) ∙ (ap (λ t. put_lines (sheet_of page) before (all_lines t)) (sym drops) ∙ left_is)),
      )

pub statement_is : (statement : Statement) → statement_lines statement ≡ form_lines (out-Statement statement).form
statement_is statement = fold_out-Statement (List Line) (List Line) form_step statement_step statement

module _ (sheet : Sheet) (before : List ℕ) where
  -- a form of one line
  line_of : {lines : List Line} (lexemes : List Lexeme) → lines ≡ sentence lexemes → put_lines sheet before lines ≡ put_sentence (begun sheet before) lexemes
  line_of lexemes e = ap (put_lines sheet before) e ∙ sentence_put sheet before lexemes

  pub declaration_put : (scalar : Scalar) (text : Label) (value : Option Right) → put_lines sheet before (form_lines (s.Declaration scalar text value)) ≡ put_sentence (begun sheet before) (declaration_lexemes scalar text value)
  declaration_put scalar text value = line_of (declaration_lexemes scalar text value) (declaration_lines scalar text value)

  pub register_put : (text : Label) (size : Option Expr) → put_lines sheet before (form_lines (s.BitRegister text size)) ≡ put_sentence (begun sheet before) (register_lexemes (codes "creg") text size)
  register_put text size = line_of (register_lexemes (codes "creg") text size) (register_lines text size)

  pub constant_put : (scalar : Scalar) (text : Label) (value : Expr) → put_lines sheet before (form_lines (s.Constant scalar text value)) ≡ put_sentence (begun sheet before) (constant_lexemes scalar text value)
  constant_put scalar text value = line_of (constant_lexemes scalar text value) (constant_lines scalar text value)

  pub alias_put : (text : Label) (parts : List Operand) → put_lines sheet before (form_lines (s.Alias text parts)) ≡ put_sentence (begun sheet before) (alias_lexemes text parts)
  alias_put text parts = line_of (alias_lexemes text parts) (alias_lines text parts)

  pub assignment_put : (target : Target) (value : Right) → put_lines sheet before (form_lines (s.Assignment target value)) ≡ put_sentence (begun sheet before) (assignment_lexemes target value)
  assignment_put target value = line_of (assignment_lexemes target value) (assignment_lines target value)

  pub compound_put : (target : Target) (op : CompoundOperator) (value : Expr) → put_lines sheet before (form_lines (s.CompoundAssignment target op value)) ≡ put_sentence (begun sheet before) (compound_lexemes target op value)
  compound_put target op value = line_of (compound_lexemes target op value) (compound_lines target op value)

  pub measurement_put : (qubits : Operand) (target : Option Target) → put_lines sheet before (form_lines (s.Measure qubits target)) ≡ put_sentence (begun sheet before) (measurement_lexemes qubits target)
  measurement_put qubits target = line_of (measurement_lexemes qubits target) (measurement_lines qubits target)

  pub reset_put : (qubits : Operand) → put_lines sheet before (form_lines (s.Reset qubits)) ≡ put_sentence (begun sheet before) (reset_lexemes qubits)
  reset_put qubits = line_of (reset_lexemes qubits) (reset_lines qubits)

  pub barrier_put : (qubits : List Operand) → put_lines sheet before (form_lines (s.Barrier qubits)) ≡ put_sentence (begun sheet before) (barrier_lexemes qubits)
  barrier_put qubits = line_of (barrier_lexemes qubits) (barrier_lines qubits)

  pub gate_put : (call : GateCall) → put_lines sheet before (form_lines (s.Gate call)) ≡ put_sentence (begun sheet before) (call_lexemes call)
  gate_put call = line_of (call_lexemes call) (gate_lines call)

  pub subroutine_put : (text : Label) (arguments : List Expr) → put_lines sheet before (form_lines (s.Call text arguments)) ≡ put_sentence (begun sheet before) (subroutine_lexemes text arguments)
  subroutine_put text arguments = line_of (subroutine_lexemes text arguments) (subroutine_lines text arguments)

  pub break_put : put_lines sheet before (form_lines s.Break) ≡ put_sentence (begun sheet before) (single_lexemes (codes "break"))
  break_put = line_of (single_lexemes (codes "break")) break_lines

  pub continue_put : put_lines sheet before (form_lines s.Continue) ≡ put_sentence (begun sheet before) (single_lexemes (codes "continue"))
  continue_put = line_of (single_lexemes (codes "continue")) continue_lines

  pub return_put : (value : Option Right) → put_lines sheet before (form_lines (s.Return value)) ≡ put_sentence (begun sheet before) (return_lexemes value)
  return_put value = line_of (return_lexemes value) (return_lines value)

  pub end_put : put_lines sheet before (form_lines s.End) ≡ put_sentence (begun sheet before) (single_lexemes (codes "end"))
  end_put = line_of (single_lexemes (codes "end")) end_lines

  pub if_put : (condition : Expr) (body : List Statement) (other : Option (List Statement)) → put_lines sheet before (form_lines (s.If condition body other)) ≡ put_if (begun sheet before) before (condition_lexemes (codes "if") condition) (map statement_lines body) (each_lines other)
  if_put condition body None = ap (put_lines sheet before) (if_lines condition body) ∙ block_put sheet before (condition_lexemes (codes "if") condition) (map statement_lines body)
  if_put condition body (Some other) = ap (put_lines sheet before) (if_else_lines condition body other) ∙ two_blocks_put sheet before (condition_lexemes (codes "if") condition) (map statement_lines body) (map statement_lines other)

  pub while_put : (condition : Expr) (body : List Statement) → put_lines sheet before (form_lines (s.While condition body)) ≡ put_block (begun sheet before) before (condition_lexemes (codes "while") condition) (map statement_lines body)
  while_put condition body = ap (put_lines sheet before) (while_lines condition body) ∙ block_put sheet before (condition_lexemes (codes "while") condition) (map statement_lines body)

  pub for_put : (scalar : Scalar) (text : Label) (values : Sequence) (body : List Statement) → put_lines sheet before (form_lines (s.For scalar text values body)) ≡ put_block (begun sheet before) before (for_lexemes scalar text values) (map statement_lines body)
  for_put scalar text values body = ap (put_lines sheet before) (for_lines scalar text values body) ∙ block_put sheet before (for_lexemes scalar text values) (map statement_lines body)

pub ruleset forms = (declaration_put, register_put, constant_put, alias_put, assignment_put, compound_put, measurement_put, reset_put, barrier_put, gate_put, subroutine_put, break_put, continue_put, return_put, end_put, if_put, while_put, for_put)

-- what is put where an `if` stands
pub if_puts : (page start after : Page) (before : List ℕ) (form : StatementForm) (condition : Expr) (body : List Statement) (other : Option (List Statement)) → form ≡ s.If condition body other → Makes (λ sheet. begun sheet before) page start
    → Makes (λ sheet. put_if sheet before (condition_lexemes (codes "if") condition) (map statement_lines body) (each_lines other)) start after → PutsLines page before (form_lines form) after
if_puts page start after before form condition body other e begins puts_if kept =
    let (kept_start, after_is) = puts_if kept in
    let (kept_page, start_is) = begins kept_start in (
      kept_page,
      after_is
          ∙ (ap (λ t. put_if t before (condition_lexemes (codes "if") condition) (map statement_lines body) (each_lines other)) start_is
          ∙ (sym (if_put (sheet_of page) before condition body other) ∙ ap (λ t. put_lines (sheet_of page) before (form_lines t)) (sym e))),
    )

-- what is put of a head and a body, step by step
pub block_puts : (page start headed bodied after : Page) (before : List ℕ) (head : List Lexeme) (parts : List (List Line)) → Makes (λ sheet. begun sheet before) page start → Puts start head headed → Makes (λ sheet. put_body sheet before parts) headed bodied
    → Makes ended bodied after → PutsLines page before (block head parts) after
block_puts page start headed bodied after before head parts begins puts_head puts_body ends kept =
    let (kept_bodied, after_is) = ends kept in
    let (kept_headed, bodied_is) = puts_body kept_bodied in
    let (kept_start, headed_is) = puts_head kept_headed in
    let (kept_page, start_is) = begins kept_start in (
      kept_page,
      after_is
          ∙ (ap ended bodied_is
          ∙ (ap (λ t. ended (put_body t before parts)) headed_is
          ∙ (ap (λ t. ended (put_body (puts t head) before parts)) start_is ∙ sym (block_put (sheet_of page) before head parts)))),
    )
