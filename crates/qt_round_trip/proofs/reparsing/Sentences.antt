-- The lexemes of each form of statements, without their breaks into lines, and each form that has bodies without places.
use Rattle.std.proofs.Common.{◌≡◌, ℕ, List, [], ◌∷◌, ◌++◌, map, Option, Some, None, codes, refl, sym, ◌∙◌, ap, append_assoc}
use Rattle.std.proofs.lemmas.List.{append-nil}
use Rattle.qt_tree.specs.declared.expression.Expr.{Expr}
use Rattle.qt_tree.specs.declared.expression.Scalar.{Scalar}
use Rattle.qt_tree.specs.declared.statement.Sequence.{Sequence}
use Rattle.qt_tree.specs.declared.statement.Statement.{Statement, out-Statement}
use Rattle.qt_tree.specs.declared.statement.StatementForm.{StatementForm}
use Rattle.qt_tree.specs.declared.statement.StatementForm.TheVariants as s
use Rattle.qt_tree.specs.declared.statement.StatementForm.TheOpen as o
use Rattle.qt_lexemes.specs.declared.role.Role.TheVariants as r
use Rattle.qt_lexemes.specs.Lexemes.{Lexeme, lexeme, name, semicolon, parenthesized, optional}
use Rattle.qt_print.specs.Expressions.{expr_lexemes, scalar_lexemes}
use Rattle.qt_print.specs.Statements.{Line, line, indented, all_lines, sentence, block, two_blocks, body_start, body_end, else_lexeme, form_lines, statement_lines, condition_lexemes, sequence_lexemes, for_lexemes}
use Rattle.qt_print.proofs.Forms.{if_lines, if_else_lines, while_lines, for_lines}
use Rattle.qt_print.proofs.Lines.{statement_is}
use Rattle.qt_round_trip.specs.Places.{bare_statement, bare_form}
use Rattle.qt_round_trip.proofs.lexemes.Written.{lexemes_of}
use Rattle.qt_round_trip.proofs.Bare.{bare_rolls}
use Rattle.qt_round_trip.proofs.reparsing.Setting.{statements_lexemes}

abbrev pub form_lexemes : StatementForm → List Lexeme
form_lexemes form = lexemes_of (form_lines form)

abbrev pub statement_lexemes : Statement → List Lexeme
statement_lexemes statement = lexemes_of (statement_lines statement)

-- a body with its braces, and what stands behind a body in an `if`
abbrev pub body_lexemes : List Statement → List Lexeme
body_lexemes body = body_start ∷ (statements_lexemes body ++ body_end ∷ [])

abbrev pub otherwise_lexemes : Option (List Statement) → List Lexeme
otherwise_lexemes = optional (λ body. else_lexeme ∷ body_lexemes body)

abbrev pub bare_otherwise : Option (List Statement) → Option (List Statement)
bare_otherwise None = None
bare_otherwise (Some body) = Some (map bare_statement body)

pub lexemes_of_both : (xs ys : List Line) → lexemes_of (xs ++ ys) ≡ lexemes_of xs ++ lexemes_of ys
lexemes_of_both [] ys = refl
lexemes_of_both (x ∷ xs) ys = ap (λ t. x.lexemes ++ t) (lexemes_of_both xs ys) ∙ sym (append_assoc x.lexemes (lexemes_of xs) (lexemes_of ys))

lexemes_of_indented : (xs : List Line) → lexemes_of (indented xs) ≡ lexemes_of xs
lexemes_of_indented [] = refl
lexemes_of_indented (x ∷ xs) = ap (λ t. x.lexemes ++ t) (lexemes_of_indented xs)

pub lexemes_of_sentence : (lexemes : List Lexeme) → lexemes_of (sentence lexemes) ≡ lexemes ++ semicolon ∷ []
lexemes_of_sentence lexemes = append-nil (lexemes ++ semicolon ∷ [])

-- a head, the `{` behind it, and what follows
headed : (head : List Lexeme) (body : List (List Line)) (rest : List Line) → lexemes_of (line (head ++ body_start ∷ []) ++ (indented (all_lines body) ++ rest)) ≡ head ++ body_start ∷ (lexemes_of (all_lines body) ++ lexemes_of rest)
headed head body rest =
    append_assoc head (body_start ∷ []) (lexemes_of (indented (all_lines body) ++ rest))
    ∙ ap (λ t. head ++ body_start ∷ t) (lexemes_of_both (indented (all_lines body)) rest ∙ ap (λ t. t ++ lexemes_of rest) (lexemes_of_indented (all_lines body)))

pub lexemes_of_block : (head : List Lexeme) (body : List (List Line)) → lexemes_of (block head body) ≡ head ++ body_start ∷ (lexemes_of (all_lines body) ++ body_end ∷ [])
lexemes_of_block head body = headed head body (line (body_end ∷ []))

lexemes_of_two : (head : List Lexeme) (body other : List (List Line)) → lexemes_of (two_blocks head body other) ≡ head ++ body_start ∷ (lexemes_of (all_lines body) ++ body_end ∷ else_lexeme ∷ body_start ∷ (lexemes_of (all_lines other) ++ body_end ∷ []))
lexemes_of_two head body other = headed head body (block (body_end ∷ else_lexeme ∷ []) other) ∙ ap (λ t. head ++ body_start ∷ (lexemes_of (all_lines body) ++ t)) (lexemes_of_block (body_end ∷ else_lexeme ∷ []) other)

pub statement_lexemes_is : (statement : Statement) → statement_lexemes statement ≡ form_lexemes (out-Statement statement).form
statement_lexemes_is statement = ap lexemes_of (statement_is statement)

-- a form of one line
pub sentence_lexemes : {lines : List Line} (lexemes : List Lexeme) → lines ≡ sentence lexemes → lexemes_of lines ≡ lexemes ++ semicolon ∷ []
sentence_lexemes lexemes e = ap lexemes_of e ∙ lexemes_of_sentence lexemes

pub if_is : (condition : Expr) (body : List Statement) (other : Option (List Statement)) → form_lexemes (s.If condition body other) ≡ lexeme r.Head (codes "if") ∷ (parenthesized (expr_lexemes condition) ++ (body_lexemes body ++ otherwise_lexemes other))
if_is condition body None =
    ap lexemes_of (if_lines condition body)
    ∙ (lexemes_of_block (condition_lexemes (codes "if") condition) (map statement_lines body)
    ∙ ap (λ t. lexeme r.Head (codes "if") ∷ (parenthesized (expr_lexemes condition) ++ t)) (sym (append-nil (body_lexemes body))))
if_is condition body (Some other) =
    ap lexemes_of (if_else_lines condition body other)
    ∙ (lexemes_of_two (condition_lexemes (codes "if") condition) (map statement_lines body) (map statement_lines other)
    ∙ ap (λ t. lexeme r.Head (codes "if") ∷ (parenthesized (expr_lexemes condition) ++ body_start ∷ t)) (sym (append_assoc (statements_lexemes body) (body_end ∷ []) (else_lexeme ∷ body_lexemes other))))

pub while_is : (condition : Expr) (body : List Statement) → form_lexemes (s.While condition body) ≡ lexeme r.Head (codes "while") ∷ (parenthesized (expr_lexemes condition) ++ body_lexemes body)
while_is condition body =
    ap lexemes_of (while_lines condition body)
    ∙ lexemes_of_block (condition_lexemes (codes "while") condition) (map statement_lines body)

pub for_is : (scalar : Scalar) (text : List ℕ) (values : Sequence) (body : List Statement)
    → form_lexemes (s.For scalar text values body) ≡ lexeme r.Head (codes "for") ∷ (scalar_lexemes scalar ++ name text ∷ lexeme r.In (codes "in") ∷ (sequence_lexemes values ++ body_lexemes body))
for_is scalar text values body =
    ap lexemes_of (for_lines scalar text values body)
    ∙ (lexemes_of_block (for_lexemes scalar text values) (map statement_lines body)
    ∙ ap (λ t. lexeme r.Head (codes "for") ∷ t) (append_assoc (scalar_lexemes scalar) (name text ∷ lexeme r.In (codes "in") ∷ sequence_lexemes values) (body_lexemes body)))

pub bare_if : (condition : Expr) (body : List Statement) (other : Option (List Statement)) → bare_form (s.If condition body other) ≡ s.If condition (map bare_statement body) (bare_otherwise other)
bare_if condition body None = ap bare_form (sym (s.rolls-If condition body None)) ∙ (bare_rolls (o.If condition body None) ∙ s.rolls-If condition (map bare_statement body) None)
bare_if condition body (Some other) = ap bare_form (sym (s.rolls-If condition body (Some other))) ∙ (bare_rolls (o.If condition body (Some other)) ∙ s.rolls-If condition (map bare_statement body) (Some (map bare_statement other)))

pub bare_while : (condition : Expr) (body : List Statement) → bare_form (s.While condition body) ≡ s.While condition (map bare_statement body)
bare_while condition body = ap bare_form (sym (s.rolls-While condition body)) ∙ (bare_rolls (o.While condition body) ∙ s.rolls-While condition (map bare_statement body))

pub bare_for : (scalar : Scalar) (text : List ℕ) (values : Sequence) (body : List Statement) → bare_form (s.For scalar text values body) ≡ s.For scalar text values (map bare_statement body)
bare_for scalar text values body =
    ap bare_form (sym (s.rolls-For scalar text values body)) ∙ (bare_rolls (o.For scalar text values body) ∙ s.rolls-For scalar text values (map bare_statement body))
