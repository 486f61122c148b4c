-- Programs that are the same but for places have the same lines, and so the same canonical text.
use Rattle.std.proofs.Common.{◌≡◌, List, [], ◌∷◌, ◌++◌, map, Some, None, codes, refl, sym, ◌∙◌, ap, subst}
use Rattle.qt_tree.specs.declared.statement.Statement.{Statement, roll-Statement}
use Rattle.qt_tree.specs.declared.statement.StatementForm.{StatementForm, roll-StatementForm}
use Rattle.qt_tree.specs.declared.statement.StatementForm.TheOpen as o
use Rattle.qt_tree.specs.declared.statement.StatementForm.TheFolds.{ind-Statement, map-StatementForm}
use Rattle.qt_tree.specs.declared.program.Program.{Program}
use Rattle.qt_tree.specs.declared.program.Item.{Item}
use Rattle.qt_tree.specs.declared.program.Item.TheVariants as i
use Rattle.qt_print.specs.Statements.{Line, block, two_blocks, condition_lexemes, for_lexemes, all_lines, form_step, form_lines, statement_lines}
use Rattle.qt_print.specs.Programs.{gate_head, gate_statement_lines, definition_head, version_lines, item_lines, program_lines}
use Rattle.qt_print.specs.Text.{lines_text, canonical}
use Rattle.qt_print.proofs.Forms.{lined, form_rolls}
use Rattle.qt_print.proofs.Lines.{statement_is}
use Rattle.qt_round_trip.specs.Places.{origin, bare_statement, bare_form, bare_gate_statement, bare_item, bare_version, bare, SameButPlaces}
use Rattle.qt_round_trip.proofs.Bare.{bared, bare_rolls, bare_statement_is}

abbrev KeptForm : StatementForm → Type 0
KeptForm form = form_lines (bare_form form) ≡ form_lines form

abbrev Kept : Statement → Type 0
Kept statement = statement_lines (bare_statement statement) ≡ statement_lines statement

module _ {X Y : Type 0} (f : X → StatementForm) (g : Y → Statement) (kept : (y : Y) → Kept (g y)) where
  each_kept : (ys : List Y) → map statement_lines (map bare_statement (map g ys)) ≡ map statement_lines (map g ys)
  each_kept [] = refl
  each_kept (y ∷ ys) = ap (λ t. t ∷ map statement_lines (map bare_statement (map g ys))) (kept y) ∙ ap (λ t. statement_lines (g y) ∷ t) (each_kept ys)

  abbrev filled : o.StatementForm-F X Y → o.StatementForm-F StatementForm Statement
  filled = map-StatementForm X Y StatementForm Statement f g

  same_step : (y : o.StatementForm-F X Y) → form_step (lined (bared (filled y))) ≡ form_step (lined (filled y))
  same_step (o.If condition body None) = ap (block (condition_lexemes (codes "if") condition)) (each_kept body)
  same_step (o.If condition body (Some otherwise)) =
      ap (λ t. two_blocks (condition_lexemes (codes "if") condition) t (map statement_lines (map bare_statement (map g otherwise)))) (each_kept body)
      ∙ ap (two_blocks (condition_lexemes (codes "if") condition) (map statement_lines (map g body))) (each_kept otherwise)
  same_step (o.While condition body) = ap (block (condition_lexemes (codes "while") condition)) (each_kept body)
  same_step (o.For scalar text values body) = ap (block (for_lexemes scalar text values)) (each_kept body)
  same_step _ = refl

  form_kept : (y : o.StatementForm-F X Y) → KeptForm (roll-StatementForm (filled y))
  form_kept y =
      ap form_lines (bare_rolls (filled y))
      ∙ (form_rolls (bared (filled y)) ∙ (same_step y ∙ sym (form_rolls (filled y))))

statement_kept : (x : Statement) → KeptForm x.form → Kept x
statement_kept x kept = ap statement_lines (bare_statement_is x) ∙ (statement_is (record { place = origin; form = bare_form x.form }) ∙ (kept ∙ sym (statement_is x)))

pub bare_lines : (x : Statement) → Kept x
bare_lines = ind-Statement KeptForm Kept
    (λ x y is. subst (λ z. KeptForm (roll-StatementForm z)) is (form_kept (λ e. e.0) (λ e. e.0) (λ e. e.1) y))
    (λ x y is. subst (λ z. Kept (roll-Statement z)) is (statement_kept (record { place = y.place; form = y.form.0 }) y.form.1))

-- the lines of each part of a list, where each part keeps its lines
all_kept : {A : Type 0} (lines : A → List Line) (bare : A → A) → ((x : A) → lines (bare x) ≡ lines x) → (xs : List A) → map lines (map bare xs) ≡ map lines xs
all_kept lines bare kept [] = refl
all_kept lines bare kept (x ∷ xs) = ap (λ t. t ∷ map lines (map bare xs)) (kept x) ∙ ap (λ t. lines x ∷ t) (all_kept lines bare kept xs)

bare_item_lines : (item : Item) → item_lines (bare_item item) ≡ item_lines item
bare_item_lines (i.Gate gate) = ap (block (gate_head gate)) (all_kept gate_statement_lines bare_gate_statement (λ x. refl) gate.body)
bare_item_lines (i.Definition definition) = ap (block (definition_head definition)) (all_kept statement_lines bare_statement bare_lines definition.body)
bare_item_lines (i.Statement statement) = bare_lines statement
bare_item_lines _ = refl

bare_program_lines : (p : Program) → program_lines (bare p) ≡ program_lines p
bare_program_lines p =
    ap (λ t. all_lines t ++ all_lines (map item_lines (map bare_item p.items))) (all_kept version_lines bare_version (λ x. refl) p.versions)
    ∙ ap (λ t. all_lines (map version_lines p.versions) ++ all_lines t) (all_kept item_lines bare_item bare_item_lines p.items)

pub same_lines : (p q : Program) → SameButPlaces p q → program_lines p ≡ program_lines q
same_lines p q same = sym (bare_program_lines p) ∙ (ap program_lines same ∙ bare_program_lines q)

pub same_text : (p q : Program) → SameButPlaces p q → canonical p ≡ canonical q
same_text p q same = ap (lines_text 0) (same_lines p q same)
