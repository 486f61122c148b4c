-- Bodies of statements, which are printed with braces, and the forms of statements that have bodies.
use Rattle.std.proofs.Common.{◌≡◌, ℕ, ◌+◌, ◌⊎◌, inl, Bool, false, if◌then◌else◌, List, [], ◌∷◌, ◌++◌, map, Option, Some, None, refl, sym, ◌∙◌, ap, subst, codes}
use Rattle.qt_tree.specs.declared.statement.Sequence.TheVariants as q
use Rattle.qt_tree.specs.declared.statement.Statement.{Statement}
use Rattle.qt_tree.specs.declared.statement.StatementForm.{StatementForm}
use Rattle.qt_tree.specs.declared.statement.StatementForm.TheVariants as form_of
use Rattle.qt_terminals.specs.declared.terminal.Terminal.{Terminal}
use Rattle.qt_terminals.specs.declared.terminal.Terminal.TheVariants as w
use Rattle.qt_terminals.specs.Alphabet.{code, terminal_of, symbols, is_operator}
use Rattle.qt_grammar.specs.Sorts.{statement, several, block, single}
use Rattle.qt_grammar.specs.Form.{Reading, ReadsOne, ReadsThen, named, nearest}
use Rattle.qt_grammar.specs.Language.{◌⊳◌, exactly, listed, or_none, a_block, body, condition, if_else, while_loop, a_sequence, for_loop}
use Rattle.qt_lexemes.specs.declared.role.Role.TheVariants as r
use Rattle.qt_lexemes.specs.Lexemes.{Lexeme, lexeme, parenthesized}
use Rattle.qt_print.specs.Expressions.{expr_lexemes}
use Rattle.qt_print.specs.Statements.{body_start, body_end, else_lexeme, sequence_lexemes, statement_lines}
use Rattle.qt_round_trip.specs.Places.{bare_statement, bare_form}
use Rattle.qt_round_trip.proofs.lexemes.Spelling.{meaning}
use Rattle.qt_round_trip.proofs.lexemes.Written.{Written}
use Rattle.qt_round_trip.proofs.reparsing.Streams.{Streams, At, written_split, terminal_in, counted_behind}
use Rattle.qt_round_trip.proofs.reparsing.Fixed.{Fixed, fixed}
use Rattle.qt_round_trip.proofs.reparsing.Again.{Again, Any}
use Rattle.qt_round_trip.proofs.reparsing.Plain.{lexemes_both}
use Rattle.qt_round_trip.proofs.reparsing.Setting.{Setting, Reader, Rereads, NoElse, SameStatements, statements_lexemes}
use Rattle.qt_round_trip.proofs.reparsing.Forms.{form-behind, form-tree, form-either, form-both, form-left, form-exactly, form-weaken, form-as, form-nearest, form-lead, form-then, form-parens, form-brackets}
use Rattle.qt_round_trip.proofs.reparsing.Parts.{form-parts_or_none}
use Rattle.qt_round_trip.proofs.reparsing.Named.{any-again, block-again, single-again, range-again}
use Rattle.qt_round_trip.proofs.reparsing.Literals.{label-again}
use Rattle.qt_round_trip.proofs.reparsing.Scalars.{scalar-again}
use Rattle.qt_round_trip.proofs.reparsing.Indexes.{in_set-again}
use Rattle.qt_round_trip.proofs.reparsing.Sentences.{form_lexemes, body_lexemes, otherwise_lexemes, bare_otherwise, if_is, while_is, for_is, bare_if, bare_while, bare_for}
use Rattle.qt_round_trip.proofs.reparsing.Beginnings.{no_else}

abbrev pub SameForm : StatementForm → StatementForm → Type 0
SameForm x y = bare_form x ≡ bare_form y

-- no `else` stands where a `}` stands
brace_is_no_else : (z : Streams) (i j : ℕ) → Written z.new (body_end ∷ []) i j → NoElse z i
unfolding terminal_of symbols
brace_is_no_else z i j has = no_else z (body_end ∷ []) i j refl has

-- a token that is no operator counts for nothing
no_operator_step : (z : Streams) (i j : ℕ) (m : Lexeme) (k : Terminal) → Fixed m k → is_operator k ≡ false → (z.new j).terminal ≡ meaning m → At z i j → At z i (j + 1)
no_operator_step z i j m k f none e at =
    let is : (z.new j).terminal ≡ k = e ∙ f.means in
    at ∙ sym (counted_behind z.new z.new_counts j (code k ∷ []) f.going_on (terminal_in ((z.new j).terminal) k is)
    ∙ ap (λ (b : Bool). if b then (z.new j).operators + 1 else (z.new j).operators) (ap is_operator is ∙ none))

-- statements without braces are read again between braces
in_braces : (z : Streams) (p c : Reading (List Statement)) → Again z p c (λ xs l. statements_lexemes xs ≡ l) SameStatements (NoElse z)
    → Again z p (ReadsThen (λ x y. y) (ReadsOne z.new (code w.LeftBrace ∷ [])) (ReadsThen (λ x y. x) (λ i v j. (o : Option (List Statement)) × (((x : List Statement) × c i x j × (o ≡ Some x)) ⊎ ((o ≡ None) × (j ≡ i))) × (v ≡ listed o)) (ReadsOne z.new (code w.RightBrace ∷ []))))
    (λ xs l. body_lexemes xs ≡ l) SameStatements Any
in_braces z p c a = record {
  again = λ i v j h.
      let t = a.again i v j h in (
        body_start ∷ (t.0 ++ body_end ∷ []),
        ap (λ l. body_start ∷ (l ++ body_end ∷ [])) t.1,
        λ i' j' at has any.
            let s = written_split z.new t.0 (body_end ∷ []) (i' + 1) j' has.2 in
            let q = t.2 (i' + 1) s.0 (no_operator_step z i i' body_start w.LeftBrace (fixed body_start w.LeftBrace refl) refl has.0 at) s.1 (brace_is_no_else z s.0 j' s.2) in (
              q.0,
              (
                z.new i',
                q.0,
                i' + 1,
                (terminal_in ((z.new i').terminal) w.LeftBrace (has.0 ∙ (fixed body_start w.LeftBrace refl).means), refl, refl),
                (q.0, z.new s.0, s.0, (Some q.0, inl (q.0, q.1, refl), refl), (terminal_in ((z.new s.0).terminal) w.RightBrace (s.2.0 ∙ (fixed body_end w.RightBrace refl).means), refl, s.2.2), refl),
                refl,
              ),
              q.2,
              subst (λ m. At z j m) (sym s.2.2) (no_operator_step z j s.0 body_end w.RightBrace (fixed body_end w.RightBrace refl) refl s.2.0 q.3),
            ),
      );
}

module _ (s : Setting) (outer : Option ℕ) where
  pub a_block-again : Reader s outer a_block a_block (λ xs l. body_lexemes xs ≡ l) SameStatements Any
  a_block-again = form-then (form-exactly body_start w.LeftBrace refl) (form-then statements (form-exactly body_end w.RightBrace refl) (λ x y. x) (λ xs l. statements_lexemes xs ++ body_end ∷ [] ≡ l) SameStatements
      (λ x y l m h g. lexemes_both (statements_lexemes x) (body_end ∷ []) l m h g) (λ x x' y y' same alike. same)
      (λ y l h m j has f. brace_is_no_else s.streams m j (subst (λ t. Written s.streams.new t m j) (sym h) has)))
      (λ x y. y) (λ xs l. body_lexemes xs ≡ l) SameStatements (λ x y l m h g. lexemes_both (body_start ∷ []) (statements_lexemes y ++ body_end ∷ []) l m h g) (λ x x' y y' same alike. alike) (λ y l h m j has f. tt)
    where
      statements : Reader s outer (or_none {s = statement} (named block)) (or_none {s = statement} (named block)) (λ xs l. statements_lexemes xs ≡ l) SameStatements (NoElse s.streams)
      statements = form-parts_or_none statement_lines bare_statement (block-again s outer)

  alone-again : Reader s outer (named single) a_block (λ xs l. body_lexemes xs ≡ l) SameStatements Any
  alone-again = record { reads = in_braces s.streams (s.old single outer) (s.new block outer) (single-again s outer).reads }

  pub body-again : Reader s outer body body (λ xs l. body_lexemes xs ≡ l) SameStatements Any
  body-again = form-left (form-both a_block-again alone-again)

  condition-again : Rereads s outer condition (λ x. parenthesized (expr_lexemes x))
  condition-again = form-parens (any-again s outer)

  else-again : Reader s outer (nearest {s = several statement} (code w.Else ∷ []) (exactly w.Else ⊳ body)) (nearest {s = several statement} (code w.Else ∷ []) (exactly w.Else ⊳ body)) (λ o l. otherwise_lexemes o ≡ l) (λ x y. bare_otherwise x ≡ bare_otherwise y) (NoElse s.streams)
  else-again = form-nearest (code w.Else ∷ []) (form-weaken (NoElse s.streams)
      (form-then (form-exactly else_lexeme w.Else refl) body-again (λ x y. y) (λ xs l. else_lexeme ∷ body_lexemes xs ≡ l) SameStatements (λ x y l m h g. lexemes_both (else_lexeme ∷ []) (body_lexemes y) l m h g) (λ x x' y y' same alike. alike) (λ y l h m j has f. tt)))
      (λ o l. otherwise_lexemes o ≡ l) (λ x y. bare_otherwise x ≡ bare_otherwise y) refl (λ x l h. h) refl (λ x y same. ap Some same) (λ j f. f)

  pub if-again : Reader s outer if_else if_else (λ x l. form_lexemes x ≡ l) SameForm (NoElse s.streams)
  if-again = form-as (form-behind (lexeme r.Head (codes "if")) w.If refl (form-lead condition-again
      (form-then body-again else-again (λ x y. (x, y)) (λ v l. body_lexemes v.0 ++ otherwise_lexemes v.1 ≡ l) (λ v v'. SameStatements v.0 v'.0 × (bare_otherwise v.1 ≡ bare_otherwise v'.1))
      (λ x y l m h g. lexemes_both (body_lexemes x) (otherwise_lexemes y) l m h g) (λ x x' y y' same alike. (same, alike)) (λ y l h m j has f. tt))))
      (λ c. form_of.If c.0 c.1.0 c.1.1) (λ x l. form_lexemes x ≡ l) SameForm (λ c l h. if_is c.0 c.1.0 c.1.1 ∙ h)
      (λ c d same.
      bare_if c.0 c.1.0 c.1.1
      ∙ (ap (λ t. form_of.If t (map bare_statement c.1.0) (bare_otherwise c.1.1)) same.0
      ∙ (ap (λ t. form_of.If d.0 t (bare_otherwise c.1.1)) same.1.0
      ∙ (ap (λ t. form_of.If d.0 (map bare_statement d.1.0) t) same.1.1 ∙ sym (bare_if d.0 d.1.0 d.1.1)))))

  pub while-again : Reader s outer while_loop while_loop (λ x l. form_lexemes x ≡ l) SameForm Any
  while-again = form-as (form-behind (lexeme r.Head (codes "while")) w.While refl (form-lead condition-again body-again)) (λ c. form_of.While c.0 c.1) (λ x l. form_lexemes x ≡ l) SameForm (λ c l h. while_is c.0 c.1 ∙ h)
      (λ c d same. bare_while c.0 c.1 ∙ (ap (λ t. form_of.While t (map bare_statement c.1)) same.0 ∙ (ap (λ t. form_of.While d.0 t) same.1 ∙ sym (bare_while d.0 d.1))))

  sequence-again : Rereads s outer a_sequence sequence_lexemes
  sequence-again = form-either (form-tree (form-brackets (range-again s outer)) q.Range sequence_lexemes (λ x. refl))
      (form-either (form-tree (in_set-again s outer) q.Set sequence_lexemes (λ x. refl)) (form-tree (label-again s outer) q.Name sequence_lexemes (λ x. refl)))

  pub for-again : Reader s outer for_loop for_loop (λ x l. form_lexemes x ≡ l) SameForm Any
  for-again = form-as (form-behind (lexeme r.Head (codes "for")) w.For refl (form-lead (scalar-again s outer) (form-lead (label-again s outer) (form-lead (form-behind (lexeme r.In (codes "in")) w.In refl sequence-again) body-again))))
      (λ c. form_of.For c.0 c.1.0 c.1.1.0 c.1.1.1) (λ x l. form_lexemes x ≡ l) SameForm (λ c l h. for_is c.0 c.1.0 c.1.1.0 c.1.1.1 ∙ h)
      (λ c d same.
      bare_for c.0 c.1.0 c.1.1.0 c.1.1.1
      ∙ (ap (λ t. form_of.For t c.1.0 c.1.1.0 (map bare_statement c.1.1.1)) same.0
      ∙ (ap (λ t. form_of.For d.0 t c.1.1.0 (map bare_statement c.1.1.1)) same.1.0
      ∙ (ap (λ t. form_of.For d.0 d.1.0 t (map bare_statement c.1.1.1)) same.1.1.0
      ∙ (ap (λ t. form_of.For d.0 d.1.0 d.1.1.0 t) same.1.1.1 ∙ sym (bare_for d.0 d.1.0 d.1.1.0 d.1.1.1))))))
