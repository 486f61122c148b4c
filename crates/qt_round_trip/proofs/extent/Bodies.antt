-- Heads and their bodies: lexemes, and the lines of statements in braces; and what holds of the forms with names.
use Rattle.std.proofs.Common.{ℕ, suc, ◌+◌, List, [], ◌∷◌, ◌++◌, map, codes, refl, sym, ap, arith, append_assoc}
use Rattle.std.proofs.lemmas.List.{append-nil}
use Rattle.qt_tree.specs.declared.statement.Statement.{Statement}
use Rattle.qt_grammar.specs.Sorts.{Sort, Value, several, any, unary, block, single, an_index, a_range, a_set, an_entry, in_sizeof, in_array, parameters, gate_block}
use Rattle.qt_grammar.specs.Form.{Form, one, as_tree, named}
use Rattle.qt_grammar.specs.Language.{◌⊗◌, ◌⊳◌, braces, or_none, some, listed}
use Rattle.qt_lexemes.specs.declared.role.Role.TheVariants as r
use Rattle.qt_lexemes.specs.Lexemes.{Lexeme, lexeme}
use Rattle.qt_print.specs.Statements.{Line, indented, all_lines, block as block_lines, statement_lines}
use Rattle.qt_print.specs.Expressions.{expr_lexemes, index_lexemes, range_lexemes, list_lexemes}
use Rattle.qt_print.specs.Programs.{gate_statement_lines}
use Rattle.qt_round_trip.proofs.lexemes.Lists.{lines_push}
use Rattle.qt_round_trip.proofs.lexemes.NamedForms.{entries_lexemes, all_parameters_lexemes, in_sizeof_lexemes, in_array_lexemes}
use Rattle.qt_round_trip.proofs.extent.Costs.{Fit, fit_both, Paid, paid_both, paid_is, paid_more, paid_nothing, paid_block, paid_indented}
use Rattle.qt_round_trip.proofs.extent.Combinators.{Setting, Pays, Of, Any, pays_as, pays_tree, pays_then, pays_maybe, pays_chain, pays_empty}
use Rattle.qt_round_trip.proofs.extent.Tokens.{IsPrintedAs, pays_fixed}

-- the lines of a tree are paid
abbrev pub OfLines : {A : Type 0} → ℕ → (A → List Line) → A → ℕ → Type 0
OfLines d lines x n = Paid d (lines x) n

-- the lines of all statements of a body
abbrev pub inside : {A : Type 0} → (A → List Line) → List A → List Line
inside lines xs = indented (all_lines (map lines xs))

module _ {z : Setting} {s : Sort} {d : ℕ} {f : Form s} {x : Value s → List Line} where
  pub pays_all : Pays z f (OfLines d x) → Pays z (some f) (OfLines d (λ vs. all_lines (map x vs)))
  pays_all a = pays_chain {G = Any} a (pays_empty tt)
      (λ v n p. paid_is (append-nil (x v)) p)
      (λ vs c v k m n p q r. paid_is (lines_push x vs v) (paid_both (k + (m + n)) p r (omega arith)))

  pub pays_alone : Pays z f (OfLines d x) → Pays z (as_tree {s = s} {t = several s} (λ v. v ∷ []) f) (OfLines (suc d) (inside x))
  pays_alone a = pays_tree a (λ v n p. paid_indented (paid_is (append-nil (x v)) p))

  pub pays_body_lines : Pays z f (OfLines d x) → Pays z (some f) (OfLines (suc d) (inside x))
  pays_body_lines a = pays_as (pays_all a) (λ vs n p. paid_indented p)

-- the same, where the braces round the lines pay for themselves
abbrev Loose : {A : Type 0} → ℕ → (A → List Line) → List A → ℕ → Type 0
Loose d lines xs n = Paid d (inside lines xs) (133 + n)

module _ {z : Setting} {s : Sort} {d : ℕ} {f : Form (several s)} {x : Value s → List Line} where
  pub pays_in_braces : Pays z f (OfLines d (inside x)) → Pays z (braces (or_none f)) (OfLines d (inside x))
  pays_in_braces a = pays_then {G = Loose d x} (pays_fixed (lexeme r.Opening (codes "{")) refl)
      (pays_then (pays_tree {G = Loose d x} (pays_maybe {G = λ o n. Loose d x (listed o) n} a (paid_nothing 0) (λ v n p. paid_more p (omega arith))) (λ o n p. p))
      (pays_fixed (lexeme r.ClosingBrace (codes "}")) refl) (λ v t m n p q. paid_more p (omega arith)))
      (λ t v m n p q. paid_more q (omega (arith, p.short)))

-- ---- heads

-- what is left of a head, and then a body, behind the lexemes that are read of the head
pub record Head {A : Type 0} (d : ℕ) (lexemes : A → List Lexeme) (body : A → List (List Line)) (v : A) (n : ℕ) : Type 0 where
  pub behind : (k : Lexeme) (ks : List Lexeme) (m : ℕ) → Fit (k ∷ ks) m → Paid d (block_lines ((k ∷ ks) ++ lexemes v) (body v)) (m + n)

module _ {z : Setting} {s : Sort} {d : ℕ} {f : Form s} {x : Value s → List Lexeme} where
  module _ {t : Sort} {g : Form (several t)} {y : Value t → List Line} where
    -- the last lexemes of a head, and the body
    pub pays_head : Pays z f (Of x) → Pays z g (OfLines d (inside y)) → Pays z (f ⊗ g) (Head d (λ v. x v.0) (λ v. map y v.1))
    pays_head a b = pays_then a b (λ v w m n p q. record { behind = λ k ks c h. paid_more (paid_block (map y w) (fit_both h p) q) (omega arith) })

  module _ {t : Sort} {g : Form t} {y : Value t → List Lexeme} {body : Value t → List (List Line)} where
    -- lexemes before the rest of a head
    pub pays_in_head : Pays z f (Of x) → Pays z g (Head d y body) → Pays z (f ⊗ g) (Head d (λ v. x v.0 ++ y v.1) (λ v. body v.1))
    pays_in_head a b = pays_then a b (λ v w m n p q. record { behind = λ k ks c h. paid_is (ap (λ l. block_lines l (body w)) (sym (append_assoc (k ∷ ks) (x v) (y w)))) (paid_more (q.behind k (ks ++ x v) (c + m) (fit_both h p)) (omega arith)) })

  -- the lexeme that begins a head
  module _ {body : Value s → List (List Line)} {ws : List ℕ} where
    pub pays_headed : (first : Lexeme) → IsPrintedAs ws first → Pays z f (Head d x body) → Pays z (one ws ⊳ f) (λ v n. Paid d (block_lines (first ∷ x v) (body v)) n)
    pays_headed first h a = pays_then (pays_fixed first h) a (λ t v m n p q. q.behind first [] m p)

-- ---- forms with names

-- the lines of a body, which stand in as many bodies as there are levels
abbrev pub Body : ℕ → List Statement → ℕ → Type 0
Body d = OfLines d (inside statement_lines)

-- the twelve facts that one level gives to the next
pub record Named (z : Setting) : Type 0 where
  pub of_any : Pays z (named any) (Of expr_lexemes)
  pub of_unary : Pays z (named unary) (Of expr_lexemes)
  pub of_block : Pays z (named block) (Body z.level)
  pub of_single : Pays z (named single) (Body z.level)
  pub of_index : Pays z (named an_index) (Of index_lexemes)
  pub of_range : Pays z (named a_range) (Of range_lexemes)
  pub of_set : Pays z (named a_set) (Of list_lexemes)
  pub of_entry : Pays z (named an_entry) (Of entries_lexemes)
  pub of_sizeof : Pays z (named in_sizeof) (Of in_sizeof_lexemes)
  pub of_array : Pays z (named in_array) (Of in_array_lexemes)
  pub of_parameters : Pays z (named parameters) (Of all_parameters_lexemes)
  pub of_gate_block : Pays z (named gate_block) (OfLines z.level (inside gate_statement_lines))
