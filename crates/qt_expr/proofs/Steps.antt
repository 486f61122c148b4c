-- One step of the functions that read expressions.
use Rattle.std.proofs.Common.{◌≡◌, ◌≢◌, ℕ, zero, suc, ◌+◌, ◌-◌, ◌<◌, ◌≤◌, List, [], ◌∷◌, length, Bool, true, false, cond, Option, Some, Ok, Err, ap, ◌∙◌, refl, sym, arith}
use Rattle.qt_tree.specs.declared.expression.Expr.{Expr}
use Rattle.qt_terminals.specs.declared.terminal.Terminal.TheVariants as w
use Rattle.qt_terminals.specs.Alphabet.{code}
use Rattle.qt_terminals.specs.Terminals.{PlacedTerminal, stream}
use Rattle.qt_grammar.specs.Sorts.{expr, optional, any, unary, a_set}
use Rattle.qt_grammar.specs.Form.{Form, member, terminal_at, begun, within, pair_of, named, then_, either, maybe}
use Rattle.qt_grammar.specs.Lookahead.{first, first_of}
use Rattle.qt_grammar.specs.declared.refusal.Refusal.TheVariants.{Syntax, Nest}
use Rattle.qt_grammar.specs.Outcome.{Outcome, and_then}
use Rattle.qt_tree.specs.declared.expression.Expr.TheVariants as tree
use Rattle.qt_tree.specs.declared.expression.InfixOperator.TheVariants as op
use Rattle.qt_grammar.specs.Language.{◌⊳◌, ops_at, joined, powered, signed, exactly_operator, primary, power, negated}
use Rattle.qt_expr.specs.Parser.{reading, named_to, rest_separated, read_any, read_unary, read_expression, read_operation, read_more_operands, read_power, read_primary, read_factor, read_range, read_range_form, read_index, read_index_form, read_in_size_of, read_dimension, read_members, read_list, read_expressions}

-- the terminals of unary operators
abbrev pub signs : List ℕ
signs = code w.Minus ∷ code w.Bang ∷ code w.Tilde ∷ []

pub deeper : {X : Type 0} (f : ℕ → X) (n : ℕ) → n ≢ 0 → f n ≡ f (suc (n - 1))
deeper f n some = let e : n ≡ suc (n - 1) = omega arith in ap f e

module _ (tokens : List PlacedTerminal) (d : ℕ) (outer : Option ℕ) (at : ℕ) where
  pub any_is : d ≢ 0 → read_any tokens d outer at ≡ read_expression tokens (d - 1) outer at
  unfolding read_any read_expression
  any_is some = deeper (λ n. read_any tokens n outer at) d some

  pub unary_is : d ≢ 0 → read_unary tokens d outer at ≡ read_operation tokens (d - 1) outer 10 at
  unfolding read_unary read_operation
  unary_is some = deeper (λ n. read_unary tokens n outer at) d some

  pub range_is : d ≢ 0 → read_range tokens d outer at ≡ read_range_form tokens (d - 1) outer at
  unfolding read_range read_range_form
  range_is some = deeper (λ n. read_range tokens n outer at) d some

  pub index_is : d ≢ 0 → read_index tokens d outer at ≡ read_index_form tokens (d - 1) outer at
  unfolding read_index read_index_form
  index_is some = deeper (λ n. read_index tokens n outer at) d some

  pub in_size_of_is : d ≢ 0 → read_in_size_of tokens d outer at ≡ read_dimension tokens (d - 1) outer at
  unfolding read_in_size_of read_dimension
  in_size_of_is some = deeper (λ n. read_in_size_of tokens n outer at) d some

  pub expression_is : read_expression tokens d outer at ≡ read_operation tokens d (begun (stream tokens) outer at) 0 at
  unfolding read_expression read_operation
  expression_is = refl

-- a set reads as a list does: its braces and its members share a level
pub members_are : (tokens : List PlacedTerminal) (d : ℕ) (outer : Option ℕ) (at : ℕ) → read_members tokens d outer at ≡ read_list tokens d outer at
unfolding read_members read_list rest_separated
members_are tokens zero outer at = at_none (member (terminal_at (stream tokens) at) (first_of a_set))
  where
    at_none : (b : Bool) → cond b (Err (Nest at)) (Err (Syntax at)) ≡ and_then {A = Expr} {B = List Expr} (cond b (Err (Nest at)) (Err (Syntax at))) (λ x m. rest_separated tokens {s = expr} w.Comma (named any) zero outer (length tokens) (x ∷ []) m)
    at_none true = refl
    at_none false = refl
members_are tokens (suc d) outer at = refl

-- so at a level the expressions of a list stand below it, and at none the first is too deep
module _ (tokens : List PlacedTerminal) (d : ℕ) (outer : Option ℕ) (at : ℕ) where
  members_below : d ≢ 0 → read_members tokens d outer at ≡ read_expressions tokens (d - 1) outer at
  unfolding read_members read_expressions
  members_below some = deeper (λ n. read_members tokens n outer at) d some

  pub list_below : d ≢ 0 → read_list tokens d outer at ≡ read_expressions tokens (d - 1) outer at
  list_below some = sym (members_are tokens d outer at) ∙ members_below some

  no_members : read_members tokens 0 outer at ≡ cond (member (terminal_at (stream tokens) at) (first_of a_set)) (Err (Nest at)) (Err (Syntax at))
  unfolding read_members
  no_members = refl

  pub no_list : d ≡ 0 → read_list tokens d outer at ≡ cond (member (terminal_at (stream tokens) at) (first_of a_set)) (Err (Nest at)) (Err (Syntax at))
  no_list none = sym (members_are tokens d outer at) ∙ rw none no_members

-- ---- operators

module _ (tokens : List PlacedTerminal) (d : ℕ) (outer : Option ℕ) where
  pub operation_is : (strength at : ℕ) → strength < 10 → read_operation tokens d outer strength at ≡ and_then (read_operation tokens d outer (strength + 1) at) (λ x m. read_more_operands tokens d outer strength (length tokens) x m)
  unfolding read_operation read_more_operands
  operation_is zero at h = refl
  operation_is (suc zero) at h = refl
  operation_is (suc (suc zero)) at h = refl
  operation_is (suc (suc (suc zero))) at h = refl
  operation_is (suc (suc (suc (suc zero)))) at h = refl
  operation_is (suc (suc (suc (suc (suc zero))))) at h = refl
  operation_is (suc (suc (suc (suc (suc (suc zero)))))) at h = refl
  operation_is (suc (suc (suc (suc (suc (suc (suc zero))))))) at h = refl
  operation_is (suc (suc (suc (suc (suc (suc (suc (suc zero)))))))) at h = refl
  operation_is (suc (suc (suc (suc (suc (suc (suc (suc (suc zero))))))))) at h = refl
  operation_is (suc (suc (suc (suc (suc (suc (suc (suc (suc (suc strength)))))))))) at h = absurd (omega (arith, h))

  pub strongest_is : (strength at : ℕ) → strength ≡ 10 → read_operation tokens d outer strength at ≡ read_factor tokens d outer at
  unfolding read_operation read_factor
  strongest_is strength at e = rw e refl

  module _ (strength : ℕ) where
    abbrev rest : ℕ → Expr → ℕ → Outcome Expr
    rest = read_more_operands tokens d outer strength

    pub more_end : (n turn : ℕ) (left : Expr) (at : ℕ) → n ≤ turn → rest (n - turn) left at ≡ Ok (left, at)
    unfolding read_more_operands
    more_end n turn left at done = let none : n - turn ≡ 0 = omega arith in rw none refl

    pub more_stop : (n : ℕ) (left : Expr) (at : ℕ) → member (terminal_at (stream tokens) at) (ops_at strength) ≡ false → rest n left at ≡ Ok (left, at)
    unfolding read_more_operands
    more_stop zero left at e = refl
    more_stop (suc n) left at e = rw e refl

    one_turn : (n : ℕ) (left : Expr) (at : ℕ) → member (terminal_at (stream tokens) at) (ops_at strength) ≡ true → within 256 outer ((stream tokens at).operators) ≡ true
        → rest (suc n) left at ≡ and_then (read_operation tokens d outer (strength + 1) (at + 1)) (λ x m. rest n (joined left (stream tokens at) x) m)
    unfolding read_more_operands
    one_turn n left at e h = rw (e, h) (tidy (read_operation tokens d outer (strength + 1) (at + 1)))
      where
        tidy : (out : Outcome Expr) → and_then {A = PlacedTerminal × Expr} {B = Expr} (and_then {A = Expr} {B = PlacedTerminal × Expr} out (λ x i. Ok (pair_of {A = Expr} {B = PlacedTerminal} (stream tokens at) x, i))) (λ y m. rest n (joined left y.0 y.1) m)
            ≡ and_then out (λ x m. rest n (joined left (stream tokens at) x) m)
        tidy (Ok z) = refl
        tidy (Err x) = refl

    last_turn : (n : ℕ) (left : Expr) (at : ℕ) → member (terminal_at (stream tokens) at) (ops_at strength) ≡ true → within 256 outer ((stream tokens at).operators) ≡ false → rest (suc n) left at ≡ Err (Nest at)
    unfolding read_more_operands
    last_turn n left at e h = rw (e, h) refl

    pub more_go_on : (n turn : ℕ) (left : Expr) (at : ℕ) → turn < n → member (terminal_at (stream tokens) at) (ops_at strength) ≡ true → within 256 outer ((stream tokens at).operators) ≡ true
        → rest (n - turn) left at ≡ and_then (read_operation tokens d outer (strength + 1) (at + 1)) (λ x m. rest (n - (turn + 1)) (joined left (stream tokens at) x) m)
    more_go_on n turn left at more e h = let one : n - turn ≡ suc (n - (turn + 1)) = omega arith in ap (λ t. rest t left at) one ∙ one_turn (n - (turn + 1)) left at e h

    pub more_refuse : (n turn : ℕ) (left : Expr) (at : ℕ) → turn < n → member (terminal_at (stream tokens) at) (ops_at strength) ≡ true → within 256 outer ((stream tokens at).operators) ≡ false → rest (n - turn) left at ≡ Err (Nest at)
    more_refuse n turn left at more e h = let one : n - turn ≡ suc (n - (turn + 1)) = omega arith in ap (λ t. rest t left at) one ∙ last_turn (n - (turn + 1)) left at e h

-- ---- factors

module _ (tokens : List PlacedTerminal) (d : ℕ) (outer : Option ℕ) (at : ℕ) where
  -- whatever the form of the base is
  with_exponent : (f : Form expr) (base : Expr) (m : ℕ) → reading tokens d f outer at ≡ Ok (base, m) → member (terminal_at (stream tokens) m) (code w.StarStar ∷ []) ≡ true → within 256 outer ((stream tokens m).operators) ≡ true
      → reading tokens d (then_ {s = expr} {t = optional expr} {u = expr} powered f (maybe {s = expr} (exactly_operator w.StarStar ⊳ named unary))) outer at
      ≡ and_then (named_to tokens d unary outer (m + 1)) (λ x j. Ok (tree.Binary op.Pow base x, j))
  with_exponent f base m e h fits = rw (e, h, fits) (tidy (named_to tokens d unary outer (m + 1)))
    where
      tidy : (out : Outcome Expr) → and_then {A = Option Expr} {B = Expr} (and_then {A = Expr} {B = Option Expr} (and_then {A = Expr} {B = Expr} out (λ y j. Ok (y, j))) (λ x j. Ok (Some x, j))) (λ y j. Ok (powered base y, j)) ≡ and_then out (λ x j. Ok (tree.Binary op.Pow base x, j))
      tidy (Ok z) = refl
      tidy (Err x) = refl

  pub power_is : (base : Expr) (m : ℕ) → read_primary tokens d outer at ≡ Ok (base, m) → member (terminal_at (stream tokens) m) (code w.StarStar ∷ []) ≡ true → within 256 outer ((stream tokens m).operators) ≡ true
      → read_power tokens d outer at ≡ and_then (read_unary tokens d outer (m + 1)) (λ x j. Ok (tree.Binary op.Pow base x, j))
  unfolding read_power read_primary read_unary
  power_is base m e h fits = with_exponent primary base m e h fits

  -- whatever else a factor may be
  with_sign : (f : Form expr) → member (terminal_at (stream tokens) at) signs ≡ true → within 256 outer ((stream tokens at).operators) ≡ true
      → reading tokens d (either {s = expr} negated f) outer at ≡ and_then (named_to tokens d unary outer (at + 1)) (λ x j. Ok (signed (stream tokens at) x, j))
  with_sign f h fits = rw (h, fits) refl

  unsigned : (f g : Form expr) → member (terminal_at (stream tokens) at) (first f) ≡ false → reading tokens d (either {s = expr} f g) outer at ≡ reading tokens d g outer at
  unsigned f g h = rw h refl

  pub unsigned_is : member (terminal_at (stream tokens) at) signs ≡ false → read_factor tokens d outer at ≡ read_power tokens d outer at
  unfolding read_factor read_power
  unsigned_is h = unsigned negated power h

  one_sign_too_many : (f : Form expr) → member (terminal_at (stream tokens) at) signs ≡ true → within 256 outer ((stream tokens at).operators) ≡ false → reading tokens d (either {s = expr} negated f) outer at ≡ Err (Nest at)
  one_sign_too_many f h over = rw (h, over) refl

  pub no_factor : member (terminal_at (stream tokens) at) signs ≡ true → within 256 outer ((stream tokens at).operators) ≡ false → read_factor tokens d outer at ≡ Err (Nest at)
  unfolding read_factor
  no_factor h over = one_sign_too_many power h over

  pub factor_is : member (terminal_at (stream tokens) at) signs ≡ true → within 256 outer ((stream tokens at).operators) ≡ true
      → read_factor tokens d outer at ≡ and_then (read_unary tokens d outer (at + 1)) (λ x j. Ok (signed (stream tokens at) x, j))
  unfolding read_factor read_unary
  factor_is h fits = with_sign power h fits
