-- The forms of expressions by their alternatives: the next terminal decides which of them is read.
use Rattle.std.proofs.Common.{◌≡◌, ℕ, ◌+◌, ◌%◌, ◌^◌, ◌⊎◌, inl, inr, List, [], ◌∷◌, ◌++◌, Bool, true, false, if◌then◌else◌, Option, Some, None, Ok, Err, ◌∙◌, refl, sym}
use Rattle.qt_tree.specs.declared.expression.Expr.{Expr}
use Rattle.qt_tree.specs.declared.expression.Expr.TheVariants as expression
use Rattle.qt_tree.specs.declared.expression.Scalar.TheVariants as scalar_type
use Rattle.qt_tree.specs.declared.expression.Index.{Index}
use Rattle.qt_tree.specs.declared.expression.Index.TheVariants as ix
use Rattle.qt_tree.specs.declared.expression.Range.{Range}
use Rattle.qt_terminals.specs.declared.terminal.Terminal.{Terminal}
use Rattle.qt_terminals.specs.declared.terminal.Terminal.TheVariants as w
use Rattle.qt_terminals.specs.Alphabet.{code}
use Rattle.qt_terminals.specs.Literals.{integer_of, bits_of, bit_count}
use Rattle.qt_terminals.specs.Terminals.{PlacedTerminal, stream}
use Rattle.qt_grammar.specs.Sorts.{token, scalar, expr, index, range_tail, several, optional}
use Rattle.qt_grammar.specs.Form.{Form, as_tree, then_, maybe, member, terminal_at}
use Rattle.qt_grammar.specs.Lookahead.{first}
use Rattle.qt_grammar.specs.declared.refusal.Refusal.{Refusal}
use Rattle.qt_grammar.specs.declared.refusal.Refusal.TheVariants.{Syntax}
use Rattle.qt_grammar.specs.Outcome.{Outcome, Says, and_then}
use Rattle.qt_grammar.specs.Language.{◌⊳◌}
use Rattle.qt_grammar.specs.Language as g
use Rattle.qt_lookahead.specs.OneToken.{read_exactly}
use Rattle.qt_expr.specs.Parser.{reading, read_scalar, read_sized, read_primary, read_literal, read_parenthesized, read_name, read_cast, read_size_of, read_index_form, read_expression, read_expression_or_none, read_last_bound, read_dimension_or_none, read_set, read_behind_start, read_place_or_range}
use Rattle.qt_expr.specs.HandedOn.{as_some, sized_scalar}
use Rattle.qt_expr.proofs.Alternatives.{DiffersFrom, none_of, alternative, last_alternative, nth, before, or_last, in_neither, in_both, taken}
use Rattle.qt_expr.proofs.HandedOn.{led_by, led_says, present_says}

-- ---- the scalar types but for the last, `angle`

abbrev scalars : List (Form scalar)
scalars = as_tree {s = token} {t = scalar} (λ k. scalar_type.Bool) (g.exactly w.Bool) ∷ g.sized w.Bit scalar_type.Bit ∷ g.sized w.Int scalar_type.Int ∷ g.sized w.Uint scalar_type.Uint ∷ []

abbrev last_scalar : Form scalar
last_scalar = g.sized w.Angle scalar_type.Angle

abbrev pub scalar_terminals : List Terminal
scalar_terminals = w.Bool ∷ w.Bit ∷ w.Int ∷ w.Uint ∷ w.Angle ∷ []

-- ---- the primaries but for the last, `sizeof`

abbrev primaries : List (Form expr)
primaries = g.literals ∷ g.parenthesized ∷ g.name_expr ∷ g.cast ∷ []

-- the terminals of the primaries that aren't literals
abbrev pub no_literals : List Terminal
no_literals = w.LeftParen ∷ w.Name ∷ w.Bool ∷ w.Bit ∷ w.Int ∷ w.Uint ∷ w.Angle ∷ w.SizeOf ∷ []

-- the literals but for the last, `false`
abbrev literals_but_last : List (Form expr)
literals_but_last = g.literal w.Integer (λ c. expression.Whole (integer_of c % 2 ^ 64)) ∷ g.literal w.BitText (λ c. expression.BitText (bits_of c) (bit_count c))
    ∷ g.literal w.Pi (λ c. expression.Pi) ∷ g.literal w.Tau (λ c. expression.Tau) ∷ g.literal w.True (λ c. expression.Bool true) ∷ []

abbrev last_literal : Form expr
last_literal = g.literal w.False (λ c. expression.Bool false)

-- ---- indexes but for the last, an expression or a range that has a start

abbrev indexes_but_last : List (Form index)
indexes_but_last = as_tree {s = several expr} {t = index} ix.Set g.set ∷ as_tree {s = range_tail} {t = index} (λ tail. ix.Range (tail None)) g.behind_start ∷ []

abbrev last_index : Form index
last_index = then_ {s = expr} {t = optional range_tail} {u = index} g.place_or_range g.expression (maybe g.behind_start)

from_nothing : (out : Outcome (Option Expr → Range)) → and_then {A = Option Expr → Range} {B = Index} out (λ tail j. Ok (ix.Range (tail None), j))
    ≡ and_then {A = Range} {B = Index} (and_then {A = Option Expr → Range} {B = Range} out (λ tail j. Ok (tail None, j))) (λ r j. Ok (ix.Range r, j))
from_nothing (Ok p) = refl
from_nothing (Err e) = refl

-- an expression, and the rest of a range where one begins
module _ (place : Outcome Expr) (begins : ℕ → Bool) (tail : ℕ → Outcome (Option Expr → Range)) where
  abbrev placed : Outcome Index
  placed = and_then {A = Expr} {B = Index} place (λ x m. and_then {A = Option (Option Expr → Range)} {B = Index}
      (if begins m then and_then {A = Option Expr → Range} {B = Option (Option Expr → Range)} (tail m) (λ y j. Ok (Some y, j)) else Ok (None, m)) (λ y j. Ok (g.place_or_range x y, j)))

  nowhere : (why : Refusal) → place ≡ Err why → placed ≡ Err why
  nowhere why h = rw h refl

  alone : (x : Expr) (m : ℕ) → place ≡ Ok (x, m) → begins m ≡ false → placed ≡ Ok (ix.At x, m)
  alone x m h e = rw (h, e) refl

  from_place : (x : Expr) (m : ℕ) → place ≡ Ok (x, m) → begins m ≡ true
      → placed ≡ and_then {A = Range} {B = Index} (and_then {A = Option Expr → Range} {B = Range} (tail m) (λ y j. Ok (y (Some x), j))) (λ r j. Ok (ix.Range r, j))
  from_place x m h e = rw (h, e) (tidy (tail m))
    where
      tidy : (out : Outcome (Option Expr → Range))
          → and_then {A = Option (Option Expr → Range)} {B = Index} (and_then {A = Option Expr → Range} {B = Option (Option Expr → Range)} out (λ y j. Ok (Some y, j))) (λ y j. Ok (g.place_or_range x y, j))
          ≡ and_then {A = Range} {B = Index} (and_then {A = Option Expr → Range} {B = Range} out (λ y j. Ok (y (Some x), j))) (λ r j. Ok (ix.Range r, j))
      tidy (Ok p) = refl
      tidy (Err e) = refl

module _ (tokens : List PlacedTerminal) (d : ℕ) (outer : Option ℕ) (at : ℕ) where
  next_among : (k : Terminal) (ks : List ℕ) → (stream tokens at).terminal ≡ k → member (code k) ks ≡ true → member (terminal_at (stream tokens) at) ks ≡ true
  next_among k ks e h = rw e h

  -- a scalar type that may have a size
  one_sized : (n : ℕ) (k : Terminal) → (stream tokens at).terminal ≡ k → nth n scalars last_scalar ≡ g.sized k (sized_scalar k) → member (code k) (before n scalars) ≡ false → member (code k) (first (nth n scalars last_scalar)) ≡ true → member (code k) (code k ∷ []) ≡ true
      → read_scalar tokens d outer at ≡ and_then (read_sized tokens d outer (at + 1)) (λ x j. Ok (sized_scalar k x, j))
  unfolding read_scalar read_sized
  one_sized n k e same p q h =
      alternative tokens d outer at {s = scalar} scalars last_scalar n k e p q
      ∙ rw same (led_by tokens d outer at {s = optional expr} (maybe {s = expr} g.size) scalar k (sized_scalar k) (next_among k (code k ∷ []) e h))

  pub sized_is : (k : Terminal) → (stream tokens at).terminal ≡ k → (k ≡ w.Bit) ⊎ (k ≡ w.Int) ⊎ (k ≡ w.Uint) ⊎ (k ≡ w.Angle)
      → read_scalar tokens d outer at ≡ and_then (read_sized tokens d outer (at + 1)) (λ x j. Ok (sized_scalar k x, j))
  sized_is k e (inl h) = rw h (one_sized 1 w.Bit (e ∙ h) refl refl refl refl)
  sized_is k e (inr (inl h)) = rw h (one_sized 2 w.Int (e ∙ h) refl refl refl refl)
  sized_is k e (inr (inr (inl h))) = rw h (one_sized 3 w.Uint (e ∙ h) refl refl refl refl)
  sized_is k e (inr (inr (inr h))) = rw h (one_sized 4 w.Angle (e ∙ h) refl refl refl refl)

  pub bool_is : (stream tokens at).terminal ≡ w.Bool → read_scalar tokens d outer at ≡ Ok (scalar_type.Bool, at + 1)
  unfolding read_scalar
  bool_is e = alternative tokens d outer at {s = scalar} scalars last_scalar 0 w.Bool e refl refl ∙ rw e refl

  pub no_scalar : DiffersFrom ((stream tokens at).terminal) scalar_terminals → read_scalar tokens d outer at ≡ Err (Syntax at)
  unfolding read_scalar
  no_scalar (a, (b, (c, (f, (h, z))))) =
      let k = (stream tokens at).terminal in
      let not_last = none_of k (w.Angle ∷ []) (h, tt) in
      last_alternative tokens d outer at {s = scalar} scalars last_scalar (none_of k (w.Bool ∷ w.Bit ∷ w.Int ∷ w.Uint ∷ []) (a, (b, (c, (f, tt))))) ∙ rw not_last refl

  -- ---- primaries

  primary_is : (n : ℕ) (k : Terminal) → (stream tokens at).terminal ≡ k → member (code k) (before n primaries) ≡ false → member (code k) (first (nth n primaries g.size_of)) ≡ true
      → read_primary tokens d outer at ≡ reading tokens d (nth n primaries g.size_of) outer at
  unfolding read_primary
  primary_is n k e p q = alternative tokens d outer at {s = expr} primaries g.size_of n k e p q

  pub parenthesized_is : (stream tokens at).terminal ≡ w.LeftParen → read_primary tokens d outer at ≡ read_parenthesized tokens d outer at
  unfolding read_parenthesized
  parenthesized_is e = primary_is 1 w.LeftParen e refl refl

  pub name_is : (stream tokens at).terminal ≡ w.Name → read_primary tokens d outer at ≡ read_name tokens d outer at
  unfolding read_name
  name_is e = primary_is 2 w.Name e refl refl

  cast_by : (k : Terminal) → (stream tokens at).terminal ≡ k → member (code k) (before 3 primaries) ≡ false → member (code k) (first g.cast) ≡ true → read_primary tokens d outer at ≡ read_cast tokens d outer at
  unfolding read_cast
  cast_by k e p q = primary_is 3 k e p q

  pub cast_is : (k : Terminal) → (stream tokens at).terminal ≡ k → (k ≡ w.Bool) ⊎ (k ≡ w.Bit) ⊎ (k ≡ w.Int) ⊎ (k ≡ w.Uint) ⊎ (k ≡ w.Angle) → read_primary tokens d outer at ≡ read_cast tokens d outer at
  cast_is k e (inl h) = cast_by w.Bool (e ∙ h) refl refl
  cast_is k e (inr (inl h)) = cast_by w.Bit (e ∙ h) refl refl
  cast_is k e (inr (inr (inl h))) = cast_by w.Int (e ∙ h) refl refl
  cast_is k e (inr (inr (inr (inl h)))) = cast_by w.Uint (e ∙ h) refl refl
  cast_is k e (inr (inr (inr (inr h)))) = cast_by w.Angle (e ∙ h) refl refl

  pub size_of_is : (stream tokens at).terminal ≡ w.SizeOf → read_primary tokens d outer at ≡ read_size_of tokens d outer at
  unfolding read_size_of
  size_of_is e = primary_is 4 w.SizeOf e refl refl

  literal_read : member (terminal_at (stream tokens) at) (first {s = expr} g.literals) ≡ true → read_primary tokens d outer at ≡ read_literal tokens at
  unfolding read_primary read_literal
  literal_read e = taken (member (terminal_at (stream tokens) at) (first {s = expr} g.literals)) (reading tokens {s = expr} d g.literals outer at) (reading tokens {s = expr} d (or_last (g.parenthesized ∷ g.name_expr ∷ g.cast ∷ []) g.size_of) outer at) e

  no_primary : member (terminal_at (stream tokens) at) (first {s = expr} g.literals) ≡ false → DiffersFrom ((stream tokens at).terminal) no_literals → read_primary tokens d outer at ≡ Err (Syntax at)
  unfolding read_primary
  no_primary e (p, (n, (a, (b, (c, (f, (h, (i, z)))))))) =
      let k = (stream tokens at).terminal in
      let others = none_of k (w.LeftParen ∷ w.Name ∷ w.Bool ∷ w.Bit ∷ w.Int ∷ w.Uint ∷ w.Angle ∷ []) (p, (n, (a, (b, (c, (f, (h, tt))))))) in
      let not_last = none_of k (w.SizeOf ∷ []) (i, tt) in
      last_alternative tokens d outer at {s = expr} primaries g.size_of (in_both (code k) (first {s = expr} g.literals) (first {s = expr} g.parenthesized ++ (first {s = expr} g.name_expr ++ (first {s = expr} g.cast ++ []))) e others) ∙ rw not_last refl

  no_literal : member (terminal_at (stream tokens) at) (first {s = expr} g.literals) ≡ false → read_literal tokens at ≡ Err (Syntax at)
  unfolding read_literal
  no_literal e =
      let apart = in_neither (terminal_at (stream tokens) at) (code w.Integer ∷ code w.BitText ∷ code w.Pi ∷ code w.Tau ∷ code w.True ∷ []) (code w.False ∷ []) e in
      last_alternative tokens 0 None at {s = expr} literals_but_last last_literal apart.0 ∙ rw apart.1 refl

  pub literal_is : DiffersFrom ((stream tokens at).terminal) no_literals → read_primary tokens d outer at ≡ read_literal tokens at
  literal_is apart = by_test (member (terminal_at (stream tokens) at) (first {s = expr} g.literals)) literal_read (λ e. no_primary e apart ∙ sym (no_literal e)) refl
    where
      by_test : (b : Bool) → (member (terminal_at (stream tokens) at) (first {s = expr} g.literals) ≡ true → read_primary tokens d outer at ≡ read_literal tokens at)
          → (member (terminal_at (stream tokens) at) (first {s = expr} g.literals) ≡ false → read_primary tokens d outer at ≡ read_literal tokens at)
          → member (terminal_at (stream tokens) at) (first {s = expr} g.literals) ≡ b → read_primary tokens d outer at ≡ read_literal tokens at
      by_test true read unread e = read e
      by_test false read unread e = unread e

  -- ---- indexes

  pub set_is : (stream tokens at).terminal ≡ w.LeftBrace → read_index_form tokens d outer at ≡ and_then (read_set tokens d outer at) (λ xs j. Ok (ix.Set xs, j))
  unfolding read_index_form read_set
  set_is e = alternative tokens d outer at {s = index} indexes_but_last last_index 0 w.LeftBrace e refl refl

  pub without_start_is : (stream tokens at).terminal ≡ w.Colon → read_index_form tokens d outer at ≡ and_then (read_behind_start tokens d outer None at) (λ r j. Ok (ix.Range r, j))
  unfolding read_index_form read_behind_start
  without_start_is e = alternative tokens d outer at {s = index} indexes_but_last last_index 1 w.Colon e refl refl ∙ from_nothing (reading tokens d g.behind_start outer at)

  pub place_or_range_is : DiffersFrom ((stream tokens at).terminal) (w.LeftBrace ∷ w.Colon ∷ []) → read_index_form tokens d outer at ≡ read_place_or_range tokens d outer at
  unfolding read_index_form read_place_or_range
  place_or_range_is apart = last_alternative tokens d outer at {s = index} indexes_but_last last_index (none_of ((stream tokens at).terminal) (w.LeftBrace ∷ w.Colon ∷ []) apart)

  -- ---- an expression, or a range that has a start

  pub no_place : (why : Refusal) → read_expression tokens d outer at ≡ Err why → read_place_or_range tokens d outer at ≡ Err why
  unfolding read_expression read_place_or_range
  no_place why h = nowhere (reading tokens d g.expression outer at) (λ m. member (terminal_at (stream tokens) m) (code w.Colon ∷ [])) (λ m. reading tokens d g.behind_start outer m) why h

  pub place_is : (x : Expr) (m : ℕ) → read_expression tokens d outer at ≡ Ok (x, m) → member (terminal_at (stream tokens) m) (code w.Colon ∷ []) ≡ false → read_place_or_range tokens d outer at ≡ Ok (ix.At x, m)
  unfolding read_expression read_place_or_range
  place_is x m h e = alone (reading tokens d g.expression outer at) (λ m. member (terminal_at (stream tokens) m) (code w.Colon ∷ [])) (λ m. reading tokens d g.behind_start outer m) x m h e

  pub range_from : (x : Expr) (m : ℕ) → read_expression tokens d outer at ≡ Ok (x, m) → member (terminal_at (stream tokens) m) (code w.Colon ∷ []) ≡ true
      → read_place_or_range tokens d outer at ≡ and_then (read_behind_start tokens d outer (Some x) m) (λ r j. Ok (ix.Range r, j))
  unfolding read_expression read_place_or_range read_behind_start
  range_from x m h e = from_place (reading tokens d g.expression outer at) (λ m. member (terminal_at (stream tokens) m) (code w.Colon ∷ [])) (λ m. reading tokens d g.behind_start outer m) x m h e

  -- ---- what may be left out and begins with a token

  pub last_bound_says : (m : ℕ) (found : Outcome (Option Expr)) → member (terminal_at (stream tokens) at) (code w.Colon ∷ []) ≡ true → read_exactly tokens (code w.Colon) at ≡ Ok (stream tokens at, m)
      → Says (read_expression_or_none tokens d outer m) found → Says (read_last_bound tokens d outer at) (as_some found)
  unfolding read_last_bound read_expression_or_none
  last_bound_says m found e opened h = present_says tokens d outer at {s = optional expr} (g.exactly w.Colon ⊳ maybe g.expression) found e (led_says tokens d outer at {s = optional expr} (maybe g.expression) w.Colon m found opened h)

  pub dimension_says : (m : ℕ) (found : Outcome Expr) → member (terminal_at (stream tokens) at) (code w.Comma ∷ []) ≡ true → read_exactly tokens (code w.Comma) at ≡ Ok (stream tokens at, m)
      → Says (read_expression tokens d outer m) found → Says (read_dimension_or_none tokens d outer at) (as_some found)
  unfolding read_dimension_or_none read_expression
  dimension_says m found e opened h = present_says tokens d outer at {s = expr} (g.exactly w.Comma ⊳ g.expression) found e (led_says tokens d outer at {s = expr} g.expression w.Comma m found opened h)
