-- What printed lexemes and lines cost in bytes, and the budget that pays for them.
use Rattle.std.proofs.Common.{◌≡◌, ℕ, zero, suc, ◌+◌, ◌*◌, ◌≤◌, inl, List, [], ◌∷◌, ◌++◌, length, Bool, true, false, if◌then◌else◌, Option, Some, None, refl, sym, subst, arith}
use Rattle.std.proofs.lemmas.List.{length-append}
use Rattle.qt_lexemes.specs.declared.role.Role.{Role}
use Rattle.qt_lexemes.specs.Spacing.{has_space}
use Rattle.qt_lexemes.specs.Lexemes.{Lexeme, semicolon}
use Rattle.qt_print.specs.Statements.{Line, line, indented, all_lines, sentence, block, two_blocks, body_start, body_end, else_lexeme}
use Rattle.qt_lexemes.specs.Spacing.{gap}
use Rattle.qt_print.specs.Text.{margin, spread, line_text, lines_text}
use Rattle.qt_round_trip.proofs.lexemes.Spelling.{IsSpelled, AllLexemes, AllLines}

-- the bytes of lexemes on a line, with a space before each
abbrev pub cost : List Lexeme → ℕ
cost [] = 0
cost (first ∷ rest) = length first.text + (1 + cost rest)

-- a token that is read brings 400 bytes more, of which its line, its margin and braces round it are paid
abbrev pub weight : List Lexeme → ℕ
weight [] = 0
weight (first ∷ rest) = length first.text + (401 + weight rest)

-- a line that stands in at most 64 bodies has a margin of at most 128 bytes, and a line feed
abbrev pub lines_cost : List Line → ℕ
lines_cost [] = 0
lines_cost (first ∷ rest) = 129 + (cost first.lexemes + lines_cost rest)

-- no line stands in more bodies than this
abbrev pub Shallow : ℕ → List Line → Type 0
Shallow d [] = Unit {0}
Shallow d (first ∷ rest) = (first.depth ≤ d) × Shallow d rest

-- lexemes that are spelled and that n bytes pay for
pub record Fit (lexemes : List Lexeme) (n : ℕ) : Type 0 where
  pub spelled : AllLexemes IsSpelled lexemes
  pub short : weight lexemes ≤ n

-- lines that n bytes pay for; 133 of them stay, for two braces round the lines
pub record Paid (d : ℕ) (lines : List Line) (n : ℕ) : Type 0 where
  pub spelled : AllLines IsSpelled lines
  pub shallow : Shallow d lines
  pub short : 133 + lines_cost lines ≤ n

-- ---- lexemes

all_lexemes : (xs ys : List Lexeme) → AllLexemes IsSpelled xs → AllLexemes IsSpelled ys → AllLexemes IsSpelled (xs ++ ys)
all_lexemes [] ys h g = g
all_lexemes (x ∷ xs) ys (a, h) g = (a, all_lexemes xs ys h g)

weight_both : (xs ys : List Lexeme) → weight (xs ++ ys) ≡ weight xs + weight ys
weight_both [] ys = omega arith
weight_both (x ∷ xs) ys = omega (arith, weight_both xs ys)

cost_both : (xs ys : List Lexeme) → cost (xs ++ ys) ≡ cost xs + cost ys
cost_both [] ys = omega arith
cost_both (x ∷ xs) ys = omega (arith, cost_both xs ys)

cost_weight : (xs : List Lexeme) → cost xs ≤ weight xs
cost_weight [] = omega arith
cost_weight (x ∷ xs) = omega (arith, cost_weight xs)

pub fit_nothing : {n : ℕ} → Fit [] n
fit_nothing = record { spelled = tt; short = omega arith }

pub fit_both : {xs ys : List Lexeme} {m n : ℕ} → Fit xs m → Fit ys n → Fit (xs ++ ys) (m + n)
fit_both {xs} {ys} a b = record { spelled = all_lexemes xs ys a.spelled b.spelled; short = omega (arith, weight_both xs ys, a.short, b.short) }

pub fit_more : {xs : List Lexeme} {m n : ℕ} → Fit xs m → m ≤ n → Fit xs n
fit_more a h = record { spelled = a.spelled; short = omega (arith, a.short) }

pub fit_is : {xs ys : List Lexeme} {n : ℕ} → ys ≡ xs → Fit xs n → Fit ys n
fit_is {n} e a = subst (λ t. Fit t n) (sym e) a

-- ---- lines

lines_both : (xs ys : List Line) → AllLines IsSpelled xs → AllLines IsSpelled ys → AllLines IsSpelled (xs ++ ys)
lines_both [] ys h g = g
lines_both (x ∷ xs) ys (a, h) g = (a, lines_both xs ys h g)

shallow_both : (d : ℕ) (xs ys : List Line) → Shallow d xs → Shallow d ys → Shallow d (xs ++ ys)
shallow_both d [] ys h g = g
shallow_both d (x ∷ xs) ys (a, h) g = (a, shallow_both d xs ys h g)

lines_cost_both : (xs ys : List Line) → lines_cost (xs ++ ys) ≡ lines_cost xs + lines_cost ys
lines_cost_both [] ys = omega arith
lines_cost_both (x ∷ xs) ys = omega (arith, lines_cost_both xs ys)

pub paid_both : {d : ℕ} {xs ys : List Line} {m n : ℕ} (k : ℕ) → Paid d xs m → Paid d ys n → m + n ≤ 133 + k → Paid d (xs ++ ys) k
paid_both {d} {xs} {ys} k a b h = record { spelled = lines_both xs ys a.spelled b.spelled; shallow = shallow_both d xs ys a.shallow b.shallow; short = omega (arith, lines_cost_both xs ys, a.short, b.short) }

pub paid_is : {d : ℕ} {xs ys : List Line} {n : ℕ} → ys ≡ xs → Paid d xs n → Paid d ys n
paid_is {d} {n} e a = subst (λ t. Paid d t n) (sym e) a

pub paid_more : {d : ℕ} {xs : List Line} {m n : ℕ} → Paid d xs m → m ≤ n → Paid d xs n
paid_more a h = record { spelled = a.spelled; shallow = a.shallow; short = omega (arith, a.short) }

pub paid_nothing : {d : ℕ} (n : ℕ) → Paid d [] (133 + n)
paid_nothing n = record { spelled = tt; shallow = tt; short = omega arith }

-- one line
paid_line : {d : ℕ} {ws : List Lexeme} {n : ℕ} → AllLexemes IsSpelled ws → 262 + cost ws ≤ n → Paid d (line ws) n
paid_line a h = record { spelled = (a, tt); shallow = (omega arith, tt); short = omega arith }

last_weight : (xs : List Lexeme) (x : Lexeme) → 400 + cost (xs ++ x ∷ []) ≤ weight (xs ++ x ∷ [])
last_weight xs x = omega (arith, weight_both xs (x ∷ []), cost_both xs (x ∷ []), cost_weight xs)

-- a statement on a line of its own
pub paid_sentence : {d : ℕ} (ws : List Lexeme) {n : ℕ} → Fit (ws ++ semicolon ∷ []) n → Paid d (sentence ws) n
paid_sentence ws a = paid_line a.spelled (omega (arith, last_weight ws semicolon, a.short))

-- lines in a body
shallow_indented : (d : ℕ) (ls : List Line) → Shallow d ls → Shallow (suc d) (indented ls)
shallow_indented d [] h = tt
shallow_indented d (x ∷ xs) (a, h) = (omega arith, shallow_indented d xs h)

spelled_indented : (ls : List Line) → AllLines IsSpelled ls → AllLines IsSpelled (indented ls)
spelled_indented [] h = tt
spelled_indented (x ∷ xs) (a, h) = (a, spelled_indented xs h)

cost_indented : (ls : List Line) → lines_cost (indented ls) ≡ lines_cost ls
cost_indented [] = refl
cost_indented (x ∷ xs) = omega (arith, cost_indented xs)

pub paid_indented : {d : ℕ} {ls : List Line} {n : ℕ} → Paid d ls n → Paid (suc d) (indented ls) n
paid_indented {d} {ls} a = record { spelled = spelled_indented ls a.spelled; shallow = shallow_indented d ls a.shallow; short = omega (arith, cost_indented ls, a.short) }

-- a head and its body: the bytes that stay of the body pay for its braces
head_cost : (x : Lexeme) (xs : List Lexeme) → 398 + cost ((x ∷ xs) ++ body_start ∷ []) ≤ weight (x ∷ xs)
head_cost x xs = omega (arith, cost_both xs (body_start ∷ []), cost_weight xs)

head_spelled : (xs : List Lexeme) → AllLexemes IsSpelled xs → AllLexemes IsSpelled (xs ++ body_start ∷ [])
head_spelled xs h = all_lexemes xs (body_start ∷ []) h (inl refl, tt)

module _ {d : ℕ} {x : Lexeme} {xs : List Lexeme} {a b : ℕ} (body : List (List Line)) where
  pub paid_block : Fit (x ∷ xs) a → Paid d (indented (all_lines body)) b → Paid d (block (x ∷ xs) body) (a + b)
  paid_block h g = record {
    spelled = (head_spelled (x ∷ xs) h.spelled, lines_both (indented (all_lines body)) (line (body_end ∷ [])) g.spelled ((inl refl, tt), tt));
    shallow = (omega arith, shallow_both d (indented (all_lines body)) (line (body_end ∷ [])) g.shallow (omega arith, tt));
    short = omega (arith, head_cost x xs, lines_cost_both (indented (all_lines body)) (line (body_end ∷ [])), h.short, g.short);
  }

  -- `else` and a second body
  pub paid_two : {c e : ℕ} (other : List (List Line)) → Fit (x ∷ xs) a → Paid d (indented (all_lines body)) b → Fit (else_lexeme ∷ []) c → Paid d (indented (all_lines other)) e
      → Paid d (two_blocks (x ∷ xs) body other) (a + (b + (c + e)))
  paid_two other h g k f = record {
    spelled = (
      head_spelled (x ∷ xs) h.spelled,
      lines_both (indented (all_lines body)) (block (body_end ∷ else_lexeme ∷ []) other) g.spelled
          (head_spelled (body_end ∷ else_lexeme ∷ []) (inl refl, k.spelled), lines_both (indented (all_lines other)) (line (body_end ∷ [])) f.spelled ((inl refl, tt), tt)),
    );
    shallow = (
      omega arith,
      shallow_both d (indented (all_lines body)) (block (body_end ∷ else_lexeme ∷ []) other) g.shallow
          (omega arith, shallow_both d (indented (all_lines other)) (line (body_end ∷ [])) f.shallow (omega arith, tt)),
    );
    short = omega (
      arith,
      head_cost x xs,
      lines_cost_both (indented (all_lines body)) (block (body_end ∷ else_lexeme ∷ []) other),
      lines_cost_both (indented (all_lines other)) (line (body_end ∷ [])),
      h.short,
      g.short,
      k.short,
      f.short,
    );
  }

-- ---- the text of lines

spread_length : (last : Option Role) (ws : List Lexeme) → length (spread last ws) ≤ cost ws
spread_length last [] = omega arith
spread_length last (x ∷ xs) = omega (arith, length-append (gap last x.role) (x.text ++ spread (Some x.role) xs), length-append x.text (spread (Some x.role) xs), gap_length last x.role, spread_length (Some x.role) xs)
  where
    blank_length : (b : Bool) → length {A = ℕ} (if b then 32 ∷ [] else []) ≤ 1
    blank_length true = omega arith
    blank_length false = omega arith

    gap_length : (last : Option Role) (following : Role) → length (gap last following) ≤ 1
    gap_length None following = omega arith
    gap_length (Some role) following = blank_length (has_space role following)

margin_length : (d : ℕ) → length (margin d) ≡ 2 * d
margin_length zero = refl
margin_length (suc d) = omega (arith, margin_length d)

line_length : (d : ℕ) (ws : List Lexeme) → d ≤ 64 → length (line_text d ws) ≤ 129 + cost ws
line_length d ws h = omega (arith, length-append (margin d) (spread None ws ++ 10 ∷ []), length-append {A = ℕ} (spread None ws) (10 ∷ []), margin_length d, spread_length None ws)

pub lines_length : (d : ℕ) (ls : List Line) → d ≤ 64 → Shallow d ls → length (lines_text 0 ls) ≤ lines_cost ls
lines_length d [] h s = omega arith
lines_length d (x ∷ xs) h (a, s) = omega (arith, length-append (line_text (0 + x.depth) x.lexemes) (lines_text 0 xs), line_length (0 + x.depth) x.lexemes (omega arith), lines_length d xs h s)
