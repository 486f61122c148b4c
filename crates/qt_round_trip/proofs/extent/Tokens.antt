-- Each lexeme that is printed of a token: it is spelled, and the token's bytes pay for it.
use Rattle.std.proofs.Common.{◌≡◌, ℕ, ◌*◌, ◌≤◌, ◌<◌, ◌%◌, ◌^◌, ◌⊎◌, inl, inr, Bool, true, false, not, ◌&&◌, leb, IsTrue, List, [], ◌∷◌, ◌++◌, length, codes, refl, arith}
use Rattle.qt_tree.specs.declared.expression.InfixOperator.{InfixOperator}
use Rattle.qt_tree.specs.declared.expression.InfixOperator.TheVariants as b
use Rattle.qt_tree.specs.declared.expression.PrefixOperator.{PrefixOperator}
use Rattle.qt_tree.specs.declared.expression.PrefixOperator.TheVariants as u
use Rattle.qt_lex.proofs.Tables.{and_left, and_right, not_false}
use Rattle.qt_terminals.specs.declared.terminal.Terminal.{Terminal}
use Rattle.qt_terminals.specs.declared.terminal.Terminal.TheVariants as w
use Rattle.qt_terminals.specs.Alphabet.{code}
use Rattle.qt_terminals.specs.Terminals.{PlacedTerminal}
use Rattle.qt_terminals.proofs.Codes.{code_same}
use Rattle.qt_grammar.specs.Sorts.{Sort, Value}
use Rattle.qt_grammar.specs.Form.{Form, one, operator, member}
use Rattle.qt_grammar.specs.Language.{exactly, a_label, parens, brackets, braces, ended, ◌⊳◌, ◌⊲◌, binary_op, unary_op, compound_op}
use Rattle.qt_lexemes.specs.declared.role.Role.TheVariants as r
use Rattle.qt_lexemes.specs.Lexemes.{Lexeme, lexeme, name, semicolon, parenthesized, bracketed, braced, integer, bits, quotation, operator as operator_lexeme}
use Rattle.qt_print.specs.Programs.{name_lexemes}
use Rattle.qt_round_trip.proofs.lexemes.Spelling.{IsSpelled}
use Rattle.qt_round_trip.proofs.lexemes.Tables.{among, texts_of, text_spelled}
use Rattle.qt_round_trip.proofs.extent.Costs.{Fit}
use Rattle.qt_round_trip.proofs.extent.Combinators.{Setting, Pays, Of, pays_one, pays_operator, pays_tree, pays_lexemes}
use Rattle.qt_terminals.specs.Literals.{integer_of, bits_of, bit_count, inside_quotes}
use Rattle.qt_lexemes.specs.Operators.{operator_text, sign_text, compound_text}

-- ---- lexemes of a fixed spelling

-- a lexeme that is no longer than 20 bytes for each byte of its token
pub one_fits : (lexeme : Lexeme) (n : ℕ) → IsSpelled lexeme → length lexeme.text ≤ 20 * n → 1 ≤ n → Fit (lexeme ∷ []) (500 * n)
one_fits lexeme n h short some = record { spelled = (h, tt); short = omega arith }

abbrev pub is_fixed : Lexeme → Bool
is_fixed lexeme = among (texts_of lexeme.role) lexeme.text && leb (length lexeme.text) 20

pub fixed_fits : (lexeme : Lexeme) (n : ℕ) → is_fixed lexeme ≡ true → 1 ≤ n → Fit (lexeme ∷ []) (500 * n)
fixed_fits lexeme n h some =
    let short : leb (length lexeme.text) 20 ≡ true = and_right (among (texts_of lexeme.role) lexeme.text) (leb (length lexeme.text) 20) h in
    one_fits lexeme n (text_spelled lexeme.role lexeme.text (and_left (among (texts_of lexeme.role) lexeme.text) (leb (length lexeme.text) 20) h)) (grind (arith, short)) some

-- tokens that aren't the end, printed as this lexeme
abbrev pub IsPrintedAs : List ℕ → Lexeme → Type 0
IsPrintedAs ws lexeme = (not (member 0 ws) && is_fixed lexeme) ≡ true

no_end : (ws : List ℕ) (lexeme : Lexeme) → IsPrintedAs ws lexeme → member 0 ws ≡ false
no_end ws lexeme h = not_false (member 0 ws) (and_left (not (member 0 ws)) (is_fixed lexeme) h)

pub pays_fixed : {z : Setting} {ws : List ℕ} (lexeme : Lexeme) → IsPrintedAs ws lexeme → Pays z (one ws) (Of (λ t. lexeme ∷ []))
pays_fixed {z} {ws} lexeme h = pays_one (no_end ws lexeme h) (λ t f m some. fixed_fits lexeme (length t.spelling) (and_right (not (member 0 ws)) (is_fixed lexeme) h) some)

pub pays_fixed_operator : {z : Setting} {ws : List ℕ} (lexeme : Lexeme) → IsPrintedAs ws lexeme → Pays z (operator ws) (Of (λ t. lexeme ∷ []))
pays_fixed_operator {z} {ws} lexeme h = pays_operator (no_end ws lexeme h) (λ t f m some. fixed_fits lexeme (length t.spelling) (and_right (not (member 0 ws)) (is_fixed lexeme) h) some)

-- a token with one terminal
pub one_terminal : (t : PlacedTerminal) (k : Terminal) → IsTrue (member (code t.terminal) (code k ∷ [])) → t.terminal ≡ k
one_terminal t k h = code_same t.terminal k (grind arith)

-- ---- signs before and behind

module _ {z : Setting} {s : Sort} {f : Form s} {x : Value s → List Lexeme} where
  pub pays_behind : {ws : List ℕ} (first : Lexeme) → IsPrintedAs ws first → Pays z f (Of x) → Pays z (one ws ⊳ f) (Of (λ v. first ∷ x v))
  pays_behind first h a = pays_lexemes (pays_fixed first h) a (λ v w. refl)

  pub pays_before : {ws : List ℕ} (last : Lexeme) → IsPrintedAs ws last → Pays z f (Of x) → Pays z (f ⊲ one ws) (Of (λ v. x v ++ last ∷ []))
  pays_before last h a = pays_lexemes a (pays_fixed last h) (λ v w. refl)

module _ {z : Setting} {s : Sort} {f : Form s} {x : Value s → List Lexeme} where
  pub pays_parens : Pays z f (Of x) → Pays z (parens f) (Of (λ v. parenthesized (x v)))
  pays_parens a = pays_behind (lexeme r.Opening (codes "(")) refl (pays_before (lexeme r.ClosingParenthesis (codes ")")) refl a)

  pub pays_brackets : Pays z f (Of x) → Pays z (brackets f) (Of (λ v. bracketed (x v)))
  pays_brackets a = pays_behind (lexeme r.Opening (codes "[")) refl (pays_before (lexeme r.ClosingBracket (codes "]")) refl a)

  pub pays_braces : Pays z f (Of x) → Pays z (braces f) (Of (λ v. braced (x v)))
  pays_braces a = pays_behind (lexeme r.Opening (codes "{")) refl (pays_before (lexeme r.ClosingBrace (codes "}")) refl a)

  pub pays_ended : Pays z f (Of x) → Pays z (ended f) (Of (λ v. x v ++ semicolon ∷ []))
  pays_ended a = pays_before semicolon refl a

-- ---- lexemes that copy their token

pub pays_label : {z : Setting} → Pays z a_label (Of name_lexemes)
pays_label = pays_tree (pays_one {F = λ t n. Fit (name t.spelling ∷ []) n} refl (λ t f m some. one_fits (name t.spelling) (length t.spelling) (f.name (one_terminal t w.Name m)) (omega arith) some)) (λ t n h. h)

-- ---- numbers and texts

abbrev pub number_of : PlacedTerminal → ℕ
number_of t = integer_of t.spelling % 2 ^ 64

small : (n : ℕ) → n % 2 ^ 64 < 2 ^ 64
small n = omega arith

pub pays_number : {z : Setting} → Pays z (exactly w.Integer) (Of (λ t. integer (number_of t) ∷ []))
pays_number {z} = pays_one refl (λ t f m some. one_fits (integer (number_of t)) (length t.spelling) (z.numbers (number_of t) (small (integer_of t.spelling))).spelled (omega (arith, (z.numbers (number_of t) (small (integer_of t.spelling))).short)) some)

pub pays_decimal : {z : Setting} → Pays z (exactly w.Decimal) (Of (λ t. lexeme r.Decimal t.spelling ∷ []))
pays_decimal = pays_one refl (λ t f m some. one_fits (lexeme r.Decimal t.spelling) (length t.spelling) (f.decimal (one_terminal t w.Decimal m)) (omega arith) some)

pub pays_bits : {z : Setting} → Pays z (exactly w.BitText) (Of (λ t. bits (bits_of t.spelling) (bit_count t.spelling) ∷ []))
pays_bits = pays_one refl (λ t f m some. let a = f.bits (one_terminal t w.BitText m) in one_fits (bits (bits_of t.spelling) (bit_count t.spelling)) (length t.spelling) a.spelled (omega (arith, a.short)) some)

-- one of two terminals
two_terminals : (t : PlacedTerminal) (k l : Terminal) → IsTrue (member (code t.terminal) (code k ∷ code l ∷ [])) → (t.terminal ≡ k) ⊎ (t.terminal ≡ l)
two_terminals t k l h = either (code t.terminal) (code k) (code l) (code_same t.terminal k) (code_same t.terminal l) h
  where
    either : {P Q : Type 0} (n k l : ℕ) → (n ≡ k → P) → (n ≡ l → Q) → IsTrue (member n (k ∷ l ∷ [])) → P ⊎ Q
    either n k l p q h = let d : (n ≡ k) ⊎ (n ≡ l) = grind arith in elim d [ inl e ↦ inl (p e) | inr e ↦ inr (q e) ]

pub pays_quotation : {z : Setting} → Pays z (one (code w.Text ∷ code w.BitText ∷ [])) (Of (λ t. quotation (inside_quotes t.spelling) ∷ []))
pays_quotation = pays_one refl (λ t f m some. let a = f.quotation (two_terminals t w.Text w.BitText m) in one_fits (quotation (inside_quotes t.spelling)) (length t.spelling) a.spelled (omega (arith, a.short)) some)

-- ---- operators

operator_fixed : (op : InfixOperator) → is_fixed (operator_lexeme (operator_text op)) ≡ true
operator_fixed b.LogicalOr = refl
operator_fixed _ = refl

sign_fixed : (op : PrefixOperator) → is_fixed (lexeme r.Sign (sign_text op)) ≡ true
sign_fixed u.Not = refl
sign_fixed _ = refl

compound_fixed : (k : Terminal) → is_fixed (operator_lexeme (compound_text (compound_op k))) ≡ true
compound_fixed w.PlusAssign = refl
compound_fixed _ = refl

module _ {z : Setting} {ws : List ℕ} where
  pub pays_binary : member 0 ws ≡ false → Pays z (operator ws) (Of (λ t. operator_lexeme (operator_text (binary_op t.terminal)) ∷ []))
  pays_binary h = pays_operator h (λ t f m some. fixed_fits (operator_lexeme (operator_text (binary_op t.terminal))) (length t.spelling) (operator_fixed (binary_op t.terminal)) some)

  pub pays_unary : member 0 ws ≡ false → Pays z (operator ws) (Of (λ t. lexeme r.Sign (sign_text (unary_op t.terminal)) ∷ []))
  pays_unary h = pays_operator h (λ t f m some. fixed_fits (lexeme r.Sign (sign_text (unary_op t.terminal))) (length t.spelling) (sign_fixed (unary_op t.terminal)) some)

  pub pays_compound : member 0 ws ≡ false → Pays z (one ws) (Of (λ t. operator_lexeme (compound_text (compound_op t.terminal)) ∷ []))
  pays_compound h = pays_one h (λ t f m some. fixed_fits (operator_lexeme (compound_text (compound_op t.terminal))) (length t.spelling) (compound_fixed t.terminal) some)
