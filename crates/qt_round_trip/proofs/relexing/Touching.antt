-- What the spacing puts behind a lexeme ends it: a space, a line feed, or a lexeme that doesn't go on with it.
use Rattle.std.proofs.Common.{◌≡◌, ℕ, ◌+◌, ◌<◌, Bool, true, false, not, ◌&&◌, ◌||◌, eqb, List, [], ◌∷◌, length, codes, refl, arith}
use Rattle.qt_lex.specs.declared.tokens.Kind.TheVariants as kind
use Rattle.qt_lex.specs.Bytes.{byte, is_digit, is_name_start, is_quote, symbols, reserved_words, constants, stands}
use Rattle.qt_lex.proofs.Tables.{and_left, and_right, or_left, or_no_left, or_no_right, not_false}
use Rattle.qt_lex.proofs.Heads.{may_begin_number, whole_head, decimal_head}
use Rattle.qt_lex.proofs.Spans.{token_some}
use Rattle.qt_lexemes.specs.declared.role.Role.{Role}
use Rattle.qt_lexemes.specs.declared.role.Role.TheVariants as r
use Rattle.qt_lexemes.specs.Spacing.{is_spaced, is_item, is_body_start, has_space}
use Rattle.qt_round_trip.proofs.lexemes.Spelling.{kind_of, IsAmong, IsSpelledAs}
use Rattle.qt_round_trip.proofs.lexemes.Tables.{among, texts_of}
use Rattle.qt_round_trip.proofs.relexing.Following.{continues, ends_symbol, begins, each, each_among}
use Rattle.qt_round_trip.proofs.relexing.Longest.{Found, name_found, reserved_found, constant_found, integer_found, decimal_found, text_found, symbol_found}

-- may this byte stand right behind this lexeme?
abbrev pub ends : Role → List ℕ → ℕ → Bool
ends r.Name text c = not (continues c)
ends r.Integer text c = not (continues c)
ends r.Decimal text c = not (continues c)
ends r.Text text c = true
ends r.Constant text c = not (continues c)
ends r.Keyword text c = not (continues c)
ends r.Head text c = not (continues c)
ends r.Else text c = not (continues c)
ends r.In text c = not (continues c)
ends _ text c = ends_symbol text c

-- ---- the tables

abbrev signs : List (List ℕ)
signs = codes "!" ∷ codes "~" ∷ codes "-" ∷ []

abbrev openings : List (List ℕ)
openings = codes "(" ∷ codes "[" ∷ codes "{" ∷ []

abbrev letters : List (List ℕ)
letters = codes "pi" ∷ codes "tau" ∷ []

abbrev is_symbol : List ℕ → Bool
is_symbol text = among symbols text && (not (begins (codes "//") text) && not (begins (codes "/*") text))

abbrev ends_blank : List ℕ → Bool
ends_blank text = ends_symbol text 32 && ends_symbol text 10

reserved_are : each (among reserved_words) reserved_words ≡ true
reserved_are = refl

symbols_are : each is_symbol symbols ≡ true
symbols_are = refl

symbols_end : each ends_blank symbols ≡ true
symbols_end = refl

-- ---- each lexeme is found where it stands

module _ (b : ℕ → ℕ) (text : List ℕ) (i : ℕ) (here : stands b text i ≡ true) where
  keyword_found : IsAmong reserved_words text → not (continues (b (i + length text))) ≡ true → Found b (kind_of r.Keyword) i (i + length text)
  keyword_found h e = reserved_found b text i here (each_among (among reserved_words) reserved_words text reserved_are h) (not_false (continues (b (i + length text))) e)

  sign_found : is_symbol text ≡ true → ends_symbol text (b (i + length text)) ≡ true → Found b (kind_of r.Operator) i (i + length text)
  sign_found h e =
      let rest : (not (begins (codes "//") text) && not (begins (codes "/*") text)) ≡ true = and_right (among symbols text) _ h in
      symbol_found b text i here (and_left (among symbols text) _ h) (not_false _ (and_left (not (begins (codes "//") text)) _ rest)) (not_false _ (and_right (not (begins (codes "//") text)) _ rest)) e

  pub found : (role : Role) → IsSpelledAs role text → ends role text (b (i + length text)) ≡ true → Found b (kind_of role) i (i + length text)
  found r.Name h e = name_found b text i here h (not_false (continues (b (i + length text))) e)
  found r.Integer h e = integer_found b text i here h (not_false (continues (b (i + length text))) e)
  found r.Decimal h e = decimal_found b text i here h (not_false (continues (b (i + length text))) e)
  found r.Text h e = text_found b text i here h
  found r.Constant h e = constant_found b text i here (each_among (among letters) letters text refl h) (each_among (among constants) letters text refl h) (not_false (continues (b (i + length text))) e)
  found r.Keyword h e = keyword_found h e
  found r.Head h e = keyword_found h e
  found r.Else h e = keyword_found h e
  found r.In h e = keyword_found h e
  found r.Operator h e = sign_found (each_among is_symbol symbols text symbols_are h) e
  found role h e = sign_found (each_among is_symbol (texts_of role) text refl h) e

-- ---- no lexeme is empty

some_among : (t : List (List ℕ)) (text : List ℕ) → each (λ x. not (eqb (length x) 0)) t ≡ true → IsAmong t text → 0 < length text
some_among t text h m = at_length (length text) (each_among (λ x. not (eqb (length x) 0)) t text h m)
  where
    at_length : (n : ℕ) → not (eqb n 0) ≡ true → 0 < n
    at_length n g = grind arith

pub spelled_some : (role : Role) (text : List ℕ) → IsSpelledAs role text → 0 < length text
spelled_some r.Name text h = h.0.some
spelled_some r.Integer text h = token_some (byte text) kind.Integer 0 (length text) h
spelled_some r.Decimal text h = token_some (byte text) kind.Decimal 0 (length text) h
spelled_some r.Text text h = token_some (byte text) kind.Text 0 (length text) h
spelled_some role text h = some_among (texts_of role) text refl h

-- ---- blanks

blank_ends : (role : Role) (text : List ℕ) → IsSpelledAs role text → (ends role text 32 && ends role text 10) ≡ true
blank_ends r.Operator text h = each_among ends_blank symbols text symbols_end h
blank_ends r.Sign text h = each_among ends_blank signs text refl h
blank_ends r.Comma text h = each_among ends_blank (codes "," ∷ []) text refl h
blank_ends r.Colon text h = each_among ends_blank (codes ":" ∷ []) text refl h
blank_ends r.Semicolon text h = each_among ends_blank (codes ";" ∷ []) text refl h
blank_ends r.Opening text h = each_among ends_blank openings text refl h
blank_ends r.ClosingParenthesis text h = each_among ends_blank (codes ")" ∷ []) text refl h
blank_ends r.ClosingBracket text h = each_among ends_blank (codes "]" ∷ []) text refl h
blank_ends r.ClosingBrace text h = each_among ends_blank (codes "}" ∷ []) text refl h
blank_ends r.BodyStart text h = each_among ends_blank (codes "{" ∷ []) text refl h
blank_ends r.BodyEnd text h = each_among ends_blank (codes "}" ∷ []) text refl h
blank_ends _ text h = refl

pub space_ends : (role : Role) (text : List ℕ) → IsSpelledAs role text → ends role text 32 ≡ true
space_ends role text h = and_left (ends role text 32) (ends role text 10) (blank_ends role text h)

pub line_feed_ends : (role : Role) (text : List ℕ) → IsSpelledAs role text → ends role text 10 ≡ true
line_feed_ends role text h = and_right (ends role text 32) (ends role text 10) (blank_ends role text h)

-- ---- neighbours

-- the first byte of what may stand right behind a name, a number or a keyword
blunt : (role : Role) (text : List ℕ) → IsSpelledAs role text → (is_spaced role || (is_body_start role || is_item role)) ≡ false → not (continues (byte text 0)) ≡ true
blunt r.Sign text h e = each_among (λ x. not (continues (byte x 0))) signs text refl h
blunt r.Comma text h e = each_among (λ x. not (continues (byte x 0))) (codes "," ∷ []) text refl h
blunt r.Colon text h e = each_among (λ x. not (continues (byte x 0))) (codes ":" ∷ []) text refl h
blunt r.Semicolon text h e = each_among (λ x. not (continues (byte x 0))) (codes ";" ∷ []) text refl h
blunt r.Opening text h e = each_among (λ x. not (continues (byte x 0))) openings text refl h
blunt r.ClosingParenthesis text h e = each_among (λ x. not (continues (byte x 0))) (codes ")" ∷ []) text refl h
blunt r.ClosingBracket text h e = each_among (λ x. not (continues (byte x 0))) (codes "]" ∷ []) text refl h
blunt r.ClosingBrace text h e = each_among (λ x. not (continues (byte x 0))) (codes "}" ∷ []) text refl h
blunt r.BodyEnd text h e = each_among (λ x. not (continues (byte x 0))) (codes "}" ∷ []) text refl h
blunt _ text h e = cc e

-- no second byte of a sign
abbrev is_mild : ℕ → Bool
is_mild c = not (eqb c 61 || eqb c 62)

name_mild : (c : ℕ) → is_name_start c ≡ true → is_mild c ≡ true
name_mild c h = grind arith

number_mild : (c : ℕ) → may_begin_number c ≡ true → is_mild c ≡ true
number_mild c h = grind arith

quote_mild : (c : ℕ) → is_quote c ≡ true → is_mild c ≡ true
quote_mild c h = grind arith

integer_mild : (text : List ℕ) → IsSpelledAs r.Integer text → is_mild (byte text 0) ≡ true
integer_mild text (q, s, w, small) = number_mild (byte text 0) (or_left (is_digit (byte text 0)) _ (whole_head (byte text) q s 0 (length text) w))

mild : (role : Role) (text : List ℕ) → IsSpelledAs role text → is_spaced role ≡ false → is_mild (byte text 0) ≡ true
mild r.Name text h e = name_mild (byte text 0) h.0.first
mild r.Integer text h e = integer_mild text h
mild r.Decimal text h e = number_mild (byte text 0) (decimal_head (byte text) 0 (length text) h)
mild r.Text text h e = quote_mild (byte text 0) h.0.quote
mild r.In text h e = cc e
mild r.Operator text h e = cc e
mild role text h e = each_among (λ x. is_mild (byte x 0)) (texts_of role) text refl h

mild_ends : (c : ℕ) → is_mild c ≡ true → each (λ x. ends_symbol x c) signs ≡ true
mild_ends c h = grind arith

-- two lexemes with no space between don't join
pub touch : (last following : Role) (text text' : List ℕ) → IsSpelledAs last text → IsSpelledAs following text' → has_space last following ≡ false → ends last text (byte text' 0) ≡ true
touch r.Name following text text' h g e = blunt following text' g e
touch r.Integer following text text' h g e = blunt following text' g e
touch r.Decimal following text text' h g e = blunt following text' g e
touch r.Constant following text text' h g e = blunt following text' g e
touch r.Keyword following text text' h g e = blunt following text' g e
touch r.Else following text text' h g e = blunt following text' g e
touch r.Head following text text' h g e = absurd (let a : (is_body_start following || true) ≡ false = or_no_right (is_spaced following) _ e in let t : true ≡ false = or_no_right (is_body_start following) true a in cc t)
touch r.In following text text' h g e = cc e
touch r.Operator following text text' h g e = cc e
touch r.Text following text text' h g e = refl
touch r.Sign following text text' h g e = each_among (λ x. ends_symbol x (byte text' 0)) signs text (mild_ends (byte text' 0) (mild following text' g (or_no_left (is_spaced following) _ e))) h
touch last following text text' h g e = each_among (λ x. ends_symbol x (byte text' 0)) (texts_of last) text refl h
