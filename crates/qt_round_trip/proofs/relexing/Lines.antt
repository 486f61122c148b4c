-- The text of lines gives one token for each of their lexemes.
use Rattle.std.proofs.Common.{◌≡◌, ℕ, zero, suc, ◌+◌, ◌≤◌, ◌<◌, inl, Bool, true, false, eqb, cond, List, [], ◌∷◌, ◌++◌, Option, Some, None, length, refl, sym, ◌∙◌, ap, subst, arith, length-append}
use Rattle.qt_lex.specs.declared.tokens.Kind.TheVariants as kind
use Rattle.qt_lex.specs.declared.tokens.Token.{Token}
use Rattle.qt_lex.specs.Bytes.{byte, is_blank, stands}
use Rattle.qt_lex.specs.Tokens.{Lexes, stop, gap, token, token_of}
use Rattle.qt_lex.proofs.Tables.{and_left, and_right, eqb_same, all_are}
use Rattle.qt_lexemes.specs.declared.role.Role.{Role}
use Rattle.qt_lexemes.specs.Spacing as spacing
use Rattle.qt_lexemes.specs.Spacing.{has_space}
use Rattle.qt_lexemes.specs.Lexemes.{Lexeme}
use Rattle.qt_print.specs.Statements.{Line}
use Rattle.qt_print.specs.Text.{margin, spread, line_text, lines_text}
use Rattle.qt_round_trip.proofs.lexemes.Spelling.{kind_of, IsSpelledAs, IsSpelled, AllLexemes, AllLines}
use Rattle.qt_round_trip.proofs.lexemes.Written.{lexemes_of}
use Rattle.qt_round_trip.proofs.relexing.Agreeing.{stands_split, stands_byte}
use Rattle.qt_round_trip.proofs.relexing.Touching.{ends, found, spelled_some, space_ends, line_feed_ends, touch}

-- a token is a lexeme that stands in a text that ends here
pub record IsLexemeAt (b : ℕ → ℕ) (end : ℕ) (t : Token) (lexeme : Lexeme) : Type 0 where
  pub kind : t.kind ≡ kind_of lexeme.role
  pub here : stands b lexeme.text t.start ≡ true
  pub stop : t.end ≡ t.start + length lexeme.text
  pub within : t.end ≤ end

abbrev pub AreAtEnd : List Token → Type 0
AreAtEnd [] = ⊥
AreAtEnd (t ∷ ts) = t.kind ≡ kind.End

-- tokens are these lexemes, and then the end
abbrev pub AreLexemesAt : (ℕ → ℕ) → ℕ → List Lexeme → List Token → Type 0
AreLexemesAt b end [] tokens = AreAtEnd tokens
AreLexemesAt b end (lexeme ∷ lexemes) [] = ⊥
AreLexemesAt b end (lexeme ∷ lexemes) (t ∷ tokens) = IsLexemeAt b end t lexeme × AreLexemesAt b end lexemes tokens

margin_is_blank : (depth : ℕ) → all_are is_blank (margin depth) ≡ true
margin_is_blank zero = refl
margin_is_blank (suc depth) = margin_is_blank depth

gap_is_blank : (last : Option Role) (following : Role) → all_are is_blank (spacing.gap last following) ≡ true
gap_is_blank None following = refl
gap_is_blank (Some last) following = at_test (has_space last following)
  where
    at_test : (v : Bool) → all_are is_blank (cond v (32 ∷ []) []) ≡ true
    at_test true = refl
    at_test false = refl

module _ (b : ℕ → ℕ) where
  -- the byte behind a lexeme doesn't go on with it
  ends_next : (role : Role) (text : List ℕ) → IsSpelledAs role text → (lexemes : List Lexeme) → AllLexemes IsSpelled lexemes → (i : ℕ)
      → stands b (spread (Some role) lexemes) i ≡ true → b (i + length (spread (Some role) lexemes)) ≡ 10 → ends role text (b i) ≡ true
  ends_next role text h [] all i here feed = let z : i ≡ i + 0 = omega arith in ap (ends role text) (ap b z ∙ feed) ∙ line_feed_ends role text h
  ends_next role text h (lexeme ∷ lexemes) all i here feed = at_test (has_space role lexeme.role) refl here
    where
      rest : List ℕ
      rest = lexeme.text ++ spread (Some lexeme.role) lexemes

      at_test : (v : Bool) → has_space role lexeme.role ≡ v → stands b (cond v (32 ∷ []) [] ++ rest) i ≡ true → ends role text (b i) ≡ true
      at_test true e g = ap (ends role text) (eqb_same (b i) 32 (and_left (eqb (b i) 32) (stands b rest (i + 1)) g)) ∙ space_ends role text h
      at_test false e g =
          let z : i ≡ i + 0 = omega arith in
          let s = stands_split b lexeme.text (spread (Some lexeme.role) lexemes) i g in
          let first : b i ≡ byte lexeme.text 0 = ap b z ∙ stands_byte b lexeme.text i 0 s.0 (spelled_some lexeme.role lexeme.text all.0) in
          ap (ends role text) first ∙ touch role lexeme.role text lexeme.text h all.0 e

  module _ (file end : ℕ) where
    gap_before : (g : List ℕ) (i : ℕ) (tokens : List Token) → all_are is_blank g ≡ true → stands b g i ≡ true → i + length g ≤ end
        → Lexes b file end (i + length g) tokens → Lexes b file end i tokens
    gap_before [] i tokens h s le t = let z : i + 0 ≡ i = omega arith in subst (λ k. Lexes b file end k tokens) z t
    gap_before (x ∷ xs) i tokens h s le t =
        let z : i + length (x ∷ xs) ≡ (i + 1) + length xs = omega arith in
        gap (i + 1) (omega (arith, le)) (inl (ap is_blank (eqb_same (b i) x (and_left (eqb (b i) x) _ s)) ∙ and_left (is_blank x) _ h, refl))
        (gap_before xs (i + 1) tokens (and_right (is_blank x) _ h) (and_right (eqb (b i) x) _ s) (omega (arith, le)) (subst (λ k. Lexes b file end k tokens) z t))

    -- the lexemes of a line, before its line feed
    line_lexes : (lexemes : List Lexeme) → AllLexemes IsSpelled lexemes → (last : Option Role) (i : ℕ) → stands b (spread last lexemes) i ≡ true
        → b (i + length (spread last lexemes)) ≡ 10 → i + length (spread last lexemes) < end
        → (more : List Lexeme) (rest : List Token) → Lexes b file end (i + length (spread last lexemes)) rest → AreLexemesAt b end more rest
        → (tokens : List Token) × Lexes b file end i tokens × AreLexemesAt b end (lexemes ++ more) tokens
    line_lexes [] all last i here feed lt more rest lexes are = let z : i + 0 ≡ i = omega arith in (rest, subst (λ k. Lexes b file end k rest) z lexes, are)
    line_lexes (lexeme ∷ lexemes) all last i here feed lt more rest lexes are =
        let g = spacing.gap last lexeme.role in
        let tail = spread (Some lexeme.role) lexemes in
        let s = stands_split b g (lexeme.text ++ tail) i here in
        let p = i + length g in
        let t = stands_split b lexeme.text tail p s.1 in
        let q = p + length lexeme.text in
        let z : i + length (spread last (lexeme ∷ lexemes)) ≡ q + length tail = omega (arith, length-append g (lexeme.text ++ tail), length-append lexeme.text tail) in
        let feed' : b (q + length tail) ≡ 10 = ap b (sym z) ∙ feed in
        let lt' : q + length tail < end = omega (arith, z, lt) in
        let f = found b lexeme.text p t.0 lexeme.role all.0 (ends_next lexeme.role lexeme.text all.0 lexemes all.1 q t.1 feed') in
        let r = line_lexes lexemes all.1 (Some lexeme.role) q t.1 feed' lt' more rest (subst (λ k. Lexes b file end k rest) z lexes) are in (
          token_of b file (kind_of lexeme.role) p q ∷ r.0,
          gap_before g i (token_of b file (kind_of lexeme.role) p q ∷ r.0) (gap_is_blank last lexeme.role) s.0 (omega (arith, lt'))
              (token {rest = r.0} (kind_of lexeme.role) q (omega (arith, lt')) f.solid f.longest r.1),
          (record { kind = refl; here = t.0; stop = refl; within = omega (arith, lt') }, r.2),
        )

    pub lines_lex : (lines : List Line) → AllLines IsSpelled lines → (i : ℕ) → stands b (lines_text 0 lines) i ≡ true → end ≡ i + length (lines_text 0 lines)
        → (tokens : List Token) × Lexes b file end i tokens × AreLexemesAt b end (lexemes_of lines) tokens
    lines_lex [] all i here e = (token_of b file kind.End i i ∷ [], stop (omega (arith, e)), refl)
    lines_lex (line ∷ lines) all i here e =
        let first = line_text (0 + line.depth) line.lexemes in
        let later = lines_text 0 lines in
        let m = margin (0 + line.depth) in
        let lexemes = spread None line.lexemes in
        let s = stands_split b first later i here in
        let t = stands_split b m (lexemes ++ 10 ∷ []) i s.0 in
        let u = stands_split b lexemes (10 ∷ []) (i + length m) t.1 in
        let p = i + length m in
        let q = p + length lexemes in
        let feed : b q ≡ 10 = eqb_same (b q) 10 (and_left (eqb (b q) 10) true u.1) in
        let n : length first ≡ length m + (length lexemes + 1) = omega (arith, length-append m (lexemes ++ 10 ∷ []), length-append lexemes (10 ∷ [])) in
        let z : i + length first ≡ q + 1 = omega (arith, n) in
        let within : end ≡ (q + 1) + length later = omega (arith, e, z, length-append first later) in
        let r = lines_lex lines all.1 (q + 1) (subst (λ k. stands b later k ≡ true) z s.1) within in
        let l = line_lexes line.lexemes all.0 None p u.0 feed (omega (arith, within)) (lexemes_of lines) r.0
        (gap {rest = r.0} (q + 1) (omega (arith, within)) (inl (ap is_blank feed, refl)) r.1) r.2 in
        (l.0, gap_before m i l.0 (margin_is_blank (0 + line.depth)) t.0 (omega (arith, within)) l.1, l.2)
