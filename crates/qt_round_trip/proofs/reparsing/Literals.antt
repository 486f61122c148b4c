-- Tokens whose spelling is part of the tree: names, numbers, bit strings.
use Rattle.std.proofs.Common.{◌≡◌, ℕ, ◌^◌, ◌%◌, ◌<◌, Bool, true, false, List, [], ◌∷◌, if◌then◌else◌, Option, refl, sym, ◌∙◌, ap, arith, codes}
use Rattle.std.specs.Fmt.{decimal}
use Rattle.qt_tree.specs.declared.expression.Expr.TheVariants as e
use Rattle.qt_terminals.specs.declared.terminal.Terminal.TheVariants as w
use Rattle.qt_terminals.specs.declared.terminal.Terminal.{Terminal}
use Rattle.qt_terminals.specs.Alphabet.{code, is_operator}
use Rattle.qt_terminals.specs.Terminals.{PlacedTerminal}
use Rattle.qt_terminals.specs.Literals.{integer_of, bits_of, bit_count}
use Rattle.qt_grammar.specs.Form.{member, ReadsOne}
use Rattle.qt_grammar.specs.Language.{exactly, a_label, names, literal, literals}
use Rattle.qt_lexemes.specs.declared.role.Role.TheVariants as r
use Rattle.qt_lexemes.specs.Lexemes.{Lexeme, lexeme, integer, bits, keyword}
use Rattle.qt_print.specs.Expressions.{expr_lexemes}
use Rattle.qt_print.specs.Programs.{name_lexemes, names_lexemes}
use Rattle.qt_print.proofs.Equations.{whole_lexemes, bits_lexemes, pi_lexemes, tau_lexemes, truth_lexemes}
use Rattle.qt_round_trip.proofs.literals.Kept.{AreNumbersAgain}
use Rattle.qt_round_trip.proofs.lexemes.Spelling.{meaning}
use Rattle.qt_round_trip.proofs.reparsing.Streams.{Streams, terminal_in, terminal_is}
use Rattle.qt_round_trip.proofs.reparsing.Fixed.{integer_means, text_means}
use Rattle.qt_round_trip.proofs.reparsing.Again.{Again, Any, Kept, again-one}
use Rattle.qt_round_trip.proofs.reparsing.Plain.{plain-label}
use Rattle.qt_round_trip.proofs.reparsing.Forms.{form-lexeme, form-as, form-either, form-commas}
use Rattle.qt_lexemes.specs.Literals.{bit_text}
use Rattle.qt_round_trip.proofs.reparsing.BitTexts.{bit_text_again}
use Rattle.qt_round_trip.proofs.reparsing.Setting.{Setting, Reader, Rereads}

-- a token of one terminal, printed as a lexeme that means the same
pub again-literal : {z : Streams} (k : Terminal) (m : PlacedTerminal → Lexeme) → member 0 (code k ∷ []) ≡ false → ((i : ℕ) → (z.old i).terminal ≡ k → meaning (m (z.old i)) ≡ k)
    → Again z (ReadsOne z.old (code k ∷ [])) (ReadsOne z.new (code k ∷ [])) (λ t l. m t ∷ [] ≡ l) (Kept (code k ∷ []) m) Any
again-literal {z} k m free means = again-one z (code k ∷ []) (code k ∷ []) m free free
    (λ i h. let is_k = terminal_is ((z.old i).terminal) k h in (terminal_in (meaning (m (z.old i))) k (means i is_k), ap is_operator (is_k ∙ sym (means i is_k))))

-- a number's decimal digits are read as the number
pub number_kept : AreNumbersAgain → (n : ℕ) (text : List ℕ) → text ≡ decimal (n % 2 ^ 64) → n % 2 ^ 64 ≡ integer_of text % 2 ^ 64
number_kept again n text h =
    let small : n % 2 ^ 64 < 2 ^ 64 = omega arith in
    let same : integer_of text ≡ n % 2 ^ 64 = ap integer_of h ∙ (again (n % 2 ^ 64) small).value in
    omega (arith, same)

module _ (s : Setting) (outer : Option ℕ) where
  pub literal-again : (k : Terminal) (m : PlacedTerminal → Lexeme) → member 0 (code k ∷ []) ≡ false → ((i : ℕ) → (s.streams.old i).terminal ≡ k → meaning (m (s.streams.old i)) ≡ k)
      → Reader s outer (exactly k) (exactly k) (λ t l. m t ∷ [] ≡ l) (Kept (code k ∷ []) m) Any
  literal-again k m free means = record { reads = again-literal k m free means }

  pub label-again : Rereads s outer a_label name_lexemes
  label-again = record { reads = plain-label }

  pub names-again : Rereads s outer names names_lexemes
  names-again = form-commas label-again

  whole-again : Rereads s outer (literal w.Integer (λ c. e.Whole (integer_of c % 2 ^ 64))) expr_lexemes
  whole-again = form-as (literal-again w.Integer (λ t. integer (integer_of t.spelling % 2 ^ 64)) refl (λ i h. integer_means (integer_of ((s.streams.old i).spelling) % 2 ^ 64)))
      (λ t. e.Whole (integer_of t.spelling % 2 ^ 64)) (λ v l. expr_lexemes v ≡ l) (λ x y. x ≡ y) (λ t l h. whole_lexemes (integer_of t.spelling % 2 ^ 64) ∙ h)
      (λ t t' kept. ap e.Whole (number_kept s.streams.numbers (integer_of t.spelling) t'.spelling kept.3))

  pi-again : Rereads s outer (literal w.Pi (λ c. e.Pi)) expr_lexemes
  pi-again = form-lexeme (lexeme r.Constant (codes "pi")) w.Pi refl e.Pi expr_lexemes pi_lexemes

  tau-again : Rereads s outer (literal w.Tau (λ c. e.Tau)) expr_lexemes
  tau-again = form-lexeme (lexeme r.Constant (codes "tau")) w.Tau refl e.Tau expr_lexemes tau_lexemes

  true-again : Rereads s outer (literal w.True (λ c. e.Bool true)) expr_lexemes
  true-again = form-lexeme (keyword (codes "true")) w.True refl (e.Bool true) expr_lexemes (truth_lexemes true)

  false-again : Rereads s outer (literal w.False (λ c. e.Bool false)) expr_lexemes
  false-again = form-lexeme (keyword (codes "false")) w.False refl (e.Bool false) expr_lexemes (truth_lexemes false)

  bits-again : Rereads s outer (literal w.BitText (λ c. e.BitText (bits_of c) (bit_count c))) expr_lexemes
  bits-again = form-as (literal-again w.BitText printed refl means) (λ t. e.BitText (bits_of t.spelling) (bit_count t.spelling)) (λ v l. expr_lexemes v ≡ l) (λ x y. x ≡ y)
      (λ t l h. bits_lexemes (bits_of t.spelling) (bit_count t.spelling) ∙ h)
      (λ t t' kept.
      let again = kept.1.bits (terminal_is t.terminal w.BitText kept.0) in
      ap (λ n. e.BitText n (bit_count t.spelling)) (sym again.value ∙ ap bits_of (sym kept.3)) ∙ ap (e.BitText (bits_of t'.spelling)) (sym again.count ∙ ap bit_count (sym kept.3)))
    where
      printed : PlacedTerminal → Lexeme
      printed t = bits (bits_of t.spelling) (bit_count t.spelling)

      means : (i : ℕ) → (s.streams.old i).terminal ≡ w.BitText → meaning (printed (s.streams.old i)) ≡ w.BitText
      means i h =
          let t = s.streams.old i in
          let text = bit_text (bits_of t.spelling) (bit_count t.spelling) in
          text_means text ∙ ap (λ (b : Bool). if b then w.BitText else w.Text) (bit_text_again t.spelling text (s.streams.bit_texts i h) ((s.streams.faithful i).bits h).count)

  pub literals-again : Rereads s outer literals expr_lexemes
  literals-again = form-either whole-again (form-either bits-again (form-either pi-again (form-either tau-again (form-either true-again false-again))))
