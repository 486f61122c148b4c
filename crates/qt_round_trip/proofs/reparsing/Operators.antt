-- The operators that are printed mean what was read: binary ones, unary ones, and those of assignments.
use Rattle.std.proofs.Common.{◌≡◌, ℕ, Bool, false, true, ◌&&◌, eqb, IsTrue, List, [], ◌∷◌, map, codes, refl}
use Rattle.qt_lex.proofs.Tables.{and_left, and_right, eqb_same}
use Rattle.qt_terminals.specs.declared.terminal.Terminal.{Terminal}
use Rattle.qt_terminals.specs.declared.terminal.Terminal.TheVariants as w
use Rattle.qt_terminals.specs.Alphabet.{code, terminal_of, symbols}
use Rattle.qt_terminals.proofs.Codes.{code_same}
use Rattle.qt_grammar.specs.Form.{member}
use Rattle.qt_grammar.specs.Language.{binary_op, unary_op, compound_op, compounds, levels}
use Rattle.qt_grammar.proofs.LookaheadTests.{subset}
use Rattle.qt_lexemes.specs.declared.role.Role.TheVariants as r
use Rattle.qt_lexemes.specs.Lexemes.{Lexeme, lexeme, operator}
use Rattle.qt_lexemes.specs.Operators.{operator_text, sign_text, compound_text}
use Rattle.qt_round_trip.proofs.lexemes.Spelling.{meaning}
use Rattle.qt_round_trip.proofs.reparsing.Streams.{AllOf, each_of}

-- what is printed for a terminal that is a binary operator, a unary one, a compound assignment
abbrev pub printed_binary : Terminal → Lexeme
printed_binary k = operator (operator_text (binary_op k))

abbrev pub printed_unary : Terminal → Lexeme
printed_unary k = lexeme r.Sign (sign_text (unary_op k))

abbrev pub printed_compound : Terminal → Lexeme
printed_compound k = operator (compound_text (compound_op k))

abbrev binaries : List Terminal
binaries = w.OrOr ∷ w.AndAnd ∷ w.Or ∷ w.Caret ∷ w.And ∷ w.EqualEqual ∷ w.NotEqual ∷ w.Less ∷ w.LessEqual ∷ w.Greater ∷ w.GreaterEqual ∷ w.ShiftLeft ∷ w.ShiftRight ∷ w.Plus ∷ w.Minus ∷ w.Star ∷ w.Slash ∷ w.Percent ∷ []

abbrev unaries : List Terminal
unaries = w.Minus ∷ w.Bang ∷ w.Tilde ∷ []

abbrev assigning : List Terminal
assigning = w.PlusAssign ∷ w.MinusAssign ∷ w.StarAssign ∷ w.SlashAssign ∷ w.PercentAssign ∷ w.StarStarAssign ∷ w.AndAssign ∷ w.OrAssign ∷ w.CaretAssign ∷ w.ShiftLeftAssign ∷ w.ShiftRightAssign ∷ []

abbrev pub binary_ops : List ℕ
binary_ops = map code binaries

abbrev pub unary_ops : List ℕ
unary_ops = map code unaries

-- what is printed for each of these terminals means the terminal
abbrev all_mean : (Terminal → Lexeme) → List Terminal → Bool
all_mean printed [] = true
all_mean printed (k ∷ ks) = eqb (code (meaning (printed k))) (code k) && all_mean printed ks

each_means : (printed : Terminal → Lexeme) (ks : List Terminal) → all_mean printed ks ≡ true → AllOf (λ k. meaning (printed k) ≡ k) ks
each_means printed [] h = tt
each_means printed (k ∷ ks) h = (code_same (meaning (printed k)) k (eqb_same _ (code k) (and_left _ (all_mean printed ks) h)), each_means printed ks (and_right _ (all_mean printed ks) h))

pub binary_means : (k : Terminal) → IsTrue (member (code k) binary_ops) → meaning (printed_binary k) ≡ k
unfolding terminal_of symbols
binary_means = each_of (λ k. meaning (printed_binary k) ≡ k) binaries (each_means printed_binary binaries refl)

pub unary_means : (k : Terminal) → IsTrue (member (code k) unary_ops) → meaning (printed_unary k) ≡ k
unfolding terminal_of symbols
unary_means = each_of (λ k. meaning (printed_unary k) ≡ k) unaries (each_means printed_unary unaries refl)

pub compound_means : (k : Terminal) → IsTrue (member (code k) compounds) → meaning (printed_compound k) ≡ k
unfolding terminal_of symbols
compound_means = each_of (λ k. meaning (printed_compound k) ≡ k) assigning (each_means printed_compound assigning refl)

pub power_means : (k : Terminal) → IsTrue (member (code k) (code w.StarStar ∷ [])) → meaning (operator (codes "**")) ≡ k
unfolding terminal_of symbols
power_means = each_of (λ k. meaning (operator (codes "**")) ≡ k) (w.StarStar ∷ []) (refl, tt)

-- each of these lists has binary operators, and not the end of a text
abbrev pub AreOperators : List (List ℕ) → Type 0
AreOperators [] = Unit {0}
AreOperators (ops ∷ more) = (member 0 ops ≡ false) × (subset ops binary_ops ≡ true) × AreOperators more

pub levels_operators : AreOperators levels
levels_operators =
    (refl, refl, (refl, refl, (refl, refl, (refl, refl, (refl, refl, (refl, refl, (refl, refl, (refl, refl, (refl, refl, (refl, refl, tt))))))))))
