-- Two streams of tokens: what was read, and what is written of it. Tokens at corresponding places have the same count of operators.
use Rattle.std.proofs.Common.{◌≡◌, ℕ, ◌+◌, inl, inr, eqb, Bool, true, false, if◌then◌else◌, IsTrue, List, [], ◌∷◌, ◌++◌, map, refl, sym, ◌∙◌, ap, subst, arith}
use Rattle.qt_terminals.specs.declared.terminal.Terminal.{Terminal}
use Rattle.qt_terminals.specs.declared.terminal.Terminal.TheVariants as w
use Rattle.qt_terminals.specs.Alphabet.{code, is_operator}
use Rattle.qt_terminals.specs.Terminals.{PlacedTerminal, behind}
use Rattle.qt_terminals.proofs.Codes.{code_same}
use Rattle.qt_grammar.specs.Form.{member}
use Rattle.qt_grammar.proofs.LookaheadTests.{or_cases, eqb_same}
use Rattle.qt_lexemes.specs.Lexemes.{Lexeme}
use Rattle.qt_round_trip.proofs.literals.Kept.{IsFaithful, AreNumbersAgain}
use Rattle.qt_round_trip.proofs.lexemes.Written.{Written, Counts}
use Rattle.qt_round_trip.proofs.reparsing.Laws.{HasBitTexts}

pub record Streams : Type 0 where
  pub old : ℕ → PlacedTerminal
  pub new : ℕ → PlacedTerminal
  pub old_counts : Counts old
  pub new_counts : Counts new
  pub faithful : (i : ℕ) → IsFaithful (old i)
  pub bit_texts : HasBitTexts old
  pub numbers : AreNumbersAgain

pub written_split : (ts : ℕ → PlacedTerminal) (xs ys : List Lexeme) (i j : ℕ) → Written ts (xs ++ ys) i j → (m : ℕ) × Written ts xs i m × Written ts ys m j
written_split ts [] ys i j h = (i, refl, h)
written_split ts (x ∷ xs) ys i j (a, b, h) = let r = written_split ts xs ys (i + 1) j h in (r.0, (a, b, r.1), r.2)

pub member_same : (n : ℕ) → IsTrue (member n (n ∷ []))
member_same n = grind arith

pub only_member : (n m : ℕ) → IsTrue (member n (m ∷ [])) → n ≡ m
only_member n m h = grind arith

pub terminal_is : (a k : Terminal) → IsTrue (member (code a) (code k ∷ [])) → a ≡ k
terminal_is a k h = code_same a k (only_member (code a) (code k) h)

pub terminal_in : (a k : Terminal) → a ≡ k → IsTrue (member (code a) (code k ∷ []))
terminal_in a k e = subst (λ t. IsTrue (member (code a) (code t ∷ []))) e (member_same (code a))

abbrev pub AllOf : (Terminal → Type 0) → List Terminal → Type 0
AllOf P [] = Unit {0}
AllOf P (k ∷ ks) = P k × AllOf P ks

-- what holds of each terminal of a list holds of a terminal whose number is among theirs
pub each_of : (P : Terminal → Type 0) (terminals : List Terminal) → AllOf P terminals → (k : Terminal) → IsTrue (member (code k) (map code terminals)) → P k
each_of P [] all k h = cc h
each_of P (first ∷ rest) all k h = elim (or_cases (eqb (code k) (code first)) (member (code k) (map code rest)) h) [
  | inl e ↦ subst P (sym (code_same k first (eqb_same (code k) (code first) e))) all.0
  | inr g ↦ each_of P rest all.1 k g
]

-- a terminal of a list that has no number of the end is not the end
not_end : (ws : List ℕ) → member 0 ws ≡ false → (a : Terminal) → IsTrue (member (code a) ws) → a ≡ w.End → ⊥
not_end ws free a h e = let t : member 0 ws ≡ true = subst (λ x. IsTrue (member (code x) ws)) e h in cc (t, free)

-- the count behind a token
pub counted_behind : (ts : ℕ → PlacedTerminal) → Counts ts → (i : ℕ) (ws : List ℕ) → member 0 ws ≡ false → IsTrue (member (code ((ts i).terminal)) ws) → (ts (i + 1)).operators ≡ behind ((ts i).operators) ((ts i).terminal)
counted_behind ts c i ws free h = c i (not_end ws free ((ts i).terminal) h)

module _ (z : Streams) where
  -- the tokens at corresponding places
  abbrev pub At : ℕ → ℕ → Type 0
  At i i' = (z.old i).operators ≡ (z.new i').operators

  -- one token further on both sides
  pub one_further : (i i' : ℕ) (ws ws' : List ℕ) → member 0 ws ≡ false → member 0 ws' ≡ false → IsTrue (member (code ((z.old i).terminal)) ws) → IsTrue (member (code ((z.new i').terminal)) ws')
      → is_operator ((z.old i).terminal) ≡ is_operator ((z.new i').terminal) → At i i' → At (i + 1) (i' + 1)
  one_further i i' ws ws' free free' h h' same at =
      counted_behind z.old z.old_counts i ws free h
      ∙ (ap (λ n. behind n ((z.old i).terminal)) at
      ∙ (ap (λ (b : Bool). if b then (z.new i').operators + 1 else (z.new i').operators) same
      ∙ sym (counted_behind z.new z.new_counts i' ws' free' h')))
