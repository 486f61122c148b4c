-- Alternatives in turn: the one that begins with the next terminal is read.
use Rattle.std.proofs.Common.{◌≡◌, ℕ, zero, suc, ◌||◌, ◌++◌, List, [], ◌∷◌, Bool, true, false, eqb, if◌then◌else◌, Option, ◌∙◌, refl, sym, subst}
use Rattle.qt_terminals.specs.declared.terminal.Terminal.{Terminal}
use Rattle.qt_terminals.proofs.Codes.{code_same}
use Rattle.qt_lex.proofs.Tables.{eqb_same}
use Rattle.qt_terminals.specs.Alphabet.{code}
use Rattle.qt_terminals.specs.Terminals.{PlacedTerminal, stream}
use Rattle.qt_grammar.specs.Sorts.{Sort}
use Rattle.qt_grammar.specs.Form.{Form, member, terminal_at}
use Rattle.qt_grammar.specs.Lookahead.{first}
use Rattle.qt_grammar.specs.Language.{◌⊕◌}
use Rattle.qt_expr.specs.Parser.{reading}

-- alternatives in turn, and a last one
abbrev pub or_last : {s : Sort} → List (Form s) → Form s → Form s
or_last [] last = last
or_last (f ∷ fs) last = f ⊕ or_last fs last

-- the alternative with that number
abbrev pub nth : {s : Sort} → ℕ → List (Form s) → Form s → Form s
nth n [] last = last
nth zero (f ∷ fs) last = f
nth (suc n) (f ∷ fs) last = nth n fs last

-- the terminals with which those before it begin
abbrev pub before : {s : Sort} → ℕ → List (Form s) → List ℕ
before n [] = []
before zero (f ∷ fs) = []
before (suc n) (f ∷ fs) = first f ++ before n fs

pub in_neither : (n : ℕ) (xs ys : List ℕ) → member n (xs ++ ys) ≡ false → (member n xs ≡ false) × (member n ys ≡ false)
in_neither n [] ys e = (refl, e)
in_neither n (x ∷ xs) ys e = by_test (eqb n x) (λ h. in_neither n xs ys h) e
  where
    by_test : (b : Bool) → (member n (xs ++ ys) ≡ false → (member n xs ≡ false) × (member n ys ≡ false)) → (b || member n (xs ++ ys)) ≡ false → ((b || member n xs) ≡ false) × (member n ys ≡ false)
    by_test true k h = absurd (cc h)
    by_test false k h = k h

pub in_both : (n : ℕ) (xs ys : List ℕ) → member n xs ≡ false → member n ys ≡ false → member n (xs ++ ys) ≡ false
in_both n [] ys p q = q
in_both n (x ∷ xs) ys p q = by_test (eqb n x) (λ h. in_both n xs ys h q) p
  where
    by_test : (b : Bool) → (member n xs ≡ false → member n (xs ++ ys) ≡ false) → (b || member n xs) ≡ false → (b || member n (xs ++ ys)) ≡ false
    by_test true k h = cc h
    by_test false k h = k h

pub skipped : {X : Type 0} (b : Bool) (x y : X) → b ≡ false → (if b then x else y) ≡ y
skipped true x y e = cc e
skipped false x y e = refl

pub taken : {X : Type 0} (b : Bool) (x y : X) → b ≡ true → (if b then x else y) ≡ x
taken true x y e = refl
taken false x y e = cc e

module _ (tokens : List PlacedTerminal) (levels : ℕ) (outer : Option ℕ) (at : ℕ) {s : Sort} where
  chosen : (fs : List (Form s)) (last : Form s) (n : ℕ) → member (terminal_at (stream tokens) at) (before n fs) ≡ false → member (terminal_at (stream tokens) at) (first (nth n fs last)) ≡ true
      → reading tokens levels (or_last fs last) outer at ≡ reading tokens levels (nth n fs last) outer at
  chosen [] last n p q = refl
  chosen (f ∷ fs) last zero p q = taken (member (terminal_at (stream tokens) at) (first f)) (reading tokens levels f outer at) (reading tokens levels (or_last fs last) outer at) q
  chosen (f ∷ fs) last (suc n) p q =
      let apart = in_neither (terminal_at (stream tokens) at) (first f) (before n fs) p in
      skipped (member (terminal_at (stream tokens) at) (first f)) (reading tokens levels f outer at) (reading tokens levels (or_last fs last) outer at) apart.0
      ∙ chosen fs last n apart.1 q

  -- where the next terminal begins an alternative and none before it, that is read
  pub alternative : (fs : List (Form s)) (last : Form s) (n : ℕ) (k : Terminal) → (stream tokens at).terminal ≡ k → member (code k) (before n fs) ≡ false → member (code k) (first (nth n fs last)) ≡ true
      → reading tokens levels (or_last fs last) outer at ≡ reading tokens levels (nth n fs last) outer at
  alternative fs last n k e p q = chosen fs last n (subst (λ x. member (code x) (before n fs) ≡ false) (sym e) p) (subst (λ x. member (code x) (first (nth n fs last)) ≡ true) (sym e) q)

-- ---- a terminal that begins none of the others

differs : (a b : Terminal) → (a ≡ b → ⊥) → eqb (code a) (code b) ≡ false
differs a b h = by_test (eqb (code a) (code b)) (λ e. h (code_same a b (eqb_same (code a) (code b) e)))
  where
    by_test : (x : Bool) → (x ≡ true → ⊥) → x ≡ false
    by_test true k = absurd (k refl)
    by_test false k = refl

abbrev pub DiffersFrom : Terminal → List Terminal → Type 0
DiffersFrom a [] = Unit {0}
DiffersFrom a (b ∷ bs) = (a ≡ b → ⊥) × DiffersFrom a bs

abbrev pub codes_of : List Terminal → List ℕ
codes_of [] = []
codes_of (b ∷ bs) = code b ∷ codes_of bs

pub none_of : (a : Terminal) (bs : List Terminal) → DiffersFrom a bs → member (code a) (codes_of bs) ≡ false
none_of a [] d = refl
none_of a (b ∷ bs) d = either (eqb (code a) (code b)) (differs a b d.0) (none_of a bs d.1)
  where
    either : (x : Bool) → x ≡ false → member (code a) (codes_of bs) ≡ false → (x || member (code a) (codes_of bs)) ≡ false
    either true e h = absurd (cc e)
    either false e h = h

abbrev pub firsts : {s : Sort} → List (Form s) → List ℕ
firsts [] = []
firsts (f ∷ fs) = first f ++ firsts fs

-- where none of the others begins, the last is read
pub last_alternative : (tokens : List PlacedTerminal) (levels : ℕ) (outer : Option ℕ) (at : ℕ) {s : Sort} (fs : List (Form s)) (last : Form s) → member (terminal_at (stream tokens) at) (firsts fs) ≡ false
    → reading tokens levels (or_last fs last) outer at ≡ reading tokens levels last outer at
last_alternative tokens levels outer at [] last e = refl
last_alternative tokens levels outer at (f ∷ fs) last e =
    let apart = in_neither (terminal_at (stream tokens) at) (first f) (firsts fs) e in
    skipped (member (terminal_at (stream tokens) at) (first f)) (reading tokens levels f outer at) (reading tokens levels (or_last fs last) outer at) apart.0
    ∙ last_alternative tokens levels outer at fs last apart.1
