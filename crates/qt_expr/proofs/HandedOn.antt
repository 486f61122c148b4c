-- What is read is told by what is made of it.
use Rattle.std.proofs.Common.{◌≡◌, ℕ, ◌+◌, List, [], ◌∷◌, true, Option, Some, Ok, Err, ◌∙◌, refl, sym, subst}
use Rattle.qt_terminals.specs.declared.terminal.Terminal.{Terminal}
use Rattle.qt_terminals.specs.Alphabet.{code}
use Rattle.qt_terminals.specs.Terminals.{PlacedTerminal, stream}
use Rattle.qt_grammar.specs.Sorts.{Sort, Value}
use Rattle.qt_grammar.specs.Form.{Form, as_tree, maybe, member, terminal_at}
use Rattle.qt_grammar.specs.Lookahead.{first}
use Rattle.qt_grammar.specs.Outcome.{Outcome, Says, and_then}
use Rattle.qt_grammar.specs.Language.{◌⊳◌, ◌⊲◌, exactly}
use Rattle.qt_lookahead.specs.OneToken.{read_exactly}
use Rattle.qt_expr.specs.Parser.{reading}
use Rattle.qt_expr.specs.HandedOn.{then_token, as_some}

pub says_itself : {A : Type 0} (out : Outcome A) → Says out out
says_itself (Ok p) = refl
says_itself (Err e) = λ n. refl

-- what is read on behind both
pub says_then : {A B : Type 0} (out found : Outcome A) (k : A → ℕ → Outcome B) → Says out found → Says (and_then out k) (and_then found k)
says_then out (Ok p) k h = rw h (says_itself (k p.0 p.1))
says_then out (Err e) k h = λ n. rw (h n) refl

-- what tells of what was found tells of what is read
pub says_through : {A B : Type 0} (out found : Outcome A) (k : A → ℕ → Outcome B) (result : Outcome B) → Says out found → Says (and_then found k) result → Says (and_then out k) result
says_through out (Ok p) k result h t = rw h t
says_through out (Err e) k (Ok q) h t = cc t
says_through out (Err e) k (Err x) h t = λ n. rw (h (λ same. n (cc (t n, same)))) (t n)

-- the same where nothing is made of what was found
pub says_on : {A : Type 0} (out found result : Outcome A) → Says out found → Says found result → Says out result
says_on out (Ok p) result h t = rw h t
says_on out (Err e) (Ok q) h t = cc t
says_on out (Err e) (Err x) h t = λ n. h (λ same. n (cc (t n, same))) ∙ t n

-- what ends with a token
pub closed_says : {A : Type 0} (tokens : List PlacedTerminal) (n : ℕ) (out found : Outcome A) → Says out found → Says (then_token tokens n out) (then_token tokens n found)
closed_says tokens n out found h = says_then out found (λ x m. and_then (read_exactly tokens n m) (λ k j. Ok (x, j))) h

same : {A : Type 0} (out : Outcome A) → and_then {A = A} {B = A} out (λ x j. Ok (x, j)) ≡ out
same (Ok p) = refl
same (Err e) = refl

twice : {A B : Type 0} (out : Outcome A) (make : A → B) → and_then {A = A} {B = B} (and_then {A = A} {B = A} out (λ x j. Ok (x, j))) (λ x j. Ok (make x, j)) ≡ and_then {A = A} {B = B} out (λ x j. Ok (make x, j))
twice (Ok p) make = refl
twice (Err e) make = refl

enclosing : {A C : Type 0} (opened : Outcome C) (inner : ℕ → Outcome A) (closing : ℕ → Outcome C) (x : C) (m : ℕ) (found : Outcome A) → opened ≡ Ok (x, m) → Says (inner m) found
    → Says (and_then {A = C} {B = A} opened (λ c i. and_then {A = A} {B = A} (and_then {A = A} {B = A} (inner i) (λ y n. and_then {A = C} {B = A} (closing n) (λ c j. Ok (y, j)))) (λ y j. Ok (y, j))))
    (and_then {A = A} {B = A} found (λ y n. and_then {A = C} {B = A} (closing n) (λ c j. Ok (y, j))))
enclosing {A} {C} opened inner closing x m found e h =
    rw (e, same (and_then {A = A} {B = A} (inner m) (λ y n. and_then {A = C} {B = A} (closing n) (λ c j. Ok (y, j))))) (says_then (inner m) found (λ y n. and_then {A = C} {B = A} (closing n) (λ c j. Ok (y, j))) h)

behind : {A C : Type 0} (opened : Outcome C) (inner : ℕ → Outcome A) (x : C) (m : ℕ) → opened ≡ Ok (x, m) → and_then {A = C} {B = A} opened (λ c i. and_then {A = A} {B = A} (inner i) (λ y j. Ok (y, j))) ≡ inner m
behind {A} {C} opened inner x m e = rw e (same (inner m))

module _ (tokens : List PlacedTerminal) (d : ℕ) (outer : Option ℕ) (at : ℕ) {s : Sort} (f : Form s) where
  -- a form behind a token
  pub led_says : (k : Terminal) (m : ℕ) (found : Outcome (Value s)) → read_exactly tokens (code k) at ≡ Ok (stream tokens at, m) → Says (reading tokens d f outer m) found → Says (reading tokens d (exactly k ⊳ f) outer at) found
  unfolding read_exactly
  led_says k m found opened h = subst (λ out. Says out found) (sym (behind (reading tokens d (exactly k) outer at) (λ i. reading tokens d f outer i) (stream tokens at) m opened)) h

  -- a form between two tokens
  pub enclosed_says : (opener closer : Terminal) (m : ℕ) (found : Outcome (Value s)) → read_exactly tokens (code opener) at ≡ Ok (stream tokens at, m) → Says (reading tokens d f outer m) found
      → Says (reading tokens d (exactly opener ⊳ f ⊲ exactly closer) outer at) (then_token tokens (code closer) found)
  unfolding read_exactly
  enclosed_says opener closer m found e h = enclosing (reading tokens d (exactly opener) outer at) (λ i. reading tokens d f outer i) (λ i. reading tokens d (exactly closer) outer i) (stream tokens at) m found e h

  -- a form that may be left out
  pub present_says : (found : Outcome (Value s)) → member (terminal_at (stream tokens) at) (first f) ≡ true → Says (reading tokens d f outer at) found → Says (reading tokens d (maybe f) outer at) (as_some found)
  present_says found e h = rw e (says_then (reading tokens d f outer at) found (λ x j. Ok (Some x, j)) h)

  -- a form behind a token, of which a tree is made
  pub led_by : (t : Sort) (k : Terminal) (make : Value s → Value t) → member (terminal_at (stream tokens) at) (code k ∷ []) ≡ true
      → reading tokens d (as_tree {s = s} {t = t} make (exactly k ⊳ f)) outer at ≡ and_then (reading tokens d f outer (at + 1)) (λ x j. Ok (make x, j))
  led_by t k make e = rw e (twice (reading tokens d f outer (at + 1)) make)
