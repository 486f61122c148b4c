-- What holds of each tree that a form reads, and that the bytes of its tokens pay for what is printed of it: one lemma for
-- each way of building a form.
use Rattle.std.proofs.Common.{◌≡◌, ℕ, zero, suc, ◌+◌, ◌*◌, ◌≤◌, ◌⊎◌, inl, inr, false, IsTrue, List, ◌++◌, length, Option, Some, None, refl, sym, ap, subst, arith, add-one}
use Rattle.qt_terminals.specs.Alphabet.{code}
use Rattle.qt_terminals.specs.Terminals.{PlacedTerminal}
use Rattle.qt_grammar.specs.Sorts.{Sort, Value, Name, sort}
use Rattle.qt_grammar.specs.Form.{Form, one, operator, counted, here, empty, as_tree, then_, either, maybe, nearest, chain, member, begun, Reading, ReadsBy, ReadsMore, ReadsThen, pair_of, stepped}
use Rattle.qt_grammar.specs.Language.{◌⊗◌}
use Rattle.qt_lexemes.specs.Lexemes.{Lexeme, optional as lexemes_if}
use Rattle.qt_round_trip.proofs.literals.Kept.{IsFaithful, AreNumbersAgain, total_length}
use Rattle.qt_round_trip.proofs.extent.Costs.{Fit, fit_nothing, fit_both, fit_is}

-- tokens, and what the forms with names read within so many levels
pub record Setting : Type 1 where
  pub tokens : ℕ → PlacedTerminal
  pub faithful : (i : ℕ) → IsFaithful (tokens i)
  pub numbers : AreNumbersAgain
  pub cap : ℕ
  pub level : ℕ
  pub reads : (n : Name) → Option ℕ → Reading (Value (sort n))

-- 500 for each byte of the tokens before a place
abbrev pub budget : (ℕ → PlacedTerminal) → ℕ → ℕ
budget ts i = 500 * total_length ts i

-- F holds of each tree that the form reads and of a number that the bytes of its tokens pay for
pub record Pays (z : Setting) {s : Sort} (f : Form s) (F : Value s → ℕ → Type 0) : Type 0 where
  pub pays : (outer : Option ℕ) (i : ℕ) (v : Value s) (j : ℕ) → ReadsBy z.tokens z.cap z.reads f outer i v j → (n : ℕ) × F v n × (budget z.tokens i + n ≤ budget z.tokens j)

-- the lexemes of a tree are spelled and paid
abbrev pub Of : {A : Type 0} → (A → List Lexeme) → A → ℕ → Type 0
Of lexemes x n = Fit (lexemes x) n

-- nothing is said
abbrev pub Any : {A : Type 0} → A → ℕ → Type 0
Any x n = Unit {0}

-- ---- tokens

pub next_length : (ts : ℕ → PlacedTerminal) (i : ℕ) → total_length ts (i + 1) ≡ total_length ts i + length ((ts i).spelling)
next_length ts i = ap (total_length ts) (add-one i)

-- a token that isn't the end has a byte
has_byte : (t : PlacedTerminal) → IsFaithful t → (ws : List ℕ) → member 0 ws ≡ false → IsTrue (member (code t.terminal) ws) → 1 ≤ length t.spelling
has_byte t f ws none h = f.some (λ e. cc (subst (λ k. IsTrue (member (code k) ws)) e h, none))

-- of each token with one of these terminals F holds, with the bytes of its spelling
abbrev pub OfToken : List ℕ → (PlacedTerminal → ℕ → Type 0) → Type 0
OfToken ws F = (t : PlacedTerminal) → IsFaithful t → IsTrue (member (code t.terminal) ws) → 1 ≤ length t.spelling → F t (500 * length t.spelling)

module _ (z : Setting) (ws : List ℕ) (F : PlacedTerminal → ℕ → Type 0) where
  token_pays : member 0 ws ≡ false → OfToken ws F → (i : ℕ) (v : PlacedTerminal) (j : ℕ) → IsTrue (member (code ((z.tokens i).terminal)) ws) → v ≡ z.tokens i → j ≡ i + 1 → (n : ℕ) × F v n × (budget z.tokens i + n ≤ budget z.tokens j)
  token_pays none h i v j m e e' = (
    500 * length ((z.tokens i).spelling),
    subst (λ t. F t (500 * length ((z.tokens i).spelling))) (sym e) (h (z.tokens i) (z.faithful i) m (has_byte (z.tokens i) (z.faithful i) ws none m)),
    subst (λ k. budget z.tokens i + 500 * length ((z.tokens i).spelling) ≤ budget z.tokens k) (sym e') (omega (arith, next_length z.tokens i)),
  )

module _ {z : Setting} {ws : List ℕ} {F : PlacedTerminal → ℕ → Type 0} where
  pub pays_one : member 0 ws ≡ false → OfToken ws F → Pays z (one ws) F
  pays_one none h = record { pays = λ outer i v j r. token_pays z ws F none h i v j r.0 r.1 r.2 }

  pub pays_operator : member 0 ws ≡ false → OfToken ws F → Pays z (operator ws) F
  pays_operator none h = record { pays = λ outer i v j r. token_pays z ws F none h i v j r.0 r.2 r.3 }

-- any token
pub pays_any : {z : Setting} {ws : List ℕ} → Pays z (one ws) Any
pays_any {z} = record { pays = λ outer i v j r. (0, tt, subst (λ k. budget z.tokens i + 0 ≤ budget z.tokens k) (sym r.2) (omega (arith, next_length z.tokens i))) }

-- ---- the ways of building a form

pub pays_here : {z : Setting} → Pays z here Any
pays_here {z} = record { pays = λ outer i v j r. (0, tt, subst (λ k. budget z.tokens i + 0 ≤ budget z.tokens k) (sym r.1) (omega arith)) }

pub pays_empty : {z : Setting} {s : Sort} {x : Value s} {F : Value s → ℕ → Type 0} → F x 0 → Pays z (empty {s = s} x) F
pays_empty {z} {s} {x} {F} h = record { pays = λ outer i v j r. (0, subst (λ y. F y 0) (sym r.0) h, subst (λ k. budget z.tokens i + 0 ≤ budget z.tokens k) (sym r.1) (omega arith)) }

module _ {z : Setting} {s : Sort} where
  module _ {f : Form s} {F : Value s → ℕ → Type 0} where
    pub pays_counted : Pays z f F → Pays z (counted f) F
    pays_counted a = record { pays = λ outer i v j r. a.pays (begun z.tokens outer i) i v j r }

  module _ {f : Form s} {F G : Value s → ℕ → Type 0} where
    pub pays_as : Pays z f F → ((v : Value s) (n : ℕ) → F v n → G v n) → Pays z f G
    pays_as a k = record { pays = λ outer i v j r. let b = a.pays outer i v j r in (b.0, k v b.0 b.1, b.2) }

  module _ {t : Sort} {f : Form s} {F : Value s → ℕ → Type 0} {G : Value t → ℕ → Type 0} {k : Value s → Value t} where
    pub pays_tree : Pays z f F → ((x : Value s) (n : ℕ) → F x n → G (k x) n) → Pays z (as_tree {s = s} {t = t} k f) G
    pays_tree a g = record { pays = λ outer i v j r. let b = a.pays outer i r.0 j r.1 in (b.0, subst (λ y. G y b.0) (sym r.2) (g r.0 b.0 b.1), b.2) }

  module _ {f g : Form s} {F : Value s → ℕ → Type 0} where
    pub pays_either : Pays z f F → Pays z g F → Pays z (either f g) F
    pays_either a b = record { pays = λ outer i v j r. elim r [ inl h ↦ a.pays outer i v j h | inr h ↦ b.pays outer i v j h ] }

  module _ {t u : Sort} {f : Form s} {g : Form t} {F : Value s → ℕ → Type 0} {G : Value t → ℕ → Type 0} {H : Value u → ℕ → Type 0} {k : Value s → Value t → Value u} where
    pub pays_then : Pays z f F → Pays z g G → ((x : Value s) (y : Value t) (m n : ℕ) → F x m → G y n → H (k x y) (m + n)) → Pays z (then_ {s = s} {t = t} {u = u} k f g) H
    pays_then a b h = record { pays = pays_ }
      where
        pays_ : (outer : Option ℕ) (i : ℕ) (v : Value u) (j : ℕ) → ReadsThen k (ReadsBy z.tokens z.cap z.reads f outer) (ReadsBy z.tokens z.cap z.reads g outer) i v j → (n : ℕ) × H v n × (budget z.tokens i + n ≤ budget z.tokens j)
        pays_ outer i v j (x, y, m, p, q, e) =
            let c = a.pays outer i x m p in
            let d = b.pays outer m y j q in
            (c.0 + d.0, subst (λ l. H l (c.0 + d.0)) (sym e) (h x y c.0 d.0 c.1 d.1), omega (arith, c.2, d.2))

  module _ {f : Form s} {F : Value s → ℕ → Type 0} {G : Option (Value s) → ℕ → Type 0} where
    pub pays_maybe : Pays z f F → G None 0 → ((x : Value s) (n : ℕ) → F x n → G (Some x) n) → Pays z (maybe f) G
    pays_maybe a none some = record { pays = pays_ }
      where
        pays_ : (outer : Option ℕ) (i : ℕ) (v : Option (Value s)) (j : ℕ) → ((x : Value s) × ReadsBy z.tokens z.cap z.reads f outer i x j × (v ≡ Some x)) ⊎ ((v ≡ None) × (j ≡ i)) → (n : ℕ) × G v n × (budget z.tokens i + n ≤ budget z.tokens j)
        pays_ outer i v j (inl (x, p, e)) = let c = a.pays outer i x j p in (c.0, subst (λ l. G l c.0) (sym e) (some x c.0 c.1), c.2)
        pays_ outer i v j (inr (e, e')) = (0, subst (λ l. G l 0) (sym e) none, subst (λ l. budget z.tokens i + 0 ≤ budget z.tokens l) (sym e') (omega arith))

    pub pays_nearest : {ws : List ℕ} → Pays z f F → G None 0 → ((x : Value s) (n : ℕ) → F x n → G (Some x) n) → Pays z (nearest ws f) G
    pays_nearest {ws} a none some = record { pays = λ outer i v j r. (pays_maybe a none some).pays outer i v j (elim r [ inl h ↦ inl h | inr h ↦ inr (h.0, h.1) ]) }

  -- an operand, then separators and operands, each added to what was read so far
  module _ {t u : Sort} {f : Form s} {g : Form t} {F : Value s → ℕ → Type 0} {G : Value t → ℕ → Type 0} {H : Value u → ℕ → Type 0} {first : Value s → Value u} {step : Value u → Value t → Value s → Value u} where
    pub pays_chain : Pays z f F → Pays z g G → ((x : Value s) (n : ℕ) → F x n → H (first x) n)
        → ((c : Value u) (y : Value t) (x : Value s) (k m n : ℕ) → H c k → G y m → F x n → H (step c y x) (k + (m + n))) → Pays z (chain {s = s} {t = t} {u = u} first step f g) H
    pays_chain a b h k = record { pays = λ outer i v j r. let c = a.pays outer i r.0 r.1 r.3 in let d = more outer r.2 (first r.0) c.0 r.1 v j (h r.0 c.0 c.1) r.4 in (d.0, d.1, omega (arith, c.2, d.2)) }
      where
        -- the rest pays for what it adds
        more : (outer : Option ℕ) (turns : ℕ) (c : Value u) (n i : ℕ) (v : Value u) (j : ℕ) → H c n → ReadsMore (stepped step) (ReadsThen (pair_of {A = Value s} {B = Value t}) (ReadsBy z.tokens z.cap z.reads g outer) (ReadsBy z.tokens z.cap z.reads f outer)) turns c i v j
            → (m : ℕ) × H v m × (budget z.tokens i + m ≤ budget z.tokens j + n)
        more outer zero c n i v j o (e, e') = (n, subst (λ l. H l n) (sym e) o, subst (λ l. budget z.tokens i + n ≤ budget z.tokens l + n) (sym e') (omega arith))
        more outer (suc turns) c n i v j o (y, m, (x, x', m', p, q, e), r) =
            let b' = b.pays outer i x m' p in
            let a' = a.pays outer m' x' m q in
            let d = more outer turns (step c x x') (n + (b'.0 + a'.0)) m v j (k c x x' n b'.0 a'.0 o b'.1 a'.1) (subst (λ l. ReadsMore (stepped step) (ReadsThen (pair_of {A = Value s} {B = Value t}) (ReadsBy z.tokens z.cap z.reads g outer) (ReadsBy z.tokens z.cap z.reads f outer)) turns (stepped step c l) m v j) e r) in
            (d.0, d.1, omega (arith, b'.2, a'.2, d.2))

-- ---- lexemes

module _ {z : Setting} {s : Sort} where
  module _ {t u : Sort} {f : Form s} {g : Form t} {x : Value s → List Lexeme} {y : Value t → List Lexeme} {c : Value u → List Lexeme} {k : Value s → Value t → Value u} where
    pub pays_lexemes : Pays z f (Of x) → Pays z g (Of y) → ((a : Value s) (b : Value t) → c (k a b) ≡ x a ++ y b) → Pays z (then_ {s = s} {t = t} {u = u} k f g) (Of c)
    pays_lexemes a b e = pays_then a b (λ v w m n h i. fit_is (e v w) (fit_both h i))

  module _ {t : Sort} {f : Form s} {g : Form t} {x : Value s → List Lexeme} {y : Value t → List Lexeme} where
    pub pays_pair : Pays z f (Of x) → Pays z g (Of y) → Pays z (f ⊗ g) (Of (λ v. x v.0 ++ y v.1))
    pays_pair a b = pays_lexemes a b (λ v w. refl)

  module _ {t : Sort} {f : Form s} {x : Value s → List Lexeme} {c : Value t → List Lexeme} {k : Value s → Value t} where
    pub pays_made : Pays z f (Of x) → ((a : Value s) → c (k a) ≡ x a) → Pays z (as_tree {s = s} {t = t} k f) (Of c)
    pays_made a e = pays_tree a (λ v n h. fit_is (e v) h)

  module _ {f : Form s} {x : Value s → List Lexeme} where
    pub pays_optional : Pays z f (Of x) → Pays z (maybe f) (Of (lexemes_if x))
    pays_optional a = pays_maybe a fit_nothing (λ v n h. h)
