-- One lemma for each way to build a form. They tell of forms and not of what forms read: written out, what an expression reads is large.
use Rattle.std.proofs.Common.{◌≡◌, ℕ, inl, false, IsTrue, List, [], ◌∷◌, ◌++◌, map, Option, Some, None, codes, refl, sym, ◌∙◌}
use Rattle.qt_terminals.specs.declared.terminal.Terminal.{Terminal}
use Rattle.qt_terminals.specs.declared.terminal.Terminal.TheVariants as w
use Rattle.qt_terminals.specs.Alphabet.{code}
use Rattle.qt_terminals.specs.Terminals.{PlacedTerminal}
use Rattle.qt_grammar.specs.Sorts.{Sort, Value, token, nothing, several}
use Rattle.qt_grammar.specs.Form.{Form, one, operator, counted, here, empty, as_tree, then_, maybe, nearest, chain, member, terminal_at}
use Rattle.qt_grammar.specs.Language.{◌⊗◌, ◌⊳◌, ◌⊲◌, ◌⊕◌, exactly, parens, brackets, braces, ended, separated, commas, some, or_none}
use Rattle.qt_lexemes.specs.declared.role.Role.TheVariants as r
use Rattle.qt_lexemes.specs.Lexemes.{Lexeme, lexeme, opening, comma, semicolon, parenthesized, bracketed, braced, separated as separated_lexemes, joined, optional as optional_lexemes}
use Rattle.qt_round_trip.proofs.lexemes.Spelling.{meaning}
use Rattle.qt_round_trip.proofs.lexemes.Written.{Written}
use Rattle.qt_round_trip.proofs.lexemes.Lists.{Filled}
use Rattle.qt_round_trip.proofs.reparsing.Fixed.{IsRow, fixed}
use Rattle.qt_round_trip.proofs.reparsing.Again.{Any, again-lexeme, again-operator, again-empty, again-here, again-weaken, again-told, again-into, again-both, again-either, again-tree, again-then, again-maybe, again-option, again-chain, again-counted}
use Rattle.qt_round_trip.proofs.reparsing.Plain.{again-exactly, plain-lexeme, plain-behind, plain-before, plain-within, plain-maybe, again-separated, plain-separated, plain-some, plain-or_none, plain-tree, plain-then, plain-pair, plain-lead}
use Rattle.qt_round_trip.proofs.reparsing.Setting.{Setting, Reader, Rereads}

module _ {s : Setting} {outer : Option ℕ} where
  -- ---- forms without places

  pub form-lexeme : {t : Sort} (m : Lexeme) (k : Terminal) → IsRow m k → (x : Value t) (lexemes : Value t → List Lexeme) → lexemes x ≡ m ∷ [] → Rereads s outer (as_tree {s = token} {t = t} (λ c. x) (exactly k)) lexemes
  form-lexeme m k row x lexemes e = record { reads = plain-lexeme (fixed m k row) x lexemes e }

  -- a lexeme before or behind, two lexemes round a form; what is the same but for places stays so
  module _ {t : Sort} {f : Form t} {lexemes : Value t → List Lexeme} {S : Value t → Value t → Type 0} where
    pub form-behind : {N : ℕ → Type 0} (m : Lexeme) (k : Terminal) → IsRow m k → Reader s outer f f (λ v l. lexemes v ≡ l) S N → Reader s outer (exactly k ⊳ f) (exactly k ⊳ f) (λ v l. m ∷ lexemes v ≡ l) S N
    form-behind m k row a = record { reads = plain-behind (fixed m k row) a.reads }

    pub form-before : (m : Lexeme) (k : Terminal) → IsRow m k → Reader s outer f f (λ v l. lexemes v ≡ l) S Any → Reader s outer (f ⊲ exactly k) (f ⊲ exactly k) (λ v l. lexemes v ++ m ∷ [] ≡ l) S Any
    form-before m k row a = record { reads = plain-before (fixed m k row) a.reads }

    pub form-within : (m n : Lexeme) (k o : Terminal) → IsRow m k → IsRow n o → Reader s outer f f (λ v l. lexemes v ≡ l) S Any
        → Reader s outer (exactly k ⊳ f ⊲ exactly o) (exactly k ⊳ f ⊲ exactly o) (λ v l. m ∷ (lexemes v ++ n ∷ []) ≡ l) S Any
    form-within m n k o row row' a = record { reads = plain-within (fixed m k row) (fixed n o row') a.reads }

  module _ {t : Sort} {f : Form t} {lexemes : Value t → List Lexeme} {S : Value t → Value t → Type 0} where
    pub form-parens : Reader s outer f f (λ v l. lexemes v ≡ l) S Any → Reader s outer (parens f) (parens f) (λ v l. parenthesized (lexemes v) ≡ l) S Any
    form-parens a = form-within (opening (codes "(")) (lexeme r.ClosingParenthesis (codes ")")) w.LeftParen w.RightParen refl refl a

    pub form-brackets : Reader s outer f f (λ v l. lexemes v ≡ l) S Any → Reader s outer (brackets f) (brackets f) (λ v l. bracketed (lexemes v) ≡ l) S Any
    form-brackets a = form-within (opening (codes "[")) (lexeme r.ClosingBracket (codes "]")) w.LeftBracket w.RightBracket refl refl a

    pub form-braces : Reader s outer f f (λ v l. lexemes v ≡ l) S Any → Reader s outer (braces f) (braces f) (λ v l. braced (lexemes v) ≡ l) S Any
    form-braces a = form-within (opening (codes "{")) (lexeme r.ClosingBrace (codes "}")) w.LeftBrace w.RightBrace refl refl a

    pub form-ended : Reader s outer f f (λ v l. lexemes v ≡ l) S Any → Reader s outer (ended f) (ended f) (λ v l. lexemes v ++ semicolon ∷ [] ≡ l) S Any
    form-ended a = form-before semicolon w.Semicolon refl a

  module _ {t : Sort} {f : Form t} {lexemes : Value t → List Lexeme} where
    pub form-maybe : Rereads s outer f lexemes → Rereads s outer (maybe f) (optional_lexemes lexemes)
    form-maybe a = record { reads = plain-maybe a.reads }

    pub form-filled : (m : Lexeme) (k : Terminal) → IsRow m k → Rereads s outer f lexemes
        → Reader s outer (separated {s = t} k f) (separated {s = t} k f) (λ xs l. Filled xs × (separated_lexemes m (map lexemes xs) ≡ l)) (λ x y. x ≡ y) Any
    form-filled m k row a = record { reads = again-separated (fixed m k row) a.reads }

    pub form-separated : (m : Lexeme) (k : Terminal) → IsRow m k → Rereads s outer f lexemes → Rereads s outer (separated {s = t} k f) (λ xs. separated_lexemes m (map lexemes xs))
    form-separated m k row a = record { reads = plain-separated (fixed m k row) a.reads }

    pub form-commas : Rereads s outer f lexemes → Rereads s outer (commas {s = t} f) (λ xs. separated_lexemes comma (map lexemes xs))
    form-commas a = form-separated comma w.Comma refl a

    pub form-some : Rereads s outer f lexemes → Rereads s outer (some {s = t} f) (λ xs. joined (map lexemes xs))
    form-some a = record { reads = plain-some a.reads }

    pub form-tree : {u : Sort} → Rereads s outer f lexemes → (k : Value t → Value u) (v : Value u → List Lexeme) → ((x : Value t) → v (k x) ≡ lexemes x) → Rereads s outer (as_tree {s = t} {t = u} k f) v
    form-tree a k v e = record { reads = plain-tree a.reads k v e }

  module _ {t : Sort} {f : Form (several t)} {lexemes : List (Value t) → List Lexeme} where
    pub form-or_none : Rereads s outer f lexemes → lexemes [] ≡ [] → Rereads s outer (or_none {s = t} f) lexemes
    form-or_none a e = record { reads = plain-or_none a.reads e }

  module _ {t u : Sort} {f : Form t} {g : Form u} {lexemes_f : Value t → List Lexeme} {lexemes_g : Value u → List Lexeme} where
    pub form-plain : {v : Sort} → Rereads s outer f lexemes_f → Rereads s outer g lexemes_g → (k : Value t → Value u → Value v) (lexemes : Value v → List Lexeme)
        → ((x : Value t) (y : Value u) → lexemes (k x y) ≡ lexemes_f x ++ lexemes_g y) → Rereads s outer (then_ {s = t} {t = u} {u = v} k f g) lexemes
    form-plain a b k lexemes e = record { reads = plain-then a.reads b.reads k lexemes e }

    pub form-pair : Rereads s outer f lexemes_f → Rereads s outer g lexemes_g → Rereads s outer (f ⊗ g) (λ v. lexemes_f v.0 ++ lexemes_g v.1)
    form-pair a b = record { reads = plain-pair a.reads b.reads }

  module _ {t u : Sort} {f : Form t} {g : Form u} {lexemes_f : Value t → List Lexeme} {lexemes_g : Value u → List Lexeme} {S : Value u → Value u → Type 0} {N : ℕ → Type 0} where
    -- as a pair with what may have places
    pub form-lead : Rereads s outer f lexemes_f → Reader s outer g g (λ v l. lexemes_g v ≡ l) S N → Reader s outer (f ⊗ g) (f ⊗ g) (λ v l. lexemes_f v.0 ++ lexemes_g v.1 ≡ l) (λ v w. (v.0 ≡ w.0) × S v.1 w.1) N
    form-lead a b = record { reads = plain-lead a.reads b.reads }

  -- ---- all forms

  pub form-operator : (ws : List ℕ) (m : PlacedTerminal → Lexeme) → member 0 ws ≡ false → ((t : PlacedTerminal) → IsTrue (member (code t.terminal) ws) → meaning (m t) ≡ t.terminal)
      → Reader s outer (operator ws) (operator ws) (λ t l. m t ∷ [] ≡ l) (λ t t'. t.terminal ≡ t'.terminal) Any
  form-operator ws m free fits = record { reads = again-operator s.streams s.cap outer ws m free fits }

  pub form-one : (ws : List ℕ) (m : PlacedTerminal → Lexeme) → member 0 ws ≡ false → ((t : PlacedTerminal) → IsTrue (member (code t.terminal) ws) → meaning (m t) ≡ t.terminal)
      → Reader s outer (one ws) (one ws) (λ t l. m t ∷ [] ≡ l) (λ t t'. t.terminal ≡ t'.terminal) Any
  form-one ws m free fits = record { reads = again-told (again-lexeme s.streams ws m free fits) (λ t l. m t ∷ [] ≡ l) (λ t t'. t.terminal ≡ t'.terminal) (λ t l h. h) (λ t t' kept. sym (kept.2 ∙ fits t kept.0)) }

  pub form-exactly : (m : Lexeme) (k : Terminal) → IsRow m k → Reader s outer (exactly k) (exactly k) (λ t l. m ∷ [] ≡ l) (λ x y. Unit {0}) Any
  form-exactly m k row = record { reads = again-exactly (fixed m k row) }

  pub form-here : Reader s outer here here (λ y l. [] ≡ l) (λ x y. Unit {0}) Any
  form-here = record { reads = again-here s.streams }

  module _ {t : Sort} {f g : Form t} {W : Value t → List Lexeme → Type 0} {S : Value t → Value t → Type 0} where
    pub form-weaken : (N : ℕ → Type 0) → Reader s outer f g W S Any → Reader s outer f g W S N
    form-weaken N a = record { reads = again-weaken N a.reads }

    module _ {N : ℕ → Type 0} where
      pub form-told : Reader s outer f g W S N → (V : Value t → List Lexeme → Type 0) (T : Value t → Value t → Type 0) → ((v : Value t) (l : List Lexeme) → W v l → V v l) → ((x y : Value t) → S x y → T x y)
          → Reader s outer f g V T N
      form-told a V T u t = record { reads = again-told a.reads V T u t }

      pub form-as : {u : Sort} → Reader s outer f g W S N → (k : Value t → Value u) (V : Value u → List Lexeme → Type 0) (T : Value u → Value u → Type 0)
          → ((x : Value t) (l : List Lexeme) → W x l → V (k x) l) → ((x y : Value t) → S x y → T (k x) (k y)) → Reader s outer (as_tree {s = t} {t = u} k f) (as_tree {s = t} {t = u} k g) V T N
      form-as a k V T u t = record { reads = again-tree a.reads k V T u t }

      pub form-perhaps : Reader s outer f g W S N → (V : Option (Value t) → List Lexeme → Type 0) (T : Option (Value t) → Option (Value t) → Type 0)
          → V None [] → ((x : Value t) (l : List Lexeme) → W x l → V (Some x) l) → T None None → ((x y : Value t) → S x y → T (Some x) (Some y)) → Reader s outer (maybe f) (maybe g) V T N
      form-perhaps a V T v0 v t0 t = record { reads = again-maybe a.reads V T v0 v t0 t }

      -- either of two, read again by one form
      pub form-both : {f' : Form t} → Reader s outer f g W S N → Reader s outer f' g W S N → Reader s outer (f ⊕ f') g W S N
      form-both a b = record { reads = again-both a.reads b.reads }

      pub form-left : {g' : Form t} → Reader s outer f g W S N → Reader s outer f (g ⊕ g') W S N
      form-left a = record { reads = again-into a.reads (λ i v j h. inl h) }

      pub form-either : {f' g' : Form t} → Reader s outer f g W S N → Reader s outer f' g' W S N → Reader s outer (f ⊕ f') (g ⊕ g') W S N
      form-either a b = record { reads = again-either a.reads b.reads }

  -- no token
  pub form-empty : Reader s outer (empty {s = nothing} tt) (empty {s = nothing} tt) (λ x l. [] ≡ l) (λ x y. x ≡ y) Any
  form-empty = record { reads = again-empty s.streams (tt {0}) }

  -- a form, or nothing where none of these terminals stands behind
  module _ {t : Sort} {f g : Form t} {W : Value t → List Lexeme → Type 0} {S : Value t → Value t → Type 0} {N : ℕ → Type 0} where
    pub form-nearest : (ws : List ℕ) → Reader s outer f g W S N → (V : Option (Value t) → List Lexeme → Type 0) (T : Option (Value t) → Option (Value t) → Type 0)
        → V None [] → ((x : Value t) (l : List Lexeme) → W x l → V (Some x) l) → T None None → ((x y : Value t) → S x y → T (Some x) (Some y))
        → ((j : ℕ) → N j → member (terminal_at s.streams.new j) ws ≡ false) → Reader s outer (nearest ws f) (nearest ws g) V T N
    form-nearest ws a V T v0 v t0 t n = record { reads = again-option (λ i. member (terminal_at s.streams.old i) ws ≡ false) (λ i. member (terminal_at s.streams.new i) ws ≡ false) a.reads V T v0 v t0 t n }

  module _ {t u v : Sort} {f f' : Form t} {g g' : Form u} {V : Value t → List Lexeme → Type 0} {W : Value u → List Lexeme → Type 0} {S : Value t → Value t → Type 0} {T : Value u → Value u → Type 0} {M N : ℕ → Type 0} where
    pub form-then : Reader s outer f f' V S M → Reader s outer g g' W T N → (k : Value t → Value u → Value v) (X : Value v → List Lexeme → Type 0) (U : Value v → Value v → Type 0)
        → ((x : Value t) (y : Value u) (l m : List Lexeme) → V x l → W y m → X (k x y) (l ++ m)) → ((x x' : Value t) (y y' : Value u) → S x x' → T y y' → U (k x y) (k x' y'))
        → ((y : Value u) (l : List Lexeme) → W y l → (m j : ℕ) → Written s.streams.new l m j → N j → M m)
        → Reader s outer (then_ {s = t} {t = u} {u = v} k f g) (then_ {s = t} {t = u} {u = v} k f' g') X U N
    form-then a b k X U u t n = record { reads = again-then a.reads b.reads k X U u t n }

  module _ {t u v : Sort} {f f' : Form t} {g g' : Form u} {V : Value t → List Lexeme → Type 0} {W : Value u → List Lexeme → Type 0} {S : Value t → Value t → Type 0} {T : Value u → Value u → Type 0} {N : ℕ → Type 0} where
    pub form-chain : Reader s outer f f' V S N → Reader s outer g g' W T Any → (first : Value t → Value v) (step : Value v → Value u → Value t → Value v) (X : Value v → List Lexeme → Type 0) (U : Value v → Value v → Type 0)
        → ((x : Value t) (l : List Lexeme) → V x l → X (first x) l) → ((c : Value v) (y : Value u) (x : Value t) (l m n : List Lexeme) → X c l → W y m → V x n → X (step c y x) (l ++ (m ++ n)))
        → ((x x' : Value t) → S x x' → U (first x) (first x')) → ((c c' : Value v) (y y' : Value u) (x x' : Value t) → U c c' → T y y' → S x x' → U (step c y x) (step c' y' x'))
        → ((y : Value u) (x : Value t) (m n : List Lexeme) → W y m → V x n → (i j : ℕ) → Written s.streams.new (m ++ n) i j → N j → N i)
        → Reader s outer (chain {s = t} {t = u} {u = v} first step f g) (chain {s = t} {t = u} {u = v} first step f' g') X U N
    form-chain a b first step X U x_first x_step s_first s_step n = record { reads = again-chain a.reads b.reads first step X U x_first x_step s_first s_step n }

pub form-counted : {s : Setting} {t : Sort} {f g : Form t} {W : Value t → List Lexeme → Type 0} {S : Value t → Value t → Type 0} {N : ℕ → Type 0} → ((outer : Option ℕ) → Reader s outer f g W S N) → (outer : Option ℕ) → Reader s outer (counted f) (counted g) W S N
form-counted a outer = record { reads = again-counted (λ from. (a from).reads) outer }
