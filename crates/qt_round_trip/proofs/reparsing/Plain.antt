-- Forms without places: what is read again is equal to what was read.
use Rattle.std.proofs.Common.{◌≡◌, ℕ, ◌⊎◌, List, [], ◌∷◌, ◌++◌, map, Option, Some, None, refl, sym, ◌∙◌, ap}
use Rattle.std.proofs.lemmas.List.{append-nil}
use Rattle.qt_terminals.specs.declared.terminal.Terminal.{Terminal}
use Rattle.qt_terminals.specs.declared.terminal.Terminal.TheVariants as w
use Rattle.qt_terminals.specs.Alphabet.{code, is_operator}
use Rattle.qt_terminals.specs.Terminals.{PlacedTerminal}
use Rattle.qt_grammar.specs.Form.{Reading, ReadsOne, ReadsThen, ReadsChain}
use Rattle.qt_grammar.specs.Language.{listed}
use Rattle.qt_lexemes.specs.Lexemes.{Lexeme, name, separated, joined, optional}
use Rattle.qt_print.specs.Programs.{name_lexemes}
use Rattle.qt_round_trip.proofs.lexemes.Spelling.{meaning}
use Rattle.qt_round_trip.proofs.lexemes.Lists.{Filled, filled_push, separated_push, joined_push}
use Rattle.qt_round_trip.proofs.reparsing.Streams.{Streams, terminal_in, terminal_is}
use Rattle.qt_round_trip.proofs.reparsing.Fixed.{Fixed, name_means}
use Rattle.qt_round_trip.proofs.reparsing.Again.{Again, Any, again-one, again-empty, again-told, again-tree, again-then, again-maybe, again-chain}

abbrev pub Plain : (z : Streams) {A : Type 0} → Reading A → Reading A → (A → List Lexeme) → Type 0
Plain z r c w = Again z r c (λ v l. w v ≡ l) (λ x y. x ≡ y) Any

pub lexemes_both : (a b l m : List Lexeme) → a ≡ l → b ≡ m → a ++ b ≡ l ++ m
lexemes_both a b l m h g = ap (λ t. t ++ b) h ∙ ap (λ t. l ++ t) g

module _ {z : Streams} where
  pub again-exactly : {m : Lexeme} {k : Terminal} → Fixed m k → Again z (ReadsOne z.old (code k ∷ [])) (ReadsOne z.new (code k ∷ [])) (λ t l. m ∷ [] ≡ l) (λ x y. Unit {0}) Any
  again-exactly {m} {k} f = again-told (again-one z (code k ∷ []) (code k ∷ []) (λ t. m) f.going_on f.going_on
      (λ i h. (terminal_in (meaning m) k f.means, ap is_operator (terminal_is ((z.old i).terminal) k h ∙ sym f.means)))) (λ t l. m ∷ [] ≡ l) (λ x y. Unit {0}) (λ v l h. h) (λ x y h. tt)

  -- one lexeme, and what is made of it
  pub plain-lexeme : {m : Lexeme} {k : Terminal} {C : Type 0} → Fixed m k → (x : C) (u : C → List Lexeme) → u x ≡ m ∷ []
      → Plain z (λ i v j. (t : PlacedTerminal) × ReadsOne z.old (code k ∷ []) i t j × (v ≡ x)) (λ i v j. (t : PlacedTerminal) × ReadsOne z.new (code k ∷ []) i t j × (v ≡ x)) u
  plain-lexeme f x u e = again-tree (again-exactly f) (λ t. x) (λ v l. u v ≡ l) (λ x y. x ≡ y) (λ t l h. e ∙ h) (λ t t' h. refl)

  pub plain-label : Plain z (λ i v j. (t : PlacedTerminal) × ReadsOne z.old (code w.Name ∷ []) i t j × (v ≡ t.spelling)) (λ i v j. (t : PlacedTerminal) × ReadsOne z.new (code w.Name ∷ []) i t j × (v ≡ t.spelling)) name_lexemes
  plain-label = again-tree (again-one z (code w.Name ∷ []) (code w.Name ∷ []) (λ t. name t.spelling) refl refl (λ i h. (
    terminal_in (meaning (name ((z.old i).spelling))) w.Name (name_means ((z.old i).spelling)),
    ap is_operator (terminal_is ((z.old i).terminal) w.Name h ∙ sym (name_means ((z.old i).spelling))),
  ))) (λ t. t.spelling) (λ v l. name_lexemes v ≡ l) (λ x y. x ≡ y) (λ t l h. h) (λ t t' kept. sym kept.3)

  module _ {A : Type 0} {r c : Reading A} {lexemes : A → List Lexeme} where
    pub plain-as : Plain z r c lexemes → (u : A → List Lexeme) → ((v : A) → u v ≡ lexemes v) → Plain z r c u
    plain-as a u e = again-told a (λ v l. u v ≡ l) (λ x y. x ≡ y) (λ v l h. e v ∙ h) (λ x y s. s)

    pub plain-maybe : Plain z r c lexemes → Plain z (λ i v j. ((x : A) × r i x j × (v ≡ Some x)) ⊎ ((v ≡ None) × (j ≡ i))) (λ i v j. ((x : A) × c i x j × (v ≡ Some x)) ⊎ ((v ≡ None) × (j ≡ i))) (optional lexemes)
    plain-maybe a = again-maybe a (λ v l. optional lexemes v ≡ l) (λ x y. x ≡ y) refl (λ x l h. h) refl (λ x y s. ap Some s)

    -- one or more, with this lexeme between
    pub again-separated : {m : Lexeme} {k : Terminal} → Fixed m k → Plain z r c lexemes
        → Again z (ReadsChain (λ x. x ∷ []) (λ xs c x. xs ++ x ∷ []) r (ReadsOne z.old (code k ∷ []))) (ReadsChain (λ x. x ∷ []) (λ xs c x. xs ++ x ∷ []) c (ReadsOne z.new (code k ∷ [])))
        (λ xs l. Filled xs × (separated m (map lexemes xs) ≡ l)) (λ x y. x ≡ y) Any
    again-separated {m} f a = again-chain a (again-exactly f) (λ x. x ∷ []) (λ xs c x. xs ++ x ∷ []) (λ xs l. Filled xs × (separated m (map lexemes xs) ≡ l)) (λ x y. x ≡ y)
        (λ x l h. (tt, append-nil (lexemes x) ∙ h))
        (λ xs y x l n o h g e. (filled_push xs x, separated_push lexemes m xs x h.0 ∙ lexemes_both (separated m (map lexemes xs)) (m ∷ lexemes x) l (n ++ o) h.1 (lexemes_both (m ∷ []) (lexemes x) n o g e)))
        (λ x x' s. ap (λ t. t ∷ []) s) (λ xs xs' y y' x x' s t u. ap (λ t. t ++ x ∷ []) s ∙ ap (λ t. xs' ++ t ∷ []) u)
        (λ y x l n h g i j has f. tt)

    pub plain-separated : {m : Lexeme} {k : Terminal} → Fixed m k → Plain z r c lexemes
        → Plain z (ReadsChain (λ x. x ∷ []) (λ xs c x. xs ++ x ∷ []) r (ReadsOne z.old (code k ∷ []))) (ReadsChain (λ x. x ∷ []) (λ xs c x. xs ++ x ∷ []) c (ReadsOne z.new (code k ∷ []))) (λ xs. separated m (map lexemes xs))
    plain-separated {m} f a = again-told (again-separated f a) (λ xs l. separated m (map lexemes xs) ≡ l) (λ x y. x ≡ y) (λ v l h. h.1) (λ x y s. s)

    -- one or more, with nothing between
    pub plain-some : Plain z r c lexemes
        → Plain z (ReadsChain (λ x. x ∷ []) (λ xs c x. xs ++ x ∷ []) r (λ i v j. (v ≡ tt {0}) × (j ≡ i))) (ReadsChain (λ x. x ∷ []) (λ xs c x. xs ++ x ∷ []) c (λ i v j. (v ≡ tt {0}) × (j ≡ i))) (λ xs. joined (map lexemes xs))
    plain-some a = again-chain a (again-empty z (tt {0})) (λ x. x ∷ []) (λ xs c x. xs ++ x ∷ []) (λ xs l. joined (map lexemes xs) ≡ l) (λ x y. x ≡ y)
        (λ x l h. append-nil (lexemes x) ∙ h)
        (λ xs y x l n o h g e. joined_push lexemes xs x ∙ lexemes_both (joined (map lexemes xs)) (lexemes x) l (n ++ o) h (lexemes_both [] (lexemes x) n o g e))
        (λ x x' s. ap (λ t. t ∷ []) s) (λ xs xs' y y' x x' s t u. ap (λ t. t ++ x ∷ []) s ∙ ap (λ t. xs' ++ t ∷ []) u)
        (λ y x l n h g i j has f. tt)

  -- a lexeme before or behind, two lexemes round a form; what is the same but for places stays so
  module _ {A : Type 0} {r c : Reading A} {lexemes : A → List Lexeme} {S : A → A → Type 0} where
    pub plain-behind : {F : ℕ → Type 0} {m : Lexeme} {k : Terminal} → Fixed m k → Again z r c (λ v l. lexemes v ≡ l) S F
        → Again z (ReadsThen (λ x y. y) (ReadsOne z.old (code k ∷ [])) r) (ReadsThen (λ x y. y) (ReadsOne z.new (code k ∷ [])) c) (λ v l. m ∷ lexemes v ≡ l) S F
    plain-behind {m = m} f a = again-then (again-exactly f) a (λ x y. y) (λ v l. m ∷ lexemes v ≡ l) S (λ x y l n h g. lexemes_both (m ∷ []) (lexemes y) l n h g) (λ x x' y y' s t. t) (λ y l h m j has f. tt)

    pub plain-before : {m : Lexeme} {k : Terminal} → Fixed m k → Again z r c (λ v l. lexemes v ≡ l) S Any
        → Again z (ReadsThen (λ x y. x) r (ReadsOne z.old (code k ∷ []))) (ReadsThen (λ x y. x) c (ReadsOne z.new (code k ∷ []))) (λ v l. lexemes v ++ m ∷ [] ≡ l) S Any
    plain-before {m} {k} f a = again-then a (again-exactly f) (λ x y. x) (λ v l. lexemes v ++ m ∷ [] ≡ l) S (λ x y l n h g. lexemes_both (lexemes x) (m ∷ []) l n h g) (λ x x' y y' s t. s) (λ y l h m j has f. tt)

  module _ {A : Type 0} {r c : Reading A} {lexemes : A → List Lexeme} {S : A → A → Type 0} where
    pub plain-within : {m n : Lexeme} {k o : Terminal} → Fixed m k → Fixed n o → Again z r c (λ v l. lexemes v ≡ l) S Any
        → Again z (ReadsThen (λ x y. y) (ReadsOne z.old (code k ∷ [])) (ReadsThen (λ x y. x) r (ReadsOne z.old (code o ∷ []))))
        (ReadsThen (λ x y. y) (ReadsOne z.new (code k ∷ [])) (ReadsThen (λ x y. x) c (ReadsOne z.new (code o ∷ [])))) (λ v l. m ∷ (lexemes v ++ n ∷ []) ≡ l) S Any
    plain-within f g a = plain-behind f (plain-before g a)

  module _ {A : Type 0} {r c : Reading (List A)} {lexemes : List A → List Lexeme} where
    -- a list, or nothing for the empty one
    pub plain-or_none : Plain z r c lexemes → lexemes [] ≡ []
        → Plain z (λ i v j. (o : Option (List A)) × (((x : List A) × r i x j × (o ≡ Some x)) ⊎ ((o ≡ None) × (j ≡ i))) × (v ≡ listed o))
        (λ i v j. (o : Option (List A)) × (((x : List A) × c i x j × (o ≡ Some x)) ⊎ ((o ≡ None) × (j ≡ i))) × (v ≡ listed o)) lexemes
    plain-or_none a e = again-tree (plain-maybe a) listed (λ v l. lexemes v ≡ l) (λ x y. x ≡ y) (λ o l h. listed_lexemes o ∙ h) (λ x y s. ap listed s)
      where
        listed_lexemes : (o : Option (List A)) → lexemes (listed o) ≡ optional lexemes o
        listed_lexemes None = e
        listed_lexemes (Some xs) = refl

  module _ {A C : Type 0} {r c : Reading A} {lexemes : A → List Lexeme} where
    pub plain-tree : Plain z r c lexemes → (k : A → C) (u : C → List Lexeme) → ((x : A) → u (k x) ≡ lexemes x)
        → Plain z (λ i v j. (x : A) × r i x j × (v ≡ k x)) (λ i v j. (x : A) × c i x j × (v ≡ k x)) u
    plain-tree a k u e = again-tree a k (λ v l. u v ≡ l) (λ x y. x ≡ y) (λ x l h. e x ∙ h) (λ x y s. ap k s)

  module _ {A B C : Type 0} {p p' : Reading A} {q q' : Reading B} {lexemes_p : A → List Lexeme} {lexemes_q : B → List Lexeme} where
    pub plain-then : Plain z p p' lexemes_p → Plain z q q' lexemes_q → (k : A → B → C) (u : C → List Lexeme) → ((x : A) (y : B) → u (k x y) ≡ lexemes_p x ++ lexemes_q y)
        → Plain z (ReadsThen k p q) (ReadsThen k p' q') u
    plain-then a b k u e = again-then a b k (λ v l. u v ≡ l) (λ x y. x ≡ y) (λ x y l m h g. e x y ∙ lexemes_both (lexemes_p x) (lexemes_q y) l m h g)
        (λ x x' y y' s t. ap (λ c. k c y) s ∙ ap (λ c. k x' c) t) (λ y l h m j has f. tt)

  module _ {A B : Type 0} {p p' : Reading A} {q q' : Reading B} {lexemes_p : A → List Lexeme} {lexemes_q : B → List Lexeme} where
    -- both, as a pair
    pub plain-pair : Plain z p p' lexemes_p → Plain z q q' lexemes_q
        → Plain z {A = A × B} (ReadsThen {C = A × B} (λ x y. (x, y)) p q) (ReadsThen {C = A × B} (λ x y. (x, y)) p' q') (λ v. lexemes_p v.0 ++ lexemes_q v.1)
    plain-pair a b = plain-then {C = A × B} a b (λ x y. (x, y)) (λ v. lexemes_p v.0 ++ lexemes_q v.1) (λ x y. refl)

  module _ {A B : Type 0} {p p' : Reading A} {q q' : Reading B} {lexemes_p : A → List Lexeme} {lexemes_q : B → List Lexeme} {S : B → B → Type 0} {F : ℕ → Type 0} where
    -- as a pair with what may have places
    pub plain-lead : Plain z p p' lexemes_p → Again z q q' (λ v l. lexemes_q v ≡ l) S F
        → Again z {A = A × B} (ReadsThen {C = A × B} (λ x y. (x, y)) p q) (ReadsThen {C = A × B} (λ x y. (x, y)) p' q') (λ v l. lexemes_p v.0 ++ lexemes_q v.1 ≡ l) (λ v w. (v.0 ≡ w.0) × S v.1 w.1) F
    plain-lead a b = again-then {C = A × B} a b (λ x y. (x, y)) (λ v l. lexemes_p v.0 ++ lexemes_q v.1 ≡ l) (λ v w. (v.0 ≡ w.0) × S v.1 w.1)
        (λ x y l m h g. lexemes_both (lexemes_p x) (lexemes_q y) l m h g) (λ x x' y y' s t. (s, t)) (λ y l h m j has f. tt)
