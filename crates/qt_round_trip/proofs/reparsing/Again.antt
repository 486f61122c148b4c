-- What was read, written in canonical lexemes, is read again the same: one lemma for each way to build a form.
use Rattle.std.proofs.Common.{◌≡◌, ℕ, zero, suc, ◌+◌, ◌⊎◌, inl, inr, false, IsTrue, List, [], ◌∷◌, ◌++◌, Option, Some, None, refl, sym, ◌∙◌, ap, subst, append_assoc}
use Rattle.std.proofs.lemmas.List.{append-nil}
use Rattle.qt_terminals.specs.Alphabet.{code, is_operator}
use Rattle.qt_terminals.specs.Terminals.{PlacedTerminal}
use Rattle.qt_grammar.specs.Form.{member, within, begun, since, Reading, ReadsOne, ReadsOperator, ReadsThen, ReadsMore, ReadsChain, pair_of, stepped}
use Rattle.qt_lexemes.specs.Lexemes.{Lexeme}
use Rattle.qt_round_trip.proofs.literals.Kept.{IsFaithful}
use Rattle.qt_round_trip.proofs.lexemes.Spelling.{meaning}
use Rattle.qt_round_trip.proofs.lexemes.Written.{Written}
use Rattle.qt_round_trip.proofs.reparsing.Streams.{Streams, At, written_split, one_further}

abbrev pub Any : ℕ → Type 0
Any j = Unit {0}

-- what a printed lexeme keeps of a token
abbrev pub Kept : List ℕ → (PlacedTerminal → Lexeme) → PlacedTerminal → PlacedTerminal → Type 0
Kept ws m t t' = IsTrue (member (code t.terminal) ws) × IsFaithful t × (t'.terminal ≡ meaning (m t)) × (t'.spelling ≡ (m t).text)

-- r reads the old tokens and c the new ones. W: these lexemes are written for what was read. S: the same but for places.
-- F is asked of the place behind the new tokens
pub record Again (z : Streams) {A : Type 0} (r c : Reading A) (W : A → List Lexeme → Type 0) (S : A → A → Type 0) (F : ℕ → Type 0) : Type 0 where
  pub again : (i : ℕ) (v : A) (j : ℕ) → r i v j → (l : List Lexeme) × W v l
      × ((i' j' : ℕ) → At z i i' → Written z.new l i' j' → F j' → (v' : A) × c i' v' j' × S v v' × At z j j')

module _ (z : Streams) where
  -- one of these terminals, and the lexeme that is printed for it
  pub again-one : (ws ws' : List ℕ) (m : PlacedTerminal → Lexeme) → member 0 ws ≡ false → member 0 ws' ≡ false
      → ((i : ℕ) → IsTrue (member (code ((z.old i).terminal)) ws) → IsTrue (member (code (meaning (m (z.old i)))) ws') × (is_operator ((z.old i).terminal) ≡ is_operator (meaning (m (z.old i)))))
      → Again z (ReadsOne z.old ws) (ReadsOne z.new ws') (λ t l. m t ∷ [] ≡ l) (Kept ws m) Any
  again-one ws ws' m free free' fits = record { again = again_ }
    where
      again_ : (i : ℕ) (v : PlacedTerminal) (j : ℕ) → ReadsOne z.old ws i v j → (l : List Lexeme) × (m v ∷ [] ≡ l)
          × ((i' j' : ℕ) → At z i i' → Written z.new l i' j' → Any j' → (v' : PlacedTerminal) × ReadsOne z.new ws' i' v' j' × Kept ws m v v' × At z j j')
      again_ i v j (h, e, f) = (
        m (z.old i) ∷ [],
        ap (λ t. m t ∷ []) e,
        λ i' j' at has any.
            let h' : IsTrue (member (code ((z.new i').terminal)) ws') = subst (λ k. IsTrue (member (code k) ws')) (sym has.0) (fits i h).0 in
            let at' : At z (i + 1) (i' + 1) = one_further z i i' ws ws' free free' h h' ((fits i h).1 ∙ ap is_operator (sym has.0)) at in
            (z.new i', (h', refl, has.2), subst (λ t. Kept ws m t (z.new i')) (sym e) (h, z.faithful i, has.0, has.1), subst (λ t. At z t j') (sym f) (subst (λ t. At z (i + 1) t) (sym has.2) at')),
      )

  -- the same, where the lexeme that is printed means the terminal that was read
  pub again-lexeme : (ws : List ℕ) (m : PlacedTerminal → Lexeme) → member 0 ws ≡ false → ((t : PlacedTerminal) → IsTrue (member (code t.terminal) ws) → meaning (m t) ≡ t.terminal)
      → Again z (ReadsOne z.old ws) (ReadsOne z.new ws) (λ t l. m t ∷ [] ≡ l) (Kept ws m) Any
  again-lexeme ws m free fits = again-one ws ws m free free (λ i h. (subst (λ k. IsTrue (member (code k) ws)) (sym (fits (z.old i) h)) h, ap is_operator (sym (fits (z.old i) h))))

  -- the same, for an operator, which is within the limit on both sides
  pub again-operator : (cap : ℕ) (outer : Option ℕ) (ws : List ℕ) (m : PlacedTerminal → Lexeme) → member 0 ws ≡ false
      → ((t : PlacedTerminal) → IsTrue (member (code t.terminal) ws) → meaning (m t) ≡ t.terminal)
      → Again z (ReadsOperator z.old cap ws outer) (ReadsOperator z.new cap ws outer) (λ t l. m t ∷ [] ≡ l) (λ t t'. t.terminal ≡ t'.terminal) Any
  again-operator cap outer ws m free fits = record { again = again_ }
    where
      again_ : (i : ℕ) (v : PlacedTerminal) (j : ℕ) → ReadsOperator z.old cap ws outer i v j → (l : List Lexeme) × (m v ∷ [] ≡ l)
          × ((i' j' : ℕ) → At z i i' → Written z.new l i' j' → Any j' → (v' : PlacedTerminal) × ReadsOperator z.new cap ws outer i' v' j' × (v.terminal ≡ v'.terminal) × At z j j')
      again_ i v j (h, few, e, f) =
          let r = (again-lexeme ws m free fits).again i v j (h, e, f) in (
            r.0,
            r.1,
            λ i' j' at has any.
                let q = r.2 i' j' at has any in
                (q.0, (q.1.0, subst (λ n. IsTrue (within cap outer n)) at few, q.1.1, q.1.2), sym (q.2.2 ∙ fits v q.2.0), q.3),
          )

  pub again-empty : {A : Type 0} (x : A) → Again z (λ i v j. (v ≡ x) × (j ≡ i)) (λ i v j. (v ≡ x) × (j ≡ i)) (λ y l. [] ≡ l) (λ x y. x ≡ y) Any
  again-empty x = record { again = λ i v j h. ([], refl, λ i' j' at has any. (x, (refl, has), h.0, subst (λ t. At z t j') (sym h.1) (subst (λ t. At z i t) (sym has) at))) }

  pub again-here : Again z (λ i v j. (v ≡ (z.old i).place) × (j ≡ i)) (λ i v j. (v ≡ (z.new i).place) × (j ≡ i)) (λ y l. [] ≡ l) (λ x y. Unit {0}) Any
  again-here = record { again = λ i v j h. ([], refl, λ i' j' at has any. ((z.new i').place, (refl, has), tt, subst (λ t. At z t j') (sym h.1) (subst (λ t. At z i t) (sym has) at))) }

module _ {z : Streams} where
  module _ {A : Type 0} {r c : Reading A} {W : A → List Lexeme → Type 0} {S : A → A → Type 0} where
    pub again-weaken : (F : ℕ → Type 0) → Again z r c W S Any → Again z r c W S F
    again-weaken F a = record { again = λ i v j h. let p = a.again i v j h in (p.0, p.1, λ i' j' at has f. p.2 i' j' at has tt) }

  module _ {A : Type 0} {W : A → List Lexeme → Type 0} {S : A → A → Type 0} {F : ℕ → Type 0} where
    -- other lexemes of it for its lexemes, and another sameness
    pub again-told : {r c : Reading A} → Again z r c W S F → (U : A → List Lexeme → Type 0) (T : A → A → Type 0) → ((v : A) (l : List Lexeme) → W v l → U v l) → ((x y : A) → S x y → T x y) → Again z r c U T F
    again-told a U T u t = record { again = λ i v j h. let p = a.again i v j h in (p.0, u v p.0 p.1, λ i' j' at has f. let q = p.2 i' j' at has f in (q.0, q.1, t v q.0 q.2, q.3)) }

    pub again-into : {r c c' : Reading A} → Again z r c W S F → ((i : ℕ) (v : A) (j : ℕ) → c i v j → c' i v j) → Again z r c' W S F
    again-into a u = record { again = λ i v j h. let p = a.again i v j h in (p.0, p.1, λ i' j' at has f. let q = p.2 i' j' at has f in (q.0, u i' q.0 j' q.1, q.2, q.3)) }

    -- either of two, written the same way
    pub again-both : {p q c : Reading A} → Again z p c W S F → Again z q c W S F → Again z (λ i v j. p i v j ⊎ q i v j) c W S F
    again-both {p} {q} {c} a b = record { again = again_ }
      where
        again_ : (i : ℕ) (v : A) (j : ℕ) → p i v j ⊎ q i v j → (l : List Lexeme) × W v l × ((i' j' : ℕ) → At z i i' → Written z.new l i' j' → F j' → (v' : A) × c i' v' j' × S v v' × At z j j')
        again_ i v j (inl h) = a.again i v j h
        again_ i v j (inr h) = b.again i v j h

    pub again-either : {p q p' q' : Reading A} → Again z p p' W S F → Again z q q' W S F → Again z (λ i v j. p i v j ⊎ q i v j) (λ i v j. p' i v j ⊎ q' i v j) W S F
    again-either a b = again-both (again-into a (λ i v j h. inl h)) (again-into b (λ i v j h. inr h))

  module _ {A C : Type 0} {r c : Reading A} {W : A → List Lexeme → Type 0} {S : A → A → Type 0} {F : ℕ → Type 0} where
    pub again-tree : Again z r c W S F → (k : A → C) (U : C → List Lexeme → Type 0) (T : C → C → Type 0) → ((x : A) (l : List Lexeme) → W x l → U (k x) l) → ((x y : A) → S x y → T (k x) (k y))
        → Again z (λ i v j. (x : A) × r i x j × (v ≡ k x)) (λ i v j. (x : A) × c i x j × (v ≡ k x)) U T F
    again-tree a k U T u t = record { again = again_ }
      where
        again_ : (i : ℕ) (v : C) (j : ℕ) → (x : A) × r i x j × (v ≡ k x) → (l : List Lexeme) × U v l
            × ((i' j' : ℕ) → At z i i' → Written z.new l i' j' → F j' → (v' : C) × ((x : A) × c i' x j' × (v' ≡ k x)) × T v v' × At z j j')
        again_ i v j (x, h, e) =
            let p = a.again i x j h in
            (p.0, subst (λ y. U y p.0) (sym e) (u x p.0 p.1), λ i' j' at has f. let q = p.2 i' j' at has f in (k q.0, (q.0, q.1, refl), subst (λ y. T y (k q.0)) (sym e) (t x q.0 q.2), q.3))

  module _ {A B C : Type 0} {p p' : Reading A} {q q' : Reading B} {V : A → List Lexeme → Type 0} {W : B → List Lexeme → Type 0} {S : A → A → Type 0} {T : B → B → Type 0} {F G : ℕ → Type 0} where
    pub again-then : Again z p p' V S F → Again z q q' W T G → (k : A → B → C) (X : C → List Lexeme → Type 0) (U : C → C → Type 0)
        → ((x : A) (y : B) (l m : List Lexeme) → V x l → W y m → X (k x y) (l ++ m)) → ((x x' : A) (y y' : B) → S x x' → T y y' → U (k x y) (k x' y'))
        → ((y : B) (l : List Lexeme) → W y l → (m j : ℕ) → Written z.new l m j → G j → F m)
        → Again z (ReadsThen k p q) (ReadsThen k p' q') X U G
    again-then a b k X U u t n = record { again = again_ }
      where
        again_ : (i : ℕ) (v : C) (j : ℕ) → ReadsThen k p q i v j → (l : List Lexeme) × X v l × ((i' j' : ℕ) → At z i i' → Written z.new l i' j' → G j' → (v' : C) × ReadsThen k p' q' i' v' j' × U v v' × At z j j')
        again_ i v j (x, y, m, h, g, e) =
            let a' = a.again i x m h in
            let b' = b.again m y j g in (
              a'.0 ++ b'.0,
              subst (λ c. X c (a'.0 ++ b'.0)) (sym e) (u x y a'.0 b'.0 a'.1 b'.1),
              λ i' j' at has f.
                  let s = written_split z.new a'.0 b'.0 i' j' has in
                  let l = a'.2 i' s.0 at s.1 (n y b'.0 b'.1 s.0 j' s.2 f) in
                  let r = b'.2 s.0 j' l.3 s.2 f in
                  (k l.0 r.0, (l.0, r.0, s.0, l.1, r.1, refl), subst (λ c. U c (k l.0 r.0)) (sym e) (t x l.0 y r.0 l.2 r.2), r.3),
            )

  module _ {A : Type 0} {p c : Reading A} {W : A → List Lexeme → Type 0} {S : A → A → Type 0} {F : ℕ → Type 0} where
    -- a form, or nothing where N holds of the place; F, which holds of the place behind, must give it
    pub again-option : (M N : ℕ → Type 0) → Again z p c W S F → (U : Option A → List Lexeme → Type 0) (T : Option A → Option A → Type 0)
        → U None [] → ((x : A) (l : List Lexeme) → W x l → U (Some x) l) → T None None → ((x y : A) → S x y → T (Some x) (Some y)) → ((j : ℕ) → F j → N j)
        → Again z (λ i v j. ((x : A) × p i x j × (v ≡ Some x)) ⊎ ((v ≡ None) × (j ≡ i) × M i)) (λ i v j. ((x : A) × c i x j × (v ≡ Some x)) ⊎ ((v ≡ None) × (j ≡ i) × N i)) U T F
    again-option M N a U T u0 u t0 t n = record { again = again_ }
      where
        again_ : (i : ℕ) (v : Option A) (j : ℕ) → ((x : A) × p i x j × (v ≡ Some x)) ⊎ ((v ≡ None) × (j ≡ i) × M i) → (l : List Lexeme) × U v l
            × ((i' j' : ℕ) → At z i i' → Written z.new l i' j' → F j' → (v' : Option A) × (((x : A) × c i' x j' × (v' ≡ Some x)) ⊎ ((v' ≡ None) × (j' ≡ i') × N i')) × T v v' × At z j j')
        again_ i v j (inl (x, h, e)) =
            let r = a.again i x j h in
            (r.0, subst (λ y. U y r.0) (sym e) (u x r.0 r.1), λ i' j' at has f. let q = r.2 i' j' at has f in (Some q.0, inl (q.0, q.1, refl), subst (λ y. T y (Some q.0)) (sym e) (t x q.0 q.2), q.3))
        again_ i v j (inr (e, g, m)) =
            ([], subst (λ y. U y []) (sym e) u0, λ i' j' at has f. (None, inr (refl, has, subst N has (n j' f)), subst (λ y. T y None) (sym e) t0, subst (λ t. At z t j') (sym g) (subst (λ t. At z i t) (sym has) at)))

    pub again-maybe : Again z p c W S F → (U : Option A → List Lexeme → Type 0) (T : Option A → Option A → Type 0)
        → U None [] → ((x : A) (l : List Lexeme) → W x l → U (Some x) l) → T None None → ((x y : A) → S x y → T (Some x) (Some y))
        → Again z (λ i v j. ((x : A) × p i x j × (v ≡ Some x)) ⊎ ((v ≡ None) × (j ≡ i))) (λ i v j. ((x : A) × c i x j × (v ≡ Some x)) ⊎ ((v ≡ None) × (j ≡ i))) U T F
    again-maybe a U T u0 u t0 t = record { again = again_ }
      where
        again_ : (i : ℕ) (v : Option A) (j : ℕ) → ((x : A) × p i x j × (v ≡ Some x)) ⊎ ((v ≡ None) × (j ≡ i)) → (l : List Lexeme) × U v l
            × ((i' j' : ℕ) → At z i i' → Written z.new l i' j' → F j' → (v' : Option A) × (((x : A) × c i' x j' × (v' ≡ Some x)) ⊎ ((v' ≡ None) × (j' ≡ i'))) × T v v' × At z j j')
        again_ i v j (inl (x, h, e)) =
            let r = a.again i x j h in
            (r.0, subst (λ y. U y r.0) (sym e) (u x r.0 r.1), λ i' j' at has f. let q = r.2 i' j' at has f in (Some q.0, inl (q.0, q.1, refl), subst (λ y. T y (Some q.0)) (sym e) (t x q.0 q.2), q.3))
        again_ i v j (inr (e, g)) =
            ([], subst (λ y. U y []) (sym e) u0, λ i' j' at has f. (None, inr (refl, has), subst (λ y. T y None) (sym e) t0, subst (λ t. At z t j') (sym g) (subst (λ t. At z i t) (sym has) at)))

  -- an expression: the same number of operators stands before it on both sides
  module _ {A : Type 0} {r c : Option ℕ → Reading A} {W : A → List Lexeme → Type 0} {S : A → A → Type 0} {F : ℕ → Type 0} where
    pub again-counted : ((outer : Option ℕ) → Again z (r outer) (c outer) W S F) → (outer : Option ℕ) → Again z (λ i v j. r (begun z.old outer i) i v j) (λ i v j. c (begun z.new outer i) i v j) W S F
    again-counted a outer = record {
      again = λ i v j h.
          let p = (a (begun z.old outer i)).again i v j h in
          (p.0, p.1, λ i' j' at has f. let q = p.2 i' j' at has f in (q.0, subst (λ n. c (since outer n) i' q.0 j') at q.1, q.2, q.3));
    }

  -- operands p with separators q, added to what was read so far
  module _ {A B C : Type 0} {p p' : Reading A} {q q' : Reading B} {V : A → List Lexeme → Type 0} {W : B → List Lexeme → Type 0} {S : A → A → Type 0} {T : B → B → Type 0} {F : ℕ → Type 0}
      (a : Again z p p' V S F) (b : Again z q q' W T Any) (first : A → C) (step : C → B → A → C) (X : C → List Lexeme → Type 0) (U : C → C → Type 0) where
    module _ (x_first : (x : A) (l : List Lexeme) → V x l → X (first x) l) (x_step : (c : C) (y : B) (x : A) (l m n : List Lexeme) → X c l → W y m → V x n → X (step c y x) (l ++ (m ++ n)))
        (s_first : (x x' : A) → S x x' → U (first x) (first x')) (s_step : (c c' : C) (y y' : B) (x x' : A) → U c c' → T y y' → S x x' → U (step c y x) (step c' y' x'))
        (behind : (y : B) (x : A) (m n : List Lexeme) → W y m → V x n → (i j : ℕ) → Written z.new (m ++ n) i j → F j → F i) where
      abbrev More : ℕ → C → Reading C
      More = ReadsMore (stepped step) (ReadsThen pair_of q p)

      abbrev More' : ℕ → C → Reading C
      More' = ReadsMore (stepped step) (ReadsThen pair_of q' p')

      -- the lexemes of the rest, behind those of what was read so far
      more : (n : ℕ) (c : C) (i : ℕ) (v : C) (j : ℕ) (sofar : List Lexeme) → X c sofar → More n c i v j → (l : List Lexeme) × X v (sofar ++ l)
          × ((i' j' : ℕ) → Written z.new l i' j' → F j' → F i' × (At z i i' → (c' : C) → U c c' → (v' : C) × More' n c' i' v' j' × U v v' × At z j j'))
      more zero c i v j sofar x (e, g) = (
        [],
        subst (λ t. X t (sofar ++ [])) (sym e) (subst (X c) (sym (append-nil sofar)) x),
        λ i' j' has f. (subst F has f, λ at c' s. (c', (refl, has), subst (λ t. U t c') (sym e) s, subst (λ t. At z t j') (sym g) (subst (λ t. At z i t) (sym has) at))),
      )
      more (suc n) c i v j sofar x (y, m, (sep, operand, k, hq, hp, e), t) =
          let y_is : stepped step c y ≡ step c sep operand = ap (stepped step c) e in
          let b' = b.again i sep k hq in
          let a' = a.again k operand m hp in
          let r = more n (step c sep operand) m v j (sofar ++ (b'.0 ++ a'.0)) (x_step c sep operand sofar b'.0 a'.0 x b'.1 a'.1) (subst (λ l. More n l m v j) y_is t) in (
            (b'.0 ++ a'.0) ++ r.0,
            subst (X v) (append_assoc sofar (b'.0 ++ a'.0) r.0) r.1,
            λ i' j' has f.
                let s = written_split z.new (b'.0 ++ a'.0) r.0 i' j' has in
                let g = r.2 s.0 j' s.2 f in
                let o = written_split z.new b'.0 a'.0 i' s.0 s.1 in (
                  behind sep operand b'.0 a'.0 b'.1 a'.1 i' s.0 s.1 g.0,
                  λ at c' same.
                      let y' = b'.2 i' o.0 at o.1 tt in
                      let x' = a'.2 o.0 s.0 y'.3 o.2 g.0 in
                      let w = g.1 x'.3 (step c' y'.0 x'.0) (s_step c c' sep y'.0 operand x'.0 same y'.2 x'.2) in
                      (w.0, ((y'.0, x'.0), s.0, (y'.0, x'.0, o.0, y'.1, x'.1, refl {a = pair_of y'.0 x'.0}), w.1), w.2, w.3),
                ),
          )

      pub again-chain : Again z (ReadsChain first step p q) (ReadsChain first step p' q') X U F
      again-chain = record { again = again_ }
        where
          again_ : (i : ℕ) (v : C) (j : ℕ) → ReadsChain first step p q i v j → (l : List Lexeme) × X v l
              × ((i' j' : ℕ) → At z i i' → Written z.new l i' j' → F j' → (v' : C) × ReadsChain first step p' q' i' v' j' × U v v' × At z j j')
          again_ i v j (x, m, n, h, t) =
              let a' = a.again i x m h in
              let r = more n (first x) m v j a'.0 (x_first x a'.0 a'.1) t in (
                a'.0 ++ r.0,
                r.1,
                λ i' j' at has f.
                    let s = written_split z.new a'.0 r.0 i' j' has in
                    let g = r.2 s.0 j' s.2 f in
                    let y = a'.2 i' s.0 at s.1 g.0 in
                    let w = g.1 y.3 (first y.0) (s_first x y.0 y.2) in
                    (w.0, (y.0, s.0, n, y.1, w.1), w.2, w.3),
              )
