-- The tower of operators, level by level, spells and opens what factors with any of its operators between do.
use Rattle.std.proofs.Common.{◌≡◌, ℕ, zero, suc, ◌⊎◌, inl, inr, true, List, [], ◌∷◌, ◌++◌, Option, refl, subst}
use Rattle.qt_terminals.specs.Terminals.{PlacedTerminal}
use Rattle.qt_grammar.specs.Sorts.{Value, Name, expr, sort}
use Rattle.qt_grammar.specs.Form.{Form, terminal_at, begun, Reading, Opening, ReadsBy, OpensBy, ReadsThen, ReadsMore, ReadsOperator, OpensOperator, pair_of, stepped}
use Rattle.qt_grammar.specs.Language.{factor, level, ops_at, tower, levels, expression, joined}
use Rattle.qt_grammar.specs.Operators.{binary_operators, flat_expression}
use Rattle.qt_grammar.proofs.LookaheadTests.{In, in_left, in_right, joined_in}

-- ---- tokens from one place up to another, whatever their tree

abbrev pub Span : Type 1
Span = ℕ → ℕ → Type 0

abbrev pub Some_of : {A : Type 0} → Reading A → Span
Some_of {A} r i j = (v : A) × r i v j

abbrev pub Spans : Span → ℕ → Span
Spans q zero i j = j ≡ i
Spans q (suc n) i j = (m : ℕ) × q i m × Spans q n m j

abbrev pub Run : Span → Span
Run q i j = (n : ℕ) × Spans q n i j

pub nil : (q : Span) (i : ℕ) → Run q i i
nil q i = (0, refl)

pub add : (q : Span) (i m j : ℕ) → q i m → Run q m j → Run q i j
add q i m j h t = (suc t.0, (m, h, t.1))

pub append : (q : Span) (n i m j : ℕ) → Spans q n i m → Run q m j → Run q i j
append q zero i m j e t = subst (λ k. Run q k j) e t
append q (suc n) i m j (x, h, s) t = add q i x j h (append q n x m j s t)

pub map_spans : (q q' : Span) → ((i j : ℕ) → q i j → q' i j) → (n i j : ℕ) → Spans q n i j → Spans q' n i j
map_spans q q' f zero i j e = e
map_spans q q' f (suc n) i j (m, h, s) = (m, f i m h, map_spans q q' f n m j s)

-- an operator and then an operand
abbrev pub Item : Span → Span → Span
Item s p i j = (m : ℕ) × s i m × p m j

-- operands with operators between
abbrev pub Chain : Span → Span → Span
Chain p s i j = (m : ℕ) × p i m × Run (Item s p) m j

abbrev pub OpenItem : Span → Span → Span → Span
OpenItem s p o i j = s i j ⊎ ((m : ℕ) × p i m × o m j)

-- what opens such a chain: `po` opens an operand, `so` an operator
abbrev pub OpenChain : Span → Span → Span → Span → Span
OpenChain p s po so i j = po i j ⊎ ((m : ℕ) × Chain p s i m × OpenItem so s po m j)

pub map_chain : (p p' s : Span) → ((i j : ℕ) → p i j → p' i j) → (i j : ℕ) → Chain p s i j → Chain p' s i j
map_chain p p' s f i j (m, h, (n, t)) = (m, f i m h, (n, map_spans (Item s p) (Item s p') (λ i j z. (z.0, z.1, f z.0 j z.2)) n m j t))

pub map_open_chain : (p p' s po po' so : Span) → ((i j : ℕ) → p i j → p' i j) → ((i j : ℕ) → po i j → po' i j) → (i j : ℕ) → OpenChain p s po so i j → OpenChain p' s po' so i j
map_open_chain p p' s po po' so f g i j (inl h) = inl (g i j h)
map_open_chain p p' s po po' so f g i j (inr (m, c, inl h)) = inr (m, map_chain p p' s f i m c, inl h)
map_open_chain p p' s po po' so f g i j (inr (m, c, inr (x, h, o))) = inr (m, map_chain p p' s f i m c, inr (x, h, g x j o))

-- ---- a chain of chains is a chain

module _ (p po strong strong_open weak weak_open all all_open : Span)
    (of_strong : (i j : ℕ) → strong i j → all i j) (of_weak : (i j : ℕ) → weak i j → all i j) (split : (i j : ℕ) → all i j → weak i j ⊎ strong i j)
    (of_strong_open : (i j : ℕ) → strong_open i j → all_open i j) (of_weak_open : (i j : ℕ) → weak_open i j → all_open i j) (split_open : (i j : ℕ) → all_open i j → weak_open i j ⊎ strong_open i j) where
  -- an operand of the weaker operators
  abbrev Inner : Span
  Inner = Chain p strong

  abbrev InnerOpen : Span
  InnerOpen = OpenChain p strong po strong_open

  widened : (n i j : ℕ) → Spans (Item strong p) n i j → Spans (Item all p) n i j
  widened n i j s = map_spans (Item strong p) (Item all p) (λ i j z. (z.0, of_strong i z.0 z.1, z.2)) n i j s

  joined_run : (n i j : ℕ) → Spans (Item weak Inner) n i j → Run (Item all p) i j
  joined_run zero i j e = (0, e)
  joined_run (suc n) i j (m, (x, s, (y, h, (k, t))), rest) = add (Item all p) i y j (x, of_weak i x s, h) (append (Item all p) k y m j (widened k y m t) (joined_run n m j rest))

  pub join_chain : (i j : ℕ) → Chain Inner weak i j → Chain p all i j
  join_chain i j (m, (y, h, (k, t)), (n, rest)) = (y, h, append (Item all p) k y m j (widened k y m t) (joined_run n m j rest))

  -- the part up to the next weak operator, and the rest
  split_run : (n i j : ℕ) → Spans (Item all p) n i j → (m : ℕ) × Run (Item strong p) i m × Run (Item weak Inner) m j
  split_run zero i j e = (i, nil (Item strong p) i, (0, e))
  split_run (suc n) i j (m, (x, s, h), rest) = go (split i x s) (split_run n m j rest)
    where
      go : weak i x ⊎ strong i x → (b : ℕ) × Run (Item strong p) m b × Run (Item weak Inner) b j → (b : ℕ) × Run (Item strong p) i b × Run (Item weak Inner) b j
      go (inl s) (b, r, t) = (i, nil (Item strong p) i, add (Item weak Inner) i b j (x, s, (m, h, r)) t)
      go (inr s) (b, r, t) = (b, add (Item strong p) i m b (x, s, h) r, t)

  pub split_chain : (i j : ℕ) → Chain p all i j → Chain Inner weak i j
  split_chain i j (m, h, (n, t)) = let z = split_run n m j t in (z.0, (m, h, z.1), z.2)

  widened_item : (i j : ℕ) → OpenItem strong_open strong po i j → OpenItem all_open all po i j
  widened_item i j (inl o) = inl (of_strong_open i j o)
  widened_item i j (inr (m, s, o)) = inr (m, of_strong i m s, o)

  pub join_open : (i j : ℕ) → OpenChain Inner weak InnerOpen weak_open i j → OpenChain p all po all_open i j
  join_open i j (inl (inl o)) = inl o
  join_open i j (inl (inr (m, (y, h, (k, t)), o))) = inr (m, (y, h, (k, widened k y m t)), widened_item m j o)
  join_open i j (inr (m, c, inl o)) = inr (m, join_chain i m c, inl (of_weak_open m j o))
  join_open i j (inr (m, c, inr (x, s, inl o))) = inr (m, join_chain i m c, inr (x, of_weak m x s, o))
  join_open i j (inr (m, c, inr (x, s, inr (b, (y, h, (k, t)), o)))) =
      let z : Chain p all i m = join_chain i m c in
      inr (b, (z.0, z.1, append (Item all p) (z.2).0 z.0 m b (z.2).1 (add (Item all p) m y b (x, of_weak m x s, h) (k, widened k y b t))), widened_item b j o)

  -- behind an operand: the next part opens what it stands in, or the rest does
  abbrev Goes : Span
  Goes i j = ((b : ℕ) × Run (Item strong p) i b × OpenItem strong_open strong po b j) ⊎ ((b c : ℕ) × Run (Item strong p) i b × Run (Item weak Inner) b c × OpenItem weak_open weak InnerOpen c j)

  goes_last : (i j : ℕ) → OpenItem all_open all po i j → Goes i j
  goes_last i j (inl o) = elim (split_open i j o) [
    | inl u ↦ inr (i, i, nil (Item strong p) i, nil (Item weak Inner) i, inl u)
    | inr u ↦ inl (i, nil (Item strong p) i, inl u)
  ]
  goes_last i j (inr (m, s, o)) = elim (split i m s) [
    | inl u ↦ inr (i, i, nil (Item strong p) i, nil (Item weak Inner) i, inr (m, u, inl o))
    | inr u ↦ inl (i, nil (Item strong p) i, inr (m, u, o))
  ]

  goes : (n i m j : ℕ) → Spans (Item all p) n i m → OpenItem all_open all po m j → Goes i j
  goes zero i m j e o = goes_last i j (subst (λ k. OpenItem all_open all po k j) e o)
  goes (suc n) i m j (y, (x, s, h), rest) o = go (split i x s) (goes n y m j rest o)
    where
      go : weak i x ⊎ strong i x → Goes y j → Goes i j
      go (inl s) (inl (b, r, o)) = inr (i, i, nil (Item strong p) i, nil (Item weak Inner) i, inr (x, s, inr (b, (y, h, r), o)))
      go (inl s) (inr (b, c, r, t, o)) = inr (i, c, nil (Item strong p) i, add (Item weak Inner) i b c (x, s, (y, h, r)) t, o)
      go (inr s) (inl (b, r, o)) = inl (b, add (Item strong p) i y b (x, s, h) r, o)
      go (inr s) (inr (b, c, r, t, o)) = inr (b, c, add (Item strong p) i y b (x, s, h) r, t, o)

  pub split_open_chain : (i j : ℕ) → OpenChain p all po all_open i j → OpenChain Inner weak InnerOpen weak_open i j
  split_open_chain i j (inl o) = inl (inl o)
  split_open_chain i j (inr (m, (y, h, (n, t)), o)) = elim (goes n y m j t o) [
    | inl z ↦ inl (inr (z.0, (y, h, z.1), z.2))
    | inr z ↦ inr (z.1, (z.0, (y, h, z.2), z.3), z.4)
  ]

-- ---- the forms

pub to_spans : {B C : Type 0} (step : C → B → C) (q : Reading B) (n : ℕ) (c : C) (i : ℕ) (v : C) (j : ℕ) → ReadsMore step q n c i v j → Spans (Some_of q) n i j
to_spans step q zero c i v j h = h.1
to_spans step q (suc n) c i v j (y, m, h, t) = (m, (y, h), to_spans step q n (step c y) m v j t)

pub of_spans : {B C : Type 0} (step : C → B → C) (q : Reading B) (n : ℕ) (c : C) (i j : ℕ) → Spans (Some_of q) n i j → (v : C) × ReadsMore step q n c i v j
of_spans step q zero c i j e = (c, (refl, e))
of_spans step q (suc n) c i j (m, h, t) = let z = of_spans step q n (step c h.0) m j t in (z.0, (h.0, m, h.1, z.1))

module _ (ts : ℕ → PlacedTerminal) (cap : ℕ) (reads : (n : Name) → Option ℕ → Reading (Value (sort n))) (opens : (n : Name) → Option ℕ → Opening) (outer : Option ℕ) where
  abbrev pub R : Form expr → Span
  R f = Some_of (ReadsBy ts cap reads f outer)

  abbrev pub O : Form expr → Span
  O f = OpensBy ts cap reads opens f outer

  abbrev pub S : List ℕ → Span
  S ws = Some_of (ReadsOperator ts cap ws outer)

  abbrev pub SO : List ℕ → Span
  SO ws = OpensOperator ts cap ws outer

  -- an operator and an operand, with their trees
  abbrev pub Pair : (ws : List ℕ) (f : Form expr) → Reading (PlacedTerminal × Value expr)
  Pair ws f = ReadsThen pair_of (ReadsOperator ts cap ws outer) (ReadsBy ts cap reads f outer)

  item_of : (ws : List ℕ) (f : Form expr) (i j : ℕ) → Some_of (Pair ws f) i j → Item (S ws) (R f) i j
  item_of ws f i j (v, (x, y, m, h, t, e)) = (m, (x, h), (y, t))

  of_item : (ws : List ℕ) (f : Form expr) (i j : ℕ) → Item (S ws) (R f) i j → Some_of (Pair ws f) i j
  of_item ws f i j (m, (x, h), (y, t)) = ((x, y), (x, y, m, h, t, refl))

  pub chain_of : (ws : List ℕ) (f : Form expr) (i j : ℕ) → R (level ws f) i j → Chain (R f) (S ws) i j
  chain_of ws f i j (v, (x, m, n, h, t)) =
      (m, (x, h), (n, map_spans (Some_of (Pair ws f)) (Item (S ws) (R f)) (item_of ws f) n m j (to_spans (stepped joined) (Pair ws f) n x m v j t)))

  pub of_chain : (ws : List ℕ) (f : Form expr) (i j : ℕ) → Chain (R f) (S ws) i j → R (level ws f) i j
  of_chain ws f i j (m, (x, h), (n, t)) =
      let z = of_spans (stepped joined) (Pair ws f) n x m j (map_spans (Item (S ws) (R f)) (Some_of (Pair ws f)) (of_item ws f) n m j t) in
      (z.0, (x, m, n, h, z.1))

  pub open_chain_of : (ws : List ℕ) (f : Form expr) (i j : ℕ) → O (level ws f) i j → OpenChain (R f) (S ws) (O f) (SO ws) i j
  open_chain_of ws f i j (inl h) = inl h
  open_chain_of ws f i j (inr (v, m, c, inl o)) = inr (m, chain_of ws f i m (v, c), inl o)
  open_chain_of ws f i j (inr (v, m, c, inr (x, l, h, o))) = inr (m, chain_of ws f i m (v, c), inr (l, (x, h), o))

  pub of_open_chain : (ws : List ℕ) (f : Form expr) (i j : ℕ) → OpenChain (R f) (S ws) (O f) (SO ws) i j → O (level ws f) i j
  of_open_chain ws f i j (inl h) = inl h
  of_open_chain ws f i j (inr (m, c, inl o)) = let z = of_chain ws f i m c in inr (z.0, m, z.1, inl o)
  of_open_chain ws f i j (inr (m, c, inr (l, (x, h), o))) = let z = of_chain ws f i m c in inr (z.0, m, z.1, inr (x, l, h, o))

  -- two forms spell and open the same tokens
  pub record Alike (f g : Form expr) : Type 0 where
    pub spells : (i j : ℕ) → R f i j → R g i j
    pub spells_back : (i j : ℕ) → R g i j → R f i j
    pub begins : (i j : ℕ) → O f i j → O g i j
    pub begins_back : (i j : ℕ) → O g i j → O f i j

  -- operators of two lists
  in_all : (xs ys : List ℕ) (n : ℕ) → In (xs ++ ys) n → In xs n ⊎ In ys n
  in_all xs ys n a = elim (joined_in xs true ys n a) [ inl t ↦ inl t | inr t ↦ inr t.1 ]

  module _ (xs ys : List ℕ) where
    pub right : (i j : ℕ) → S ys i j → S (xs ++ ys) i j
    right i j (v, (a, b, e, l)) = (v, (in_right xs ys (terminal_at ts i) a, b, e, l))

    pub left : (i j : ℕ) → S xs i j → S (xs ++ ys) i j
    left i j (v, (a, b, e, l)) = (v, (in_left xs ys (terminal_at ts i) a, b, e, l))

    pub apart : (i j : ℕ) → S (xs ++ ys) i j → S xs i j ⊎ S ys i j
    apart i j (v, (a, b, e, l)) = elim (in_all xs ys (terminal_at ts i) a) [ inl t ↦ inl (v, (t, b, e, l)) | inr t ↦ inr (v, (t, b, e, l)) ]

    pub right_open : (i j : ℕ) → SO ys i j → SO (xs ++ ys) i j
    right_open i j (inl e) = inl e
    right_open i j (inr (e, a, b)) = inr (e, in_right xs ys (terminal_at ts i) a, b)

    pub left_open : (i j : ℕ) → SO xs i j → SO (xs ++ ys) i j
    left_open i j (inl e) = inl e
    left_open i j (inr (e, a, b)) = inr (e, in_left xs ys (terminal_at ts i) a, b)

    pub apart_open : (i j : ℕ) → SO (xs ++ ys) i j → SO xs i j ⊎ SO ys i j
    apart_open i j (inl e) = inl (inl e)
    apart_open i j (inr (e, a, b)) = elim (in_all xs ys (terminal_at ts i) a) [ inl t ↦ inl (inr (e, t, b)) | inr t ↦ inr (inr (e, t, b)) ]

    -- a level whose operands are like those of one stronger level is like one level
    level_alike : (f : Form expr) → Alike f (level ys factor) → Alike (level xs f) (level (xs ++ ys) factor)
    level_alike f h = record {
      spells = λ i j r. of_chain (xs ++ ys) factor i j (join_chain (R factor) (O factor) (S ys) (SO ys) (S xs) (SO xs) (S (xs ++ ys)) (SO (xs ++ ys)) right left apart right_open left_open apart_open i j
          (map_chain (R f) (Chain (R factor) (S ys)) (S xs) (λ i j z. chain_of ys factor i j (h.spells i j z)) i j (chain_of xs f i j r)));
      spells_back = λ i j r. of_chain xs f i j (map_chain (Chain (R factor) (S ys)) (R f) (S xs) (λ i j z. h.spells_back i j (of_chain ys factor i j z)) i j
          (split_chain (R factor) (O factor) (S ys) (SO ys) (S xs) (SO xs) (S (xs ++ ys)) (SO (xs ++ ys)) right left apart right_open left_open apart_open i j (chain_of (xs ++ ys) factor i j r)));
      begins = λ i j r. of_open_chain (xs ++ ys) factor i j (join_open (R factor) (O factor) (S ys) (SO ys) (S xs) (SO xs) (S (xs ++ ys)) (SO (xs ++ ys)) right left apart right_open left_open apart_open i j
          (map_open_chain (R f) (Chain (R factor) (S ys)) (S xs) (O f) (OpenChain (R factor) (S ys) (O factor) (SO ys)) (SO xs)
          (λ i j z. chain_of ys factor i j (h.spells i j z)) (λ i j z. open_chain_of ys factor i j (h.begins i j z)) i j (open_chain_of xs f i j r)));
      begins_back = λ i j r. of_open_chain xs f i j (map_open_chain (Chain (R factor) (S ys)) (R f) (S xs) (OpenChain (R factor) (S ys) (O factor) (SO ys)) (O f) (SO xs)
          (λ i j z. h.spells_back i j (of_chain ys factor i j z)) (λ i j z. h.begins_back i j (of_open_chain ys factor i j z)) i j
          (split_open_chain (R factor) (O factor) (S ys) (SO ys) (S xs) (SO xs) (S (xs ++ ys)) (SO (xs ++ ys)) right left apart right_open left_open apart_open i j (open_chain_of (xs ++ ys) factor i j r)));
    }

  -- the operators of all levels
  abbrev all_of : List ℕ → List (List ℕ) → List ℕ
  all_of ws [] = ws
  all_of ws (xs ∷ more) = ws ++ all_of xs more

  tower_alike : (ws : List ℕ) (more : List (List ℕ)) → Alike (tower (ws ∷ more)) (level (all_of ws more) factor)
  tower_alike ws [] = record { spells = λ i j r. r; spells_back = λ i j r. r; begins = λ i j r. r; begins_back = λ i j r. r }
  tower_alike ws (xs ∷ more) = level_alike ws (all_of xs more) (tower (xs ∷ more)) (tower_alike xs more)

module _ (ts : ℕ → PlacedTerminal) (cap : ℕ) (reads : (n : Name) → Option ℕ → Reading (Value (sort n))) (opens : (n : Name) → Option ℕ → Opening) (outer : Option ℕ) (i j : ℕ) where
  abbrev alike : Alike ts cap reads opens (begun ts outer i) (tower levels) (level binary_operators factor)
  alike = tower_alike ts cap reads opens (begun ts outer i) (ops_at 0) (ops_at 1 ∷ ops_at 2 ∷ ops_at 3 ∷ ops_at 4 ∷ ops_at 5 ∷ ops_at 6 ∷ ops_at 7 ∷ ops_at 8 ∷ ops_at 9 ∷ [])

  pub flat_reads : Some_of (ReadsBy ts cap reads expression outer) i j → Some_of (ReadsBy ts cap reads flat_expression outer) i j
  flat_reads h = alike.spells i j h

  pub tower_reads : Some_of (ReadsBy ts cap reads flat_expression outer) i j → Some_of (ReadsBy ts cap reads expression outer) i j
  tower_reads h = alike.spells_back i j h

  pub flat_opens : OpensBy ts cap reads opens expression outer i j → OpensBy ts cap reads opens flat_expression outer i j
  flat_opens h = alike.begins i j h

  pub tower_opens : OpensBy ts cap reads opens flat_expression outer i j → OpensBy ts cap reads opens expression outer i j
  tower_opens h = alike.begins_back i j h
