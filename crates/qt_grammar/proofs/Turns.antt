-- Whatever the levels, factors with binary operators between are unary operators, primaries and binary operators in turn.
use Rattle.std.proofs.Common.{◌≡◌, ℕ, zero, suc, ◌≤◌, ◌⊎◌, inl, inr, max, List, [], ◌∷◌, ◌++◌, Option, Some, None, refl, subst, arith}
use Rattle.qt_terminals.specs.declared.terminal.Terminal.TheVariants as w
use Rattle.qt_terminals.specs.Alphabet.{code}
use Rattle.qt_terminals.specs.Terminals.{PlacedTerminal}
use Rattle.qt_grammar.specs.Sorts.{Value, Name, expr, token, nothing, several, unary, sort}
use Rattle.qt_grammar.specs.Form.{Form, operator, Reading, Opening, ReadsThen, ReadsOperator, OpensOperator, pair_of, stepped}
use Rattle.qt_grammar.specs.Language.{primary, factor, signed, powered, some, level}
use Rattle.qt_grammar.specs.Spelling.{ReadsTo, OpensTo}
use Rattle.qt_grammar.specs.Operators.{binary_operators, unary_operators, signed_primary}
use Rattle.qt_grammar.proofs.Named.{Reads, Opens}
use Rattle.qt_grammar.proofs.Limits.{reads_more, opens_more}
use Rattle.qt_grammar.proofs.Flat.{Span, Some_of, Spans, Run, Item, Chain, OpenItem, OpenChain, nil, add, map_spans, map_chain, map_open_chain, join_chain, join_open, to_spans, of_spans}
use Rattle.qt_grammar.proofs.Flat as flat

module _ (ts : ℕ → PlacedTerminal) (cap : ℕ) (e : Option ℕ) where
  -- what is read within so many levels: a factor, a primary, the operand of a unary operator
  abbrev F : ℕ → Span
  F d = Some_of (Reads ts cap d factor e)

  abbrev P : ℕ → Span
  P d = Some_of (Reads ts cap d primary e)

  abbrev U : ℕ → Span
  U d = Some_of (ReadsTo ts cap d unary e)

  abbrev Op : List ℕ → Span
  Op ws = Some_of (ReadsOperator ts cap ws e)

  abbrev OpOpen : List ℕ → Span
  OpOpen ws = OpensOperator ts cap ws e

  abbrev stars : List ℕ
  stars = code w.StarStar ∷ []

  abbrev all : List ℕ
  all = code w.StarStar ∷ binary_operators

  -- the signs, `**`, the binary operators but it, and with it
  abbrev G : Span
  G = Op unary_operators

  abbrev X : Span
  X = Op stars

  abbrev B : Span
  B = Op binary_operators

  abbrev A : Span
  A = Op all

  abbrev FO : ℕ → Span
  FO d = Opens ts cap d factor e

  abbrev PO : ℕ → Span
  PO d = Opens ts cap d primary e

  abbrev UO : ℕ → Span
  UO d = OpensTo ts cap d unary e

  -- signs and a primary
  abbrev SP : ℕ → Span
  SP d i j = (m : ℕ) × Run G i m × P d m j

  abbrev SPO : ℕ → Span
  SPO d i j = (m : ℕ) × Run G i m × (OpOpen unary_operators m j ⊎ PO d m j)

  -- all parts in turn
  abbrev T : ℕ → Span
  T d = Chain (SP d) A

  abbrev TO : ℕ → Span
  TO d = OpenChain (SP d) A (SPO d) (OpOpen all)

  -- ---- within more levels

  f_up : (d d' : ℕ) → d ≤ d' → (i j : ℕ) → F d i j → F d' i j
  f_up d d' le i j (v, h) = (v, reads_more ts cap cap (omega arith) d d' le factor e i v j h)

  p_up : (d d' : ℕ) → d ≤ d' → (i j : ℕ) → P d i j → P d' i j
  p_up d d' le i j (v, h) = (v, reads_more ts cap cap (omega arith) d d' le primary e i v j h)

  fo_up : (d d' : ℕ) → d ≤ d' → (i j : ℕ) → FO d i j → FO d' i j
  fo_up d d' le i j h = opens_more ts cap cap (omega arith) d d' le factor e i j h

  sp_up : (d d' : ℕ) → d ≤ d' → (i j : ℕ) → SP d i j → SP d' i j
  sp_up d d' le i j (m, r, p) = (m, r, p_up d d' le m j p)

  spo_up : (d d' : ℕ) → d ≤ d' → (i j : ℕ) → SPO d i j → SPO d' i j
  spo_up d d' le i j (m, r, inl o) = (m, r, inl o)
  spo_up d d' le i j (m, r, inr o) = (m, r, inr (opens_more ts cap cap (omega arith) d d' le primary e m j o))

  run_up : (d d' : ℕ) → d ≤ d' → (i j : ℕ) → Run (Item B (F d)) i j → Run (Item B (F d')) i j
  run_up d d' le i j (n, t) = (n, map_spans (Item B (F d)) (Item B (F d')) (λ i j z. (z.0, z.1, f_up d d' le z.0 j z.2)) n i j t)

  item_up : (d d' : ℕ) → d ≤ d' → (i j : ℕ) → OpenItem (OpOpen binary_operators) B (FO d) i j → OpenItem (OpOpen binary_operators) B (FO d') i j
  item_up d d' le i j (inl o) = inl o
  item_up d d' le i j (inr (m, s, o)) = inr (m, s, fo_up d d' le m j o)

  -- ---- the parts of a factor

  factor_cases : (d i j : ℕ) → F d i j → ((m : ℕ) × G i m × U d m j) ⊎ ((m : ℕ) × P d i m × ((j ≡ m) ⊎ ((k : ℕ) × X m k × U d k j)))
  factor_cases d i j (v, inl (x, y, m, g, u, q)) = inl (m, (x, g), (y, u))
  factor_cases d i j (v, inr (x, y, m, p, inl (z, (a, b, k, s, u, q2), q3), q)) = inr (m, (x, p), inr (k, (a, s), (b, u)))
  factor_cases d i j (v, inr (x, y, m, p, inr (q2, l), q)) = inr (m, (x, p), inl l)

  of_sign : (d i m j : ℕ) → G i m → U d m j → F d i j
  of_sign d i m j (x, g) (y, u) = (signed x y, inl (x, y, m, g, u, refl))

  of_primary : (d i j : ℕ) → P d i j → F d i j
  of_primary d i j (x, p) = (powered x None, inr (x, None, j, p, inr (refl, refl), refl))

  of_power : (d i m k j : ℕ) → P d i m → X m k → U d k j → F d i j
  of_power d i m k j (x, p) (a, s) (b, u) = (powered x (Some b), inr (x, Some b, m, p, inl (b, (a, b, k, s, u, refl), refl), refl))

  open_cases : (d i j : ℕ) → FO d i j → (OpOpen unary_operators i j ⊎ ((m : ℕ) × G i m × UO d m j)) ⊎ (PO d i j ⊎ ((m : ℕ) × P d i m × (OpOpen stars m j ⊎ ((k : ℕ) × X m k × UO d k j))))
  open_cases d i j (inl (inl o)) = inl (inl o)
  open_cases d i j (inl (inr (x, m, g, u))) = inl (inr (m, (x, g), u))
  open_cases d i j (inr (inl o)) = inr (inl o)
  open_cases d i j (inr (inr (x, m, p, inl o))) = inr (inr (m, (x, p), inl o))
  open_cases d i j (inr (inr (x, m, p, inr (a, k, s, u)))) = inr (inr (m, (x, p), inr (k, (a, s), u)))

  -- ---- `**` is one of all operators, or one of the others is

  of_star : (i j : ℕ) → X i j → A i j
  of_star i j x = flat.left ts cap (ReadsTo ts cap 0) (OpensTo ts cap 0) e stars binary_operators i j x

  of_binary : (i j : ℕ) → B i j → A i j
  of_binary i j x = flat.right ts cap (ReadsTo ts cap 0) (OpensTo ts cap 0) e stars binary_operators i j x

  which : (i j : ℕ) → A i j → X i j ⊎ B i j
  which i j x = flat.apart ts cap (ReadsTo ts cap 0) (OpensTo ts cap 0) e stars binary_operators i j x

  of_star_open : (i j : ℕ) → OpOpen stars i j → OpOpen all i j
  of_star_open i j x = flat.left_open ts cap (ReadsTo ts cap 0) (OpensTo ts cap 0) e stars binary_operators i j x

  of_binary_open : (i j : ℕ) → OpOpen binary_operators i j → OpOpen all i j
  of_binary_open i j x = flat.right_open ts cap (ReadsTo ts cap 0) (OpensTo ts cap 0) e stars binary_operators i j x

  which_open : (i j : ℕ) → OpOpen all i j → OpOpen stars i j ⊎ OpOpen binary_operators i j
  which_open i j x = flat.apart_open ts cap (ReadsTo ts cap 0) (OpensTo ts cap 0) e stars binary_operators i j x

  -- ---- from factors to parts in turn

  behind_sign : (d i m j : ℕ) → G i m → T d m j → T d i j
  behind_sign d i m j g (k, (a, r, p), t) = (k, (a, add G i m a g r, p), t)

  behind_power : (d i m k j : ℕ) → P d i m → X m k → T d k j → T d i j
  behind_power d i m k j p x (b, s, t) = (m, (i, nil G i, p), add (Item A (SP d)) m b j (k, of_star m k x, s) t)

  t_up : (d d' : ℕ) → d ≤ d' → (i j : ℕ) → T d i j → T d' i j
  t_up d d' le i j h = map_chain (SP d) (SP d') A (sp_up d d' le) i j h

  to_up : (d d' : ℕ) → d ≤ d' → (i j : ℕ) → TO d i j → TO d' i j
  to_up d d' le i j h = map_open_chain (SP d) (SP d') A (SPO d) (SPO d') (OpOpen all) (sp_up d d' le) (spo_up d d' le) i j h

  turns_by : (d : ℕ) → ((i j : ℕ) → U d i j → T d i j) → (i j : ℕ) → F d i j → T d i j
  turns_by d under i j h = elim (factor_cases d i j h) [
    | inl z ↦ behind_sign d i z.0 j z.1 (under z.0 j z.2)
    | inr z ↦ elim z.2 [
      | inl l ↦ (z.0, (i, nil G i, z.1), (0, l))
      | inr u ↦ behind_power d i z.0 u.0 j z.1 u.1 (under u.0 j u.2)
    ]
  ]

  turns : (d i j : ℕ) → F d i j → T d i j
  turns zero i j h = turns_by zero (λ i j u. absurd u.1) i j h
  turns (suc d) i j h = turns_by (suc d) (λ i j u. t_up d (suc d) (omega arith) i j (turns d i j u)) i j h

  open_behind_sign : (d i m j : ℕ) → G i m → TO d m j → TO d i j
  open_behind_sign d i m j g (inl (a, r, o)) = inl (a, add G i m a g r, o)
  open_behind_sign d i m j g (inr (c, t, o)) = inr (c, behind_sign d i m c g t, o)

  open_behind_power : (d i m k j : ℕ) → P d i m → X m k → TO d k j → TO d i j
  open_behind_power d i m k j p x (inl o) = inr (m, (m, (i, nil G i, p), nil (Item A (SP d)) m), inr (k, of_star m k x, o))
  open_behind_power d i m k j p x (inr (c, t, o)) = inr (c, behind_power d i m k c p x t, o)

  turns_open_by : (d : ℕ) → ((i j : ℕ) → UO d i j → TO d i j) → (i j : ℕ) → FO d i j → TO d i j
  turns_open_by d under i j h = elim (open_cases d i j h) [
    | inl z ↦ elim z [
      | inl o ↦ inl (i, nil G i, inl o)
      | inr u ↦ open_behind_sign d i u.0 j u.1 (under u.0 j u.2)
    ]
    | inr z ↦ elim z [
      | inl o ↦ inl (i, nil G i, inr o)
      | inr u ↦ elim u.2 [
        | inl o ↦ inr (u.0, (u.0, (i, nil G i, u.1), nil (Item A (SP d)) u.0), inl (of_star_open u.0 j o))
        | inr y ↦ open_behind_power d i u.0 y.0 j u.1 y.1 (under y.0 j y.2)
      ]
    ]
  ]

  turns_open : (d i j : ℕ) → FO d i j → TO d i j
  turns_open zero i j h = turns_open_by zero (λ i j l. inl (i, nil G i, inl (inl l))) i j h
  turns_open (suc d) i j h = turns_open_by (suc d) (λ i j u. to_up d (suc d) (omega arith) i j (turns_open d i j u)) i j h

  pub chain_turns : (d i j : ℕ) → Chain (F d) B i j → T d i j
  chain_turns d i j h =
      join_chain (SP d) (SPO d) A (OpOpen all) B (OpOpen binary_operators) A (OpOpen all) (λ i j z. z) of_binary (λ i j z. inr z) (λ i j z. z) of_binary_open (λ i j z. inr z) i j
      (map_chain (F d) (T d) B (turns d) i j h)

  pub chain_turns_open : (d i j : ℕ) → OpenChain (F d) B (FO d) (OpOpen binary_operators) i j → TO d i j
  chain_turns_open d i j h =
      join_open (SP d) (SPO d) A (OpOpen all) B (OpOpen binary_operators) A (OpOpen all) (λ i j z. z) of_binary (λ i j z. inr z) (λ i j z. z) of_binary_open (λ i j z. inr z) i j
      (map_open_chain (F d) (T d) B (FO d) (TO d) (OpOpen binary_operators) (turns d) (turns_open d) i j h)

  -- ---- and back, within more levels

  abbrev pub SomeChain : Span
  SomeChain i j = (d : ℕ) × Chain (F d) B i j

  abbrev pub SomeOpenChain : Span
  SomeOpenChain i j = (d : ℕ) × OpenChain (F d) B (FO d) (OpOpen binary_operators) i j

  abbrev SomeF : Span
  SomeF i j = (d : ℕ) × F d i j

  abbrev SomeFO : Span
  SomeFO i j = (d : ℕ) × FO d i j

  signs : (n i a d j : ℕ) → Spans G n i a → F d a j → SomeF i j
  signs zero i a d j q h = (d, subst (λ t. F d t j) q h)
  signs (suc n) i a d j (m, g, t) h = let z : SomeF m j = signs n m a d j t h in (suc z.0, of_sign (suc z.0) i m j g z.1)

  signs_open : (n i a d j : ℕ) → Spans G n i a → FO d a j → SomeFO i j
  signs_open zero i a d j q h = (d, subst (λ t. FO d t j) q h)
  signs_open (suc n) i a d j (m, (x, g), t) h = let z : SomeFO m j = signs_open n m a d j t h in (suc z.0, inl (inr (x, m, g, z.1)))

  -- a primary, `**` and a factor
  power : (d d' i m k j : ℕ) → P d i m → X m k → F d' k j → SomeF i j
  power d d' i m k j p x f =
      let u : U (suc (max d d')) k j = f_up d' (max d d') (omega arith) k j f in
      (suc (max d d'), of_power (suc (max d d')) i m k j (p_up d (suc (max d d')) (omega arith) i m p) x u)

  power_open : (d d' i m k j : ℕ) → P d i m → X m k → FO d' k j → SomeFO i j
  power_open d d' i m k j p x f =
      let u : UO (suc (max d d')) k j = fo_up d' (max d d') (omega arith) k j f in
      let q : P (suc (max d d')) i m = p_up d (suc (max d d')) (omega arith) i m p in
      (suc (max d d'), inr (inr (q.0, m, q.1, inr (x.0, k, x.1, u))))

  first_factor : (i m j : ℕ) → SomeF i m → (d : ℕ) → Run (Item B (F d)) m j → SomeChain i j
  first_factor i m j z d t = (max z.0 d, (m, f_up z.0 (max z.0 d) (omega arith) i m z.1, run_up d (max z.0 d) (omega arith) m j t))

  factors : (d n i m j : ℕ) → SP d i m → Spans (Item A (SP d)) n m j → SomeChain i j
  factors d zero i m j (a, (k, t), p) l = first_factor i m j (signs k i a d m t (of_primary d a m p)) 0 (0, l)
  factors d (suc n) i m j (a, (k, t), p) (y, (x, s, h), rest) = go (which m x s) (factors d n x y j h rest)
    where
      go : X m x ⊎ B m x → SomeChain x j → SomeChain i j
      go (inl s) (d', (b, f, r)) = let z : SomeF a b = power d d' a m x b p s f in first_factor i b j (signs k i a z.0 b t z.1) d' r
      go (inr s) (d', (b, f, r)) = first_factor i m j (signs k i a d m t (of_primary d a m p)) d' (add (Item B (F d')) m b j (x, s, f) r)

  pub chain_factors : (d i j : ℕ) → T d i j → SomeChain i j
  chain_factors d i j (m, s, (n, t)) = factors d n i m j s t

  signed_open : (d i j : ℕ) → SPO d i j → SomeFO i j
  signed_open d i j (a, (k, t), inl o) = signs_open k i a d j t (inl (inl o))
  signed_open d i j (a, (k, t), inr o) = signs_open k i a d j t (inr (inl o))

  -- a factor, and then what opens a chain behind it
  first_open : (i m c j : ℕ) → SomeF i m → (d : ℕ) → Run (Item B (F d)) m c → OpenItem (OpOpen binary_operators) B (FO d) c j → SomeOpenChain i j
  first_open i m c j z d t o =
      (max z.0 d, inr (c, (m, f_up z.0 (max z.0 d) (omega arith) i m z.1, run_up d (max z.0 d) (omega arith) m c t), item_up d (max z.0 d) (omega arith) c j o))

  module _ (d i a k m : ℕ) (t : Spans G k i a) (p : P d a m) (j : ℕ) where
    -- signs, a primary, and then `**` or another operator, and what opens an expression
    by_star : (x : ℕ) → X m x → SomeOpenChain x j → SomeOpenChain i j
    by_star x s (d', inl o) = let z : SomeFO a j = power_open d d' a m x j p s o in let y : SomeFO i j = signs_open k i a z.0 j t z.1 in (y.0, inl y.1)
    by_star x s (d', inr (c, (b, f, r), o)) = let z : SomeF a b = power d d' a m x b p s f in first_open i b c j (signs k i a z.0 b t z.1) d' r o

    by_binary : (x : ℕ) → B m x → SomeOpenChain x j → SomeOpenChain i j
    by_binary x s (d', inl o) = first_open i m m j (signs k i a d m t (of_primary d a m p)) d' (nil (Item B (F d')) m) (inr (x, s, o))
    by_binary x s (d', inr (c, (b, f, r), o)) = first_open i m c j (signs k i a d m t (of_primary d a m p)) d' (add (Item B (F d')) m b c (x, s, f) r) o

    last : OpenItem (OpOpen all) A (SPO d) m j → SomeOpenChain i j
    last (inl o) = elim (which_open m j o) [
      | inl u ↦ let y : SomeFO i j = signs_open k i a d j t (inr (inr (p.0, m, p.1, inl u))) in (y.0, inl y.1)
      | inr u ↦ first_open i m m j (signs k i a d m t (of_primary d a m p)) 0 (nil (Item B (F 0)) m) (inl u)
    ]
    last (inr (x, s, o)) =
        let z : SomeFO x j = signed_open d x j o in
        elim (which m x s) [
          | inl u ↦ by_star x u (z.0, inl z.1)
          | inr u ↦ by_binary x u (z.0, inl z.1)
        ]

  factors_open : (d n i m c j : ℕ) → SP d i m → Spans (Item A (SP d)) n m c → OpenItem (OpOpen all) A (SPO d) c j → SomeOpenChain i j
  factors_open d zero i m c j (a, (k, t), p) l o = last d i a k m t p j (subst (λ u. OpenItem (OpOpen all) A (SPO d) u j) l o)
  factors_open d (suc n) i m c j (a, (k, t), p) (y, (x, s, h), rest) o = go (which m x s) (factors_open d n x y c j h rest o)
    where
      go : X m x ⊎ B m x → SomeOpenChain x j → SomeOpenChain i j
      go (inl s) z = by_star d i a k m t p j x s z
      go (inr s) z = by_binary d i a k m t p j x s z

  pub chain_factors_open : (d i j : ℕ) → TO d i j → SomeOpenChain i j
  chain_factors_open d i j (inl o) = let z : SomeFO i j = signed_open d i j o in (z.0, inl z.1)
  chain_factors_open d i j (inr (c, (m, s, (n, t)), o)) = factors_open d n i m c j s t o

  -- ---- the form of signs and a primary

  -- the signs behind the first, with nothing between
  abbrev More : Reading (Value nothing × PlacedTerminal)
  More = ReadsThen pair_of (λ i v j. (v ≡ tt) × (j ≡ i)) (ReadsOperator ts cap unary_operators e)

  abbrev one_more : List PlacedTerminal → Value nothing → PlacedTerminal → List PlacedTerminal
  one_more xs c x = xs ++ x ∷ []

  abbrev some_signs : Form (several token)
  some_signs = some {s = token} (operator unary_operators)

  sign_of : (i j : ℕ) → Some_of More i j → G i j
  sign_of i j (v, (x, y, m, (q, l), h, z)) = (y, subst (λ t. ReadsOperator ts cap unary_operators e t y j) l h)

  of_one_sign : (i j : ℕ) → G i j → Some_of More i j
  of_one_sign i j (y, h) = (pair_of tt y, (tt, y, i, (refl, refl), h, refl))

  signs_of : (d i m : ℕ) (v : List PlacedTerminal) → Reads ts cap d some_signs e i v m → Run G i m
  signs_of d i m v (s, k, n, g, t) = (suc n, (k, (s, g), map_spans (Some_of More) G sign_of n k m (to_spans (stepped one_more) More n (s ∷ []) k v m t)))

  of_signs : (d n i m : ℕ) → Spans G (suc n) i m → Some_of (Reads ts cap d some_signs e) i m
  of_signs d n i m (k, (s, g), t) =
      let z = of_spans (stepped one_more) More n (s ∷ []) k m (map_spans G (Some_of More) of_one_sign n k m t) in
      (z.0, (s, k, n, g, z.1))

  pub signed_of : (d i j : ℕ) → Some_of (Reads ts cap d signed_primary e) i j → SP d i j
  signed_of d i j (v, (x, y, m, inl (z, h, q), p, q2)) = (m, signs_of d i m z h, (y, p))
  signed_of d i j (v, (x, y, m, inr (q, l), p, q2)) = (m, (0, l), (y, p))

  of_signed_by : (d n i m j : ℕ) → Spans G n i m → P d m j → Some_of (Reads ts cap d signed_primary e) i j
  of_signed_by d zero i m j l (y, p) = (y, (None, y, m, inr (refl, l), p, refl))
  of_signed_by d (suc n) i m j t (y, p) = let z : Some_of (Reads ts cap d some_signs e) i m = of_signs d n i m t in (y, (Some z.0, y, m, inl (z.0, z.1, refl), p, refl))

  pub of_signed : (d i j : ℕ) → SP d i j → Some_of (Reads ts cap d signed_primary e) i j
  of_signed d i j (m, (n, t), p) = of_signed_by d n i m j t p

  pub signed_open_of : (d i j : ℕ) → Opens ts cap d signed_primary e i j → SPO d i j
  signed_open_of d i j (inl (inl o)) = (i, nil G i, inl o)
  signed_open_of d i j (inl (inr (v, m, h, inl l))) = (m, signs_of d i m v h, inl (inl l))
  signed_open_of d i j (inl (inr (v, m, h, inr (x, b, (q, l), o)))) = (m, signs_of d i m v h, inl (subst (λ t. OpOpen unary_operators t j) l o))
  signed_open_of d i j (inr (x, m, inl (z, h, q), o)) = (m, signs_of d i m z h, inr o)
  signed_open_of d i j (inr (x, m, inr (q, l), o)) = (m, (0, l), inr o)

  of_signed_open_by : (d n i m j : ℕ) → Spans G n i m → OpOpen unary_operators m j ⊎ PO d m j → Opens ts cap d signed_primary e i j
  of_signed_open_by d zero i m j l (inl o) = inl (inl (subst (λ t. OpOpen unary_operators t j) l o))
  of_signed_open_by d zero i m j l (inr o) = inr (None, m, inr (refl, l), o)
  of_signed_open_by d (suc n) i m j t (inl o) = let z : Some_of (Reads ts cap d some_signs e) i m = of_signs d n i m t in inl (inr (z.0, m, z.1, inr (tt, m, (refl, refl), o)))
  of_signed_open_by d (suc n) i m j t (inr o) = let z : Some_of (Reads ts cap d some_signs e) i m = of_signs d n i m t in inr (Some z.0, m, inl (z.0, z.1, refl), o)

  pub of_signed_open : (d i j : ℕ) → SPO d i j → Opens ts cap d signed_primary e i j
  of_signed_open d i j (m, (n, t), o) = of_signed_open_by d n i m j t o

  -- ---- the forms

  abbrev reads : ℕ → (n : Name) → Option ℕ → Reading (Value (sort n))
  reads d = ReadsTo ts cap d

  abbrev opens : ℕ → (n : Name) → Option ℕ → Opening
  opens d = OpensTo ts cap d

  abbrev Level : ℕ → List ℕ → Form expr → Span
  Level d ws f = Some_of (Reads ts cap d (level ws f) e)

  pub in_turn : (d i j : ℕ) → Level d binary_operators factor i j → Level d all signed_primary i j
  in_turn d i j h =
      flat.of_chain ts cap (reads d) (opens d) e all signed_primary i j
      (map_chain (SP d) (Some_of (Reads ts cap d signed_primary e)) A (of_signed d) i j (chain_turns d i j (flat.chain_of ts cap (reads d) (opens d) e binary_operators factor i j h)))

  pub by_factors : (d i j : ℕ) → Level d all signed_primary i j → (d' : ℕ) × Level d' binary_operators factor i j
  by_factors d i j h =
      let z : SomeChain i j = chain_factors d i j (map_chain (Some_of (Reads ts cap d signed_primary e)) (SP d) A (signed_of d) i j (flat.chain_of ts cap (reads d) (opens d) e all signed_primary i j h)) in
      (z.0, flat.of_chain ts cap (reads z.0) (opens z.0) e binary_operators factor i j z.1)

  pub in_turn_open : (d i j : ℕ) → Opens ts cap d (level binary_operators factor) e i j → Opens ts cap d (level all signed_primary) e i j
  in_turn_open d i j h =
      flat.of_open_chain ts cap (reads d) (opens d) e all signed_primary i j
      (map_open_chain (SP d) (Some_of (Reads ts cap d signed_primary e)) A (SPO d) (Opens ts cap d signed_primary e) (OpOpen all) (of_signed d) (of_signed_open d) i j
      (chain_turns_open d i j (flat.open_chain_of ts cap (reads d) (opens d) e binary_operators factor i j h)))

  pub by_factors_open : (d i j : ℕ) → Opens ts cap d (level all signed_primary) e i j → (d' : ℕ) × Opens ts cap d' (level binary_operators factor) e i j
  by_factors_open d i j h =
      let z : SomeOpenChain i j =
      chain_factors_open d i j
      (map_open_chain (Some_of (Reads ts cap d signed_primary e)) (SP d) A (Opens ts cap d signed_primary e) (SPO d) (OpOpen all) (signed_of d) (signed_open_of d) i j
      (flat.open_chain_of ts cap (reads d) (opens d) e all signed_primary i j h)) in
      (z.0, flat.of_open_chain ts cap (reads z.0) (opens z.0) e binary_operators factor i j z.1)
