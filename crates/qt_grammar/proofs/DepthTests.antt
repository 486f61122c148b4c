-- The test that each form with a name stands in one bracket, or is an operand or a body without braces, by going through the
-- forms in the order of their tokens.
use Rattle.std.proofs.Common.{◌≡◌, ℕ, suc, ◌+◌, ◌-◌, ◌≤◌, inl, inr, Bool, true, false, ◌&&◌, ◌||◌, not, cond, eqb, List, refl, subst, arith}
use Rattle.qt_terminals.specs.Terminals.{PlacedTerminal}
use Rattle.qt_grammar.specs.Sorts.{Sort, Name, any, unary, block, single, an_index, a_range, a_set, an_entry, in_sizeof, in_array, parameters, gate_block}
use Rattle.qt_grammar.specs.Form.{Form, one, operator, counted, here, empty, as_tree, then_, either, maybe, nearest, chain, named, member, terminal_at}
use Rattle.qt_grammar.specs.Language.{rule, whole, expression}
use Rattle.qt_grammar.specs.Depth.{opening, closing, open_behind, open_before, brackets_round, is_operator, is_single}
use Rattle.qt_grammar.proofs.LookaheadTests.{In, apart, subset, or_cases, apart_sound, subset_sound}

-- where the next token stands: in no bracket of the form; in a bracket of it, in which no form with a name has been read, or has;
-- behind an operator, at the operand
pub data State : Type 0 where
  outside : State
  inside : State
  deep : State
  operand : State

-- how many constructs of the form are open there, how many brackets of it, and how many levels are known to be left for its names
abbrev pub constructs_in : State → ℕ
constructs_in outside = 0
constructs_in inside = 1
constructs_in deep = 1
constructs_in operand = 1

abbrev pub brackets_in : State → ℕ
brackets_in outside = 0
brackets_in inside = 1
brackets_in deep = 1
brackets_in operand = 0

abbrev pub known_in : State → ℕ
known_in outside = 0
known_in inside = 0
known_in deep = 1
known_in operand = 0

abbrev pub is_outside : State → Bool
is_outside outside = true
is_outside inside = false
is_outside deep = false
is_outside operand = false

abbrev pub is_operand : State → Bool
is_operand outside = false
is_operand inside = false
is_operand deep = false
is_operand operand = true

abbrev pub same_side : State → State → Bool
same_side s t = eqb (constructs_in s) (constructs_in t)

abbrev pub plain : List ℕ → Bool
plain ws = apart ws opening && apart ws closing

abbrev pub opened : Bool → State
opened true = deep
opened false = inside

-- ---- what is tested, and the state behind a form; `solid` says that one level is known to be left from the start

abbrev pub one_fits : State → List ℕ → Bool
one_fits outside ws = plain ws || subset ws opening
one_fits inside ws = subset ws closing
one_fits deep ws = plain ws || subset ws closing
one_fits operand ws = false

abbrev pub one_after : Bool → State → List ℕ → State
one_after solid outside ws = cond (plain ws) outside (opened solid)
one_after solid inside ws = outside
one_after solid deep ws = cond (plain ws) deep outside
one_after solid operand ws = operand

abbrev pub operator_fits : State → List ℕ → Bool
operator_fits outside ws = plain ws
operator_fits inside ws = false
operator_fits deep ws = plain ws
operator_fits operand ws = false

abbrev pub named_fits : State → Bool → Bool
named_fits outside alone = alone
named_fits inside alone = not alone
named_fits deep alone = not alone
named_fits operand alone = not alone

abbrev pub named_after : State → State
named_after outside = outside
named_after inside = deep
named_after deep = deep
named_after operand = operand

-- behind an operator stands its operand, and behind the operand all is as before
abbrev pub next : Bool → State → State
next true s = operand
next false s = s

abbrev pub resume : Bool → State → State → State
resume true s t = s
resume false s t = t

abbrev pub joins : Bool → State → State → Bool
joins true s t = is_outside s && is_operand t
joins false s t = true

abbrev pub after : Bool → State → {s : Sort} → Form s → State
after solid p (one ws) = one_after solid p ws
after solid p (operator ws) = p
after solid p (counted f) = after solid p f
after solid p here = p
after solid p (empty x) = p
after solid p (as_tree a f) = after solid p f
after solid p (then_ a f g) = resume (is_operator f) (after solid p f) (after solid (next (is_operator f) (after solid p f)) g)
after solid p (either f g) = outside
after solid p (maybe f) = p
after solid p (nearest ws f) = p
after solid p (chain a b f g) = after solid p f
after solid p (named n) = named_after p

abbrev pub fits : Bool → State → {s : Sort} → Form s → Bool
fits solid p (one ws) = one_fits p ws
fits solid p (operator ws) = operator_fits p ws
fits solid p (counted f) = fits solid p f
fits solid p here = true
fits solid p (empty x) = true
fits solid p (as_tree a f) = fits solid p f
fits solid p (then_ a f g) =
    (not (is_operand p) && fits solid p f)
    && (fits solid (next (is_operator f) (after solid p f)) g && joins (is_operator f) (after solid p f) (after solid (next (is_operator f) (after solid p f)) g))
fits solid p (either f g) = is_outside p && ((fits solid outside f && is_outside (after solid outside f)) && (fits solid outside g && is_outside (after solid outside g)))
fits solid p (maybe f) = not (is_operand p) && (fits solid p f && same_side p (after solid p f))
fits solid p (nearest ws f) = not (is_operand p) && (fits solid p f && same_side p (after solid p f))
fits solid p (chain a b f g) =
    (not (is_operand p) && (fits solid p f && same_side p (after solid p f)))
    && ((not (is_operand (after solid p f)) && (fits solid (after solid p f) g && same_side (after solid p f) (after solid (after solid p f) g)))
    && (fits solid (after solid p f) f && same_side (after solid p f) (after solid (after solid p f) f)))
fits solid p (named n) = named_fits p (is_single n)

-- ---- the grammar passes

pub fits_rule : (n : Name) → fits false outside (rule n) ≡ true
fits_rule any = refl
fits_rule unary = refl
fits_rule block = refl
fits_rule single = refl
fits_rule an_index = refl
fits_rule a_range = refl
fits_rule a_set = refl
fits_rule an_entry = refl
fits_rule in_sizeof = refl
fits_rule in_array = refl
fits_rule parameters = refl
fits_rule gate_block = refl

pub outside_rule : (n : Name) → after false outside (rule n) ≡ outside
outside_rule any = refl
outside_rule unary = refl
outside_rule block = refl
outside_rule single = refl
outside_rule an_index = refl
outside_rule a_range = refl
outside_rule a_set = refl
outside_rule an_entry = refl
outside_rule in_sizeof = refl
outside_rule in_array = refl
outside_rule parameters = refl
outside_rule gate_block = refl

pub fits_expression : fits false outside expression ≡ true
fits_expression = refl

-- the names of a gate's angles stand in parentheses, and in no form with a name: so one level has to be left
pub fits_whole : fits true outside whole ≡ true
fits_whole = refl

-- ---- what the tests say

pub both : (a b : Bool) → (a && b) ≡ true → (a ≡ true) × (b ≡ true)
both true b h = (refl, h)
both false b h = absurd (cc h)

pub outside_is : (p : State) → is_outside p ≡ true → p ≡ outside
outside_is outside h = refl
outside_is inside h = absurd (cc h)
outside_is deep h = absurd (cc h)
outside_is operand h = absurd (cc h)

pub operand_is : (p : State) → is_operand p ≡ true → constructs_in p ≡ 1
operand_is outside h = absurd (cc h)
operand_is inside h = absurd (cc h)
operand_is deep h = absurd (cc h)
operand_is operand h = refl

pub few_brackets : (p : State) → brackets_in p ≤ constructs_in p
few_brackets outside = omega arith
few_brackets inside = omega arith
few_brackets deep = omega arith
few_brackets operand = omega arith

pub all_brackets : (p : State) → not (is_operand p) ≡ true → brackets_in p ≡ constructs_in p
all_brackets outside h = refl
all_brackets inside h = refl
all_brackets deep h = refl
all_brackets operand h = absurd (cc h)

-- the parts of the tests
pub then_fits : (solid : Bool) (p : State) {s t : Sort} (f : Form s) (g : Form t)
    → ((not (is_operand p) && fits solid p f) && (fits solid (next (is_operator f) (after solid p f)) g && joins (is_operator f) (after solid p f) (after solid (next (is_operator f) (after solid p f)) g))) ≡ true
    → (not (is_operand p) ≡ true) × (fits solid p f ≡ true) × (fits solid (next (is_operator f) (after solid p f)) g ≡ true) × (joins (is_operator f) (after solid p f) (after solid (next (is_operator f) (after solid p f)) g) ≡ true)
then_fits solid p f g h =
    let u = both (not (is_operand p) && fits solid p f) (fits solid (next (is_operator f) (after solid p f)) g && joins (is_operator f) (after solid p f) (after solid (next (is_operator f) (after solid p f)) g)) h in
    let a = both (not (is_operand p)) (fits solid p f) u.0 in
    let b = both (fits solid (next (is_operator f) (after solid p f)) g) (joins (is_operator f) (after solid p f) (after solid (next (is_operator f) (after solid p f)) g)) u.1 in
    (a.0, a.1, b.0, b.1)

pub either_fits : (solid : Bool) (p : State) {s : Sort} (f g : Form s) → (is_outside p && ((fits solid outside f && is_outside (after solid outside f)) && (fits solid outside g && is_outside (after solid outside g)))) ≡ true
    → (is_outside p ≡ true) × (fits solid outside f ≡ true) × (is_outside (after solid outside f) ≡ true) × (fits solid outside g ≡ true) × (is_outside (after solid outside g) ≡ true)
either_fits solid p f g h =
    let u = both (is_outside p) ((fits solid outside f && is_outside (after solid outside f)) && (fits solid outside g && is_outside (after solid outside g))) h in
    let v = both (fits solid outside f && is_outside (after solid outside f)) (fits solid outside g && is_outside (after solid outside g)) u.1 in
    let a = both (fits solid outside f) (is_outside (after solid outside f)) v.0 in
    let b = both (fits solid outside g) (is_outside (after solid outside g)) v.1 in
    (u.0, a.0, a.1, b.0, b.1)

pub optional_fits : (solid : Bool) (p : State) {s : Sort} (f : Form s) → (not (is_operand p) && (fits solid p f && same_side p (after solid p f))) ≡ true
    → (not (is_operand p) ≡ true) × (fits solid p f ≡ true) × (same_side p (after solid p f) ≡ true)
optional_fits solid p f h =
    let u = both (not (is_operand p)) (fits solid p f && same_side p (after solid p f)) h in
    let a = both (fits solid p f) (same_side p (after solid p f)) u.1 in
    (u.0, a.0, a.1)

pub chain_fits : (solid : Bool) (p : State) {s t : Sort} (f : Form s) (g : Form t)
    → ((not (is_operand p) && (fits solid p f && same_side p (after solid p f)))
    && ((not (is_operand (after solid p f)) && (fits solid (after solid p f) g && same_side (after solid p f) (after solid (after solid p f) g)))
    && (fits solid (after solid p f) f && same_side (after solid p f) (after solid (after solid p f) f)))) ≡ true
    → (not (is_operand p) ≡ true) × (fits solid p f ≡ true) × (same_side p (after solid p f) ≡ true) × (fits solid (after solid p f) g ≡ true) × (same_side (after solid p f) (after solid (after solid p f) g) ≡ true)
    × (fits solid (after solid p f) f ≡ true) × (same_side (after solid p f) (after solid (after solid p f) f) ≡ true)
chain_fits solid p f g h =
    let q : State = after solid p f in
    let u = both (not (is_operand p) && (fits solid p f && same_side p q)) ((not (is_operand q) && (fits solid q g && same_side q (after solid q g))) && (fits solid q f && same_side q (after solid q f))) h in
    let v = both (not (is_operand q) && (fits solid q g && same_side q (after solid q g))) (fits solid q f && same_side q (after solid q f)) u.1 in
    let a = optional_fits solid p f u.0 in
    let b = optional_fits solid q g v.0 in
    let c = both (fits solid q f) (same_side q (after solid q f)) v.1 in
    (a.0, a.1, a.2, b.1, b.2, c.0, c.1)

-- ---- what a token does to the brackets

pub opens_one : (ws : List ℕ) (word n : ℕ) → subset ws opening ≡ true → In ws word → open_behind word n ≡ n + 1
opens_one ws word n s w = let o : member word opening ≡ true = subset_sound ws opening s word w in rw o refl

pub not_member : (xs ys : List ℕ) (word : ℕ) → apart xs ys ≡ true → In xs word → member word ys ≡ false
not_member xs ys word a w = at_test (member word ys) refl
  where
    at_test : (b : Bool) → member word ys ≡ b → b ≡ false
    at_test true e = absurd (apart_sound xs ys a word w e)
    at_test false e = refl

pub closes_one : (ws : List ℕ) (word n : ℕ) → subset ws closing ≡ true → In ws word → open_behind word n ≡ n - 1
closes_one ws word n s w =
    let c : member word closing ≡ true = subset_sound ws closing s word w in
    let o : member word opening ≡ false = not_member closing opening word refl c in rw (o, c) refl

pub plain_one : (ws : List ℕ) (word n : ℕ) → plain ws ≡ true → In ws word → open_behind word n ≡ n
plain_one ws word n s w =
    let t = both (apart ws opening) (apart ws closing) s in
    let o : member word opening ≡ false = not_member ws opening word t.0 w in
    let c : member word closing ≡ false = not_member ws closing word t.1 w in rw (o, c) refl

module _ (ts : ℕ → PlacedTerminal) where
  pub open_next : (i j : ℕ) → j ≡ i + 1 → open_before ts j ≡ open_behind (terminal_at ts i) (open_before ts i)
  open_next i j e =
      let q : suc i ≡ j = omega (arith, e) in
      subst (λ t. open_before ts t ≡ open_behind (terminal_at ts i) (open_before ts i)) q refl

  pub round_at_most : (i : ℕ) → brackets_round ts i ≤ open_before ts i
  round_at_most i = at_test (member (terminal_at ts i) closing)
    where
      at_test : (b : Bool) → cond b (open_before ts i - 1) (open_before ts i) ≤ open_before ts i
      at_test true = omega arith
      at_test false = omega arith

  pub round_closing : (ws : List ℕ) (i : ℕ) → subset ws closing ≡ true → In ws (terminal_at ts i) → brackets_round ts i ≡ open_before ts i - 1
  round_closing ws i s w = let c : member (terminal_at ts i) closing ≡ true = subset_sound ws closing s (terminal_at ts i) w in rw c refl

  pub one_moves : (solid : Bool) (p : State) (ws : List ℕ) (i j : ℕ) → one_fits p ws ≡ true → In ws (terminal_at ts i) → j ≡ i + 1 → brackets_in p ≤ open_before ts i
      → open_before ts j + constructs_in p ≡ open_before ts i + constructs_in (one_after solid p ws)
  one_moves solid outside ws i j h w e le = at_test (plain ws) refl
    where
      one_more : (b : Bool) → constructs_in (opened b) ≡ 1
      one_more true = refl
      one_more false = refl

      at_test : (b : Bool) → plain ws ≡ b → open_before ts j + 0 ≡ open_before ts i + constructs_in (cond b outside (opened solid))
      at_test true z = let a : open_behind (terminal_at ts i) (open_before ts i) ≡ open_before ts i = plain_one ws _ _ z w in omega (arith, a, open_next i j e)
      at_test false z =
          let s : subset ws opening ≡ true = elim (or_cases (plain ws) (subset ws opening) h) [ inl t ↦ absurd (cc (t, z)) | inr t ↦ t ] in
          let a : open_behind (terminal_at ts i) (open_before ts i) ≡ open_before ts i + 1 = opens_one ws _ _ s w in omega (arith, a, open_next i j e, one_more solid)
  one_moves solid inside ws i j h w e le = let a : open_behind (terminal_at ts i) (open_before ts i) ≡ open_before ts i - 1 = closes_one ws _ _ h w in omega (arith, a, open_next i j e, le)
  one_moves solid deep ws i j h w e le = at_test (plain ws) refl
    where
      at_test : (b : Bool) → plain ws ≡ b → open_before ts j + 1 ≡ open_before ts i + constructs_in (cond b deep outside)
      at_test true z = let a : open_behind (terminal_at ts i) (open_before ts i) ≡ open_before ts i = plain_one ws _ _ z w in omega (arith, a, open_next i j e)
      at_test false z =
          let s : subset ws closing ≡ true = elim (or_cases (plain ws) (subset ws closing) h) [ inl t ↦ absurd (cc (t, z)) | inr t ↦ t ] in
          let a : open_behind (terminal_at ts i) (open_before ts i) ≡ open_before ts i - 1 = closes_one ws _ _ s w in omega (arith, a, open_next i j e, le)
  one_moves solid operand ws i j h w e le = absurd (cc h)

  pub operator_moves : (p : State) (ws : List ℕ) (i j : ℕ) → operator_fits p ws ≡ true → In ws (terminal_at ts i) → j ≡ i + 1 → open_before ts j ≡ open_before ts i
  operator_moves outside ws i j h w e = let a : open_behind (terminal_at ts i) (open_before ts i) ≡ open_before ts i = plain_one ws _ _ h w in omega (arith, a, open_next i j e)
  operator_moves inside ws i j h w e = absurd (cc h)
  operator_moves deep ws i j h w e = let a : open_behind (terminal_at ts i) (open_before ts i) ≡ open_before ts i = plain_one ws _ _ h w in omega (arith, a, open_next i j e)
  operator_moves operand ws i j h w e = absurd (cc h)

  -- a token of the form itself isn't too deep: it stands in the form's brackets, of which there is one at most
  pub one_low : (p : State) (ws : List ℕ) (i base round l : ℕ) → one_fits p ws ≡ true → In ws (terminal_at ts i) → open_before ts i + round ≡ base + constructs_in p → brackets_in p ≤ open_before ts i → known_in p ≤ l
      → round + brackets_round ts i ≤ base + l
  one_low outside ws i base round l h w q b k = omega (arith, round_at_most i, q)
  one_low inside ws i base round l h w q b k = omega (arith, round_closing ws i h w, q, b)
  one_low deep ws i base round l h w q b k = omega (arith, round_at_most i, q, k)
  one_low operand ws i base round l h w q b k = absurd (cc h)

  pub operator_low : (p : State) (ws : List ℕ) (i base round l : ℕ) → operator_fits p ws ≡ true → open_before ts i + round ≡ base + constructs_in p → known_in p ≤ l → round + brackets_round ts i ≤ base + l
  operator_low outside ws i base round l h q k = omega (arith, round_at_most i, q)
  operator_low inside ws i base round l h q k = absurd (cc h)
  operator_low deep ws i base round l h q k = omega (arith, round_at_most i, q, k)
  operator_low operand ws i base round l h q k = absurd (cc h)
