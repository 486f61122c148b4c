-- How deep a token stands: in how many parentheses, square brackets, braces, bodies, operands of unary operators and right sides
-- of `**`. Brackets are counted over the tokens alone. A body without braces, an operand and a right side of `**` have no bracket,
-- and are counted where the tree has them. The limits play no part in it.
use Rattle.std.specs.Prelude.{◌≡◌, ℕ, zero, suc, ◌+◌, ◌-◌, ◌≤◌, ◌<◌, ◌⊎◌, Bool, true, false, if◌then◌else◌, List, [], ◌∷◌, Option}
use Rattle.std.proofs.Common.{inl, inr}
use Rattle.qt_terminals.specs.declared.terminal.Terminal.TheVariants as w
use Rattle.qt_terminals.specs.Alphabet.{code}
use Rattle.qt_terminals.specs.Terminals.{PlacedTerminal}
use Rattle.qt_grammar.specs.Sorts.{Sort, Value, Name, any, unary, block, single, an_index, a_range, a_set, an_entry, in_sizeof, in_array, parameters, gate_block, sort}
use Rattle.qt_grammar.specs.Form.{Form, one, operator, counted, here, empty, as_tree, then_, either, maybe, nearest, chain, named, member, terminal_at, begun, Reading, Opening, ReadsThen, ReadsMore, ReadsBy, OpensBy, pair_of, stepped}
use Rattle.qt_grammar.specs.Language.{rule}
use Rattle.qt_grammar.specs.Spelling.{Limits, ReadsTo, OpensTo, Spells, Opens}

-- ---- brackets, by the tokens alone

-- parentheses, square brackets and braces
abbrev pub opening : List ℕ
opening = code w.LeftParen ∷ code w.LeftBracket ∷ code w.LeftBrace ∷ []

abbrev pub closing : List ℕ
closing = code w.RightParen ∷ code w.RightBracket ∷ code w.RightBrace ∷ []

-- how many brackets are open behind a token with this word, where n are open before it
abbrev pub open_behind : ℕ → ℕ → ℕ
open_behind word n = if member word opening then n + 1 else if member word closing then n - 1 else n

module _ (ts : ℕ → PlacedTerminal) where
  -- how many brackets are open before the token at a place
  abbrev pub open_before : ℕ → ℕ
  open_before zero = 0
  open_before (suc i) = open_behind (terminal_at ts i) (open_before i)

  -- how many brackets that token stands in; what closes a bracket doesn't stand in it
  abbrev pub brackets_round : ℕ → ℕ
  brackets_round i = if member (terminal_at ts i) closing then open_before i - 1 else open_before i

-- ---- bodies without braces and operands, by the tree

-- so many and one more, where there is one more
abbrev pub and_one_if : Bool → ℕ → ℕ
and_one_if true n = n + 1
and_one_if false n = n

-- Behind an operator that stands right before a form there stands its operand. An operator between two operands stands in a
-- chain, and there it isn't asked.
abbrev pub is_operator : {s : Sort} → Form s → Bool
is_operator (one ws) = false
is_operator (operator ws) = true
is_operator (counted f) = false
is_operator here = false
is_operator (empty x) = false
is_operator (as_tree k f) = false
is_operator (then_ k f g) = false
is_operator (either f g) = false
is_operator (maybe f) = false
is_operator (nearest ws f) = false
is_operator (chain a b f g) = false
is_operator (named n) = false

-- a body without braces
abbrev pub is_single : Name → Bool
is_single any = false
is_single unary = false
is_single block = false
is_single single = true
is_single an_index = false
is_single a_range = false
is_single a_set = false
is_single an_entry = false
is_single in_sizeof = false
is_single in_array = false
is_single parameters = false
is_single gate_block = false

-- the token at one place stands so deep
abbrev pub Standing : Type 1
Standing = ℕ → ℕ → Type 0

-- each token from one place up to another stands at one depth, and no other token stands at any
pub record StandAtOneDepth (i j : ℕ) (stands : Standing) : Type 0 where
  pub each : (k : ℕ) → i ≤ k → k < j → (depth : ℕ) × stands k depth
  pub one_depth : (k depth other : ℕ) → stands k depth → stands k other → depth ≡ other
  pub no_other : (k depth : ℕ) → stands k depth → (i ≤ k) × (k < j)

-- in one of so many items
abbrev pub StandsInMore : {B C : Type 0} (step : C → B → C) (q : Reading B) → ((i : ℕ) (y : B) (j : ℕ) → q i y j → Standing)
    → (n : ℕ) (c : C) (i : ℕ) (v : C) (j : ℕ) → ReadsMore step q n c i v j → Standing
StandsInMore step q stands zero c i v j h k depth = ⊥
StandsInMore step q stands (suc n) c i v j (y, m, h, t) k depth = stands i y m h k depth ⊎ StandsInMore step q stands n (step c y) m v j t k depth

-- where tokens spell a form, with so many bodies without braces and operands round it, the token at place k stands so deep
module _ (ts : ℕ → PlacedTerminal) (cap : ℕ) where
  -- one token
  abbrev pub StandsAt : ℕ → ℕ → Standing
  StandsAt i round k depth = (k ≡ i) × (depth ≡ round + brackets_round ts i)

  module _ (named_reads : (n : Name) → Option ℕ → Reading (Value (sort n))) (named_stands : (n : Name) (outer : Option ℕ) (i : ℕ) (v : Value (sort n)) (j : ℕ) → named_reads n outer i v j → ℕ → Standing) where
    abbrev pub Stands : {s : Sort} (f : Form s) (outer : Option ℕ) (i : ℕ) (v : Value s) (j : ℕ) → ReadsBy ts cap named_reads f outer i v j → ℕ → Standing
    Stands (one ws) outer i v j h round k depth = StandsAt i round k depth
    Stands (operator ws) outer i v j h round k depth = StandsAt i round k depth
    Stands (counted f) outer i v j h round k depth = Stands f (begun ts outer i) i v j h round k depth
    Stands here outer i v j h round k depth = ⊥
    Stands (empty x) outer i v j h round k depth = ⊥
    Stands (as_tree a f) outer i v j (x, h, e) round k depth = Stands f outer i x j h round k depth
    Stands (then_ a f g) outer i v j (x, y, m, p, q, e) round k depth =
        Stands f outer i x m p round k depth ⊎ Stands g outer m y j q (and_one_if (is_operator f) round) k depth
    Stands (either f g) outer i v j (inl h) round k depth = Stands f outer i v j h round k depth
    Stands (either f g) outer i v j (inr h) round k depth = Stands g outer i v j h round k depth
    Stands (maybe f) outer i v j (inl (x, h, e)) round k depth = Stands f outer i x j h round k depth
    Stands (maybe f) outer i v j (inr h) round k depth = ⊥
    Stands (nearest ws f) outer i v j (inl (x, h, e)) round k depth = Stands f outer i x j h round k depth
    Stands (nearest ws f) outer i v j (inr h) round k depth = ⊥
    Stands (chain a b f g) outer i v j (x, m, n, p, t) round k depth =
        Stands f outer i x m p round k depth
        ⊎ StandsInMore (stepped b) (ReadsThen pair_of (ReadsBy ts cap named_reads g outer) (ReadsBy ts cap named_reads f outer))
        (λ i z j h k depth. Stands g outer i h.0 h.2 h.3 round k depth ⊎ Stands f outer h.2 h.1 j h.4 round k depth) n (a x) m v j t k depth
    Stands (named n) outer i v j h round k depth = named_stands n outer i v j h (and_one_if (is_single n) round) k depth

    -- the same where tokens open a form
    module _ (named_opens : (n : Name) → Option ℕ → Opening) (named_stands_open : (n : Name) (outer : Option ℕ) (i j : ℕ) → named_opens n outer i j → ℕ → Standing) where
      abbrev pub StandsOpen : {s : Sort} (f : Form s) (outer : Option ℕ) (i j : ℕ) → OpensBy ts cap named_reads named_opens f outer i j → ℕ → Standing
      StandsOpen (one ws) outer i j (inl e) round k depth = ⊥
      StandsOpen (one ws) outer i j (inr h) round k depth = StandsAt i round k depth
      StandsOpen (operator ws) outer i j (inl e) round k depth = ⊥
      StandsOpen (operator ws) outer i j (inr h) round k depth = StandsAt i round k depth
      StandsOpen (counted f) outer i j o round k depth = StandsOpen f (begun ts outer i) i j o round k depth
      StandsOpen here outer i j o round k depth = ⊥
      StandsOpen (empty x) outer i j o round k depth = ⊥
      StandsOpen (as_tree a f) outer i j o round k depth = StandsOpen f outer i j o round k depth
      StandsOpen (then_ a f g) outer i j (inl o) round k depth = StandsOpen f outer i j o round k depth
      StandsOpen (then_ a f g) outer i j (inr (x, m, p, o)) round k depth =
          Stands f outer i x m p round k depth ⊎ StandsOpen g outer m j o (and_one_if (is_operator f) round) k depth
      StandsOpen (either f g) outer i j (inl o) round k depth = StandsOpen f outer i j o round k depth
      StandsOpen (either f g) outer i j (inr o) round k depth = StandsOpen g outer i j o round k depth
      StandsOpen (maybe f) outer i j o round k depth = StandsOpen f outer i j o round k depth
      StandsOpen (nearest ws f) outer i j o round k depth = StandsOpen f outer i j o round k depth
      StandsOpen (chain a b f g) outer i j (inl o) round k depth = StandsOpen f outer i j o round k depth
      StandsOpen (chain a b f g) outer i j (inr (v, m, h, inl o)) round k depth =
          Stands (chain a b f g) outer i v m h round k depth ⊎ StandsOpen g outer m j o round k depth
      StandsOpen (chain a b f g) outer i j (inr (v, m, h, inr (x, l, p, o))) round k depth =
          Stands (chain a b f g) outer i v m h round k depth ⊎ (Stands g outer m x l p round k depth ⊎ StandsOpen f outer l j o round k depth)
      StandsOpen (named n) outer i j o round k depth = named_stands_open n outer i j o (and_one_if (is_single n) round) k depth

-- the same for a form with a name, however deep it leads
module _ (ts : ℕ → PlacedTerminal) (cap : ℕ) where
  abbrev pub StandsTo : (d : ℕ) (n : Name) (outer : Option ℕ) (i : ℕ) (v : Value (sort n)) (j : ℕ) → ReadsTo ts cap d n outer i v j → ℕ → Standing
  StandsTo zero n outer i v j h round k depth = ⊥
  StandsTo (suc d) n outer i v j h round k depth = Stands ts cap (ReadsTo ts cap d) (StandsTo d) (rule n) outer i v j h round k depth

  abbrev pub StandsOpenTo : (d : ℕ) (n : Name) (outer : Option ℕ) (i j : ℕ) → OpensTo ts cap d n outer i j → ℕ → Standing
  StandsOpenTo zero n outer i j o round k depth = ⊥
  StandsOpenTo (suc d) n outer i j o round k depth = StandsOpen ts cap (ReadsTo ts cap d) (StandsTo d) (OpensTo ts cap d) (StandsOpenTo d) (rule n) outer i j o round k depth

-- ---- how deep the tokens of a form stand

-- A form, read from a place on. Its tokens stand in the brackets that are open at that place, and in those and the bodies and
-- operands of the form itself.
module _ (ts : ℕ → PlacedTerminal) (s : Sort) (f : Form s) (outer : Option ℕ) (i : ℕ) where
  -- the tokens up to place j spell a tree, through as many levels as it takes; in it the token at place k stands so deep
  pub record Spelling (operators : ℕ) (v : Value s) (j : ℕ) : Type 0 where
    pub levels : ℕ
    pub spells : Spells ts s f outer i (record { levels = levels; operators = operators }) v j

  abbrev pub SpelledAt : (operators : ℕ) (v : Value s) (j : ℕ) → Spelling operators v j → Standing
  SpelledAt operators v j h = Stands ts operators (ReadsTo ts operators h.levels) (StandsTo ts operators h.levels) f outer i v j h.spells 0

  -- the same where they open the form
  pub record Beginning (operators j : ℕ) : Type 0 where
    pub levels : ℕ
    pub opens : Opens ts s f outer i (record { levels = levels; operators = operators }) j

  abbrev pub OpenedAt : (operators j : ℕ) → Beginning operators j → Standing
  OpenedAt operators j h = StandsOpen ts operators (ReadsTo ts operators h.levels) (StandsTo ts operators h.levels) (OpensTo ts operators h.levels) (StandsOpenTo ts operators h.levels) f outer i j h.opens 0

  -- each token stands at most so much deeper than the brackets that are open where the form begins
  abbrev pub NoDeeper : ℕ → Standing → Type 0
  NoDeeper most stands = (k depth : ℕ) → stands k depth → depth ≤ open_before ts i + most

  -- the tokens spell a tree, open the form, with none too deep and as many operators as may be
  abbrev pub SpellsNoDeeper : Limits → Value s → ℕ → Type 0
  SpellsNoDeeper l v j = (h : Spelling l.operators v j) × NoDeeper l.levels (SpelledAt l.operators v j h)

  abbrev pub OpensNoDeeper : Limits → ℕ → Type 0
  OpensNoDeeper l j = (h : Beginning l.operators j) × NoDeeper l.levels (OpenedAt l.operators j h)
