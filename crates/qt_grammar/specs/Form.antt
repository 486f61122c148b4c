-- The notation of the grammar in the appendix of the OpenQASM 3.0 live specification, as data: how a form is built from its
-- parts, which tokens spell it with which tree, and which tokens open it. Tokens are told by their places in a stream, so that
-- 'the tokens from i up to j spell this tree' is said of two numbers.
use Rattle.std.specs.Prelude.{◌≡◌, ℕ, zero, suc, ◌+◌, ◌⊎◌, Bool, true, false, ◌||◌, eqb, ltb, IsTrue, List, [], ◌∷◌, Option, Some, None}
use Rattle.qt_terminals.specs.Alphabet.{code}
use Rattle.qt_terminals.specs.Terminals.{PlacedTerminal}
use Rattle.qt_grammar.specs.Sorts.{Sort, Value, Name, sort, place, token, optional}

-- a form of the grammar; words are told by their numbers
pub data Form : Sort → Type 0 where
  -- one token with one of these words
  one : List ℕ → Form token
  -- one token with one of these words, which is an operator and is counted in the outermost expression round it
  operator : List ℕ → Form token
  -- an expression: operators are counted from here on, unless it stands in another expression
  counted : {s : Sort} → Form s → Form s
  -- no token: the place of the next
  here : Form place
  -- no token
  empty : {s : Sort} → Value s → Form s
  -- a form, and another tree made of its tree
  as_tree : {s t : Sort} → (Value s → Value t) → Form s → Form t
  -- a form and then another
  then_ : {s t u : Sort} → (Value s → Value t → Value u) → Form s → Form t → Form u
  -- one of two
  either : {s : Sort} → Form s → Form s → Form s
  -- a form, or nothing
  maybe : {s : Sort} → Form s → Form (optional s)
  -- a form, or nothing where the next token has none of these words
  nearest : {s : Sort} → List ℕ → Form s → Form (optional s)
  -- operands with separators between, grouped to the left
  chain : {s t u : Sort} → (Value s → Value u) → (Value u → Value t → Value s → Value u) → Form s → Form t → Form u
  -- a form by its name, one level deeper
  named : (n : Name) → Form (sort n)

abbrev pub member : ℕ → List ℕ → Bool
member n [] = false
member n (m ∷ ms) = eqb n m || member n ms

-- the tokens from one place up to another spell a tree; they open a form
abbrev pub Reading : Type 0 → Type 1
Reading A = ℕ → A → ℕ → Type 0

abbrev pub Opening : Type 1
Opening = ℕ → ℕ → Type 0

abbrev pub pair_of : {A B : Type 0} → B → A → B × A
pair_of b a = (b, a)

abbrev pub stepped : {A B C : Type 0} → (C → B → A → C) → C → B × A → C
stepped step c y = step c y.0 y.1

-- ---- a form, by what its parts read and open

abbrev pub ReadsThen : {A B C : Type 0} → (A → B → C) → Reading A → Reading B → Reading C
ReadsThen {A} {B} k p q i v j = (x : A) × (y : B) × (m : ℕ) × p i x m × q m y j × (v ≡ k x y)

-- a form so many times, each added to what was read so far
abbrev pub ReadsMore : {B C : Type 0} → (C → B → C) → Reading B → ℕ → C → Reading C
ReadsMore step q zero so_far i v j = (v ≡ so_far) × (j ≡ i)
ReadsMore {B} step q (suc n) so_far i v j = (y : B) × (m : ℕ) × q i y m × ReadsMore step q n (step so_far y) m v j

-- first an operand, then so many times a separator and an operand
abbrev pub ReadsChain : {A B C : Type 0} → (A → C) → (C → B → A → C) → Reading A → Reading B → Reading C
ReadsChain {A} first step p q i v j = (x : A) × (m n : ℕ) × p i x m × ReadsMore (stepped step) (ReadsThen pair_of q p) n (first x) m v j

-- first parts, and then tokens that open the next part
abbrev pub OpensThen : {A : Type 0} → Reading A → Opening → Opening → Opening
OpensThen {A} r p q i j = p i j ⊎ ((x : A) × (m : ℕ) × r i x m × q m j)

abbrev pub OpensChain : {A B C : Type 0} → (A → C) → (C → B → A → C) → Reading A → Reading B → Opening → Opening → Opening
OpensChain {A} {B} {C} first step r s p q i j = p i j ⊎ ((v : C) × (m : ℕ) × ReadsChain first step r s i v m × OpensThen s q p m j)

-- ---- the count of operators

-- the number of operators before the outermost expression: the one round this place, or else the one that begins here
abbrev pub since : Option ℕ → ℕ → Option ℕ
since None n = Some n
since (Some c) n = Some c

-- may one operator more stand here, where so many stand before it in the stream? Outside of expressions none is counted.
abbrev pub within : ℕ → Option ℕ → ℕ → Bool
within cap None n = true
within cap (Some c) n = ltb n (c + cap)

-- `ts i` is the token at place i
module _ (ts : ℕ → PlacedTerminal) where
  abbrev pub terminal_at : ℕ → ℕ
  terminal_at i = code ((ts i).terminal)

  -- the number of operators before the outermost expression, for one that begins at this place
  abbrev pub begun : Option ℕ → ℕ → Option ℕ
  begun outer i = since outer ((ts i).operators)

  abbrev pub ReadsOne : List ℕ → Reading PlacedTerminal
  ReadsOne ws i v j = IsTrue (member (terminal_at i) ws) × (v ≡ ts i) × (j ≡ i + 1)

  abbrev pub OpensOne : List ℕ → Opening
  OpensOne ws i j = (j ≡ i) ⊎ ((j ≡ i + 1) × IsTrue (member (terminal_at i) ws))

  -- at most `cap` operators in one expression that stands in no other; `outer` is the number of operators before it
  module _ (cap : ℕ) where
    abbrev pub ReadsOperator : List ℕ → Option ℕ → Reading PlacedTerminal
    ReadsOperator ws outer i v j = IsTrue (member (terminal_at i) ws) × IsTrue (within cap outer ((ts i).operators)) × (v ≡ ts i) × (j ≡ i + 1)

    abbrev pub OpensOperator : List ℕ → Option ℕ → Opening
    OpensOperator ws outer i j = (j ≡ i) ⊎ ((j ≡ i + 1) × IsTrue (member (terminal_at i) ws) × IsTrue (within cap outer ((ts i).operators)))

    -- what a form reads and opens, where that is known of each name
    module _ (named_reads : (n : Name) → Option ℕ → Reading (Value (sort n))) where
      abbrev pub ReadsBy : {s : Sort} → Form s → Option ℕ → Reading (Value s)
      ReadsBy (one ws) outer = ReadsOne ws
      ReadsBy (operator ws) outer = ReadsOperator ws outer
      ReadsBy (counted f) outer = λ i v j. ReadsBy f (begun outer i) i v j
      ReadsBy here outer = λ i v j. (v ≡ (ts i).place) × (j ≡ i)
      ReadsBy (empty x) outer = λ i v j. (v ≡ x) × (j ≡ i)
      ReadsBy (as_tree {s} k f) outer = λ i v j. (x : Value s) × ReadsBy f outer i x j × (v ≡ k x)
      ReadsBy (then_ k f g) outer = ReadsThen k (ReadsBy f outer) (ReadsBy g outer)
      ReadsBy (either f g) outer = λ i v j. ReadsBy f outer i v j ⊎ ReadsBy g outer i v j
      ReadsBy (maybe {s} f) outer = λ i v j. ((x : Value s) × ReadsBy f outer i x j × (v ≡ Some x)) ⊎ ((v ≡ None) × (j ≡ i))
      ReadsBy (nearest {s} ws f) outer = λ i v j. ((x : Value s) × ReadsBy f outer i x j × (v ≡ Some x)) ⊎ ((v ≡ None) × (j ≡ i) × (member (terminal_at i) ws ≡ false))
      ReadsBy (chain first step f g) outer = ReadsChain first step (ReadsBy f outer) (ReadsBy g outer)
      ReadsBy (named n) outer = named_reads n outer

    module _ (named_reads : (n : Name) → Option ℕ → Reading (Value (sort n))) (named_opens : (n : Name) → Option ℕ → Opening) where
      abbrev pub OpensBy : {s : Sort} → Form s → Option ℕ → Opening
      OpensBy (one ws) outer = OpensOne ws
      OpensBy (operator ws) outer = OpensOperator ws outer
      OpensBy (counted f) outer = λ i j. OpensBy f (begun outer i) i j
      OpensBy here outer = λ i j. j ≡ i
      OpensBy (empty x) outer = λ i j. j ≡ i
      OpensBy (as_tree k f) outer = OpensBy f outer
      OpensBy (then_ k f g) outer = OpensThen (ReadsBy named_reads f outer) (OpensBy f outer) (OpensBy g outer)
      OpensBy (either f g) outer = λ i j. OpensBy f outer i j ⊎ OpensBy g outer i j
      OpensBy (maybe f) outer = OpensBy f outer
      OpensBy (nearest ws f) outer = OpensBy f outer
      OpensBy (chain first step f g) outer = OpensChain first step (ReadsBy named_reads f outer) (ReadsBy named_reads g outer) (OpensBy f outer) (OpensBy g outer)
      OpensBy (named n) outer = named_opens n outer
