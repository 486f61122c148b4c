-- What the output values have of the leaves: shares of joined lists of leaves, and the sum of the shares.
use Rattle.std.proofs.Common.{◌≡◌, ℕ, ◌+◌, Bool, true, false, cond, List, [], ◌∷◌, ◌++◌, refl, sym, ap, ◌∙◌}
use Rattle.qt_root2.specs.Real.{Real, zero_real, plus_real}
use Rattle.qt_root2.proofs.Reals.{IsLeast, zero_real_is_least, plus_real_is_least, plus_real_comm, plus_real_assoc, plus_real-zero, zero_real-plus, least_is_least}
use Rattle.qt_ring.specs.State.{total_a, total_b}
use Rattle.qt_mass.specs.Mass.{mass}
use Rattle.qt_run.specs.Tree.{Point}
use Rattle.qt_run.specs.Distribution.{same_values, part, share}
use Rattle.qt_run.proofs.Values.{same_values_refl, same_values_eq}

pub mass_is_least : (p : Point) → IsLeast (mass p.state)
unfolding mass
mass_is_least p = least_is_least (p.state.halvings + p.state.halvings) (total_a p.state.entries) (total_b p.state.entries)

pub part_is_least : (b : Bool) (x : Real) → IsLeast x → IsLeast (part b x)
part_is_least true x h = h
part_is_least false x h = zero_real_is_least

pub share_is_least : (leaves : List Point) (output : List ℕ) → IsLeast (share leaves output)
share_is_least [] output = zero_real_is_least
share_is_least (leaf ∷ leaves) output = plus_real_is_least (part (same_values leaf.slots output) (mass leaf.state)) (share leaves output)

pub share-append : (xs ys : List Point) (output : List ℕ) → share (xs ++ ys) output ≡ plus_real (share xs output) (share ys output)
share-append [] ys output = sym (zero_real-plus (share ys output) (share_is_least ys output))
share-append (x ∷ xs) ys output =
    let first = part (same_values x.slots output) (mass x.state) in
    ap (plus_real first) (share-append xs ys output) ∙ sym (plus_real_assoc first (share xs output) (share ys output))

-- ---- the sum over a list of output values

-- of all leaves together
abbrev pub total : List Point → Real
total [] = zero_real
total (leaf ∷ leaves) = plus_real (mass leaf.state) (total leaves)

abbrev pub sum_over : (List ℕ → Real) → List (List ℕ) → Real
sum_over f [] = zero_real
sum_over f (output ∷ outputs) = plus_real (f output) (sum_over f outputs)

pub total_is_least : (leaves : List Point) → IsLeast (total leaves)
total_is_least [] = zero_real_is_least
total_is_least (leaf ∷ leaves) = plus_real_is_least (mass leaf.state) (total leaves)

sum_is_least : (f : List ℕ → Real) (outputs : List (List ℕ)) → IsLeast (sum_over f outputs)
sum_is_least f [] = zero_real_is_least
sum_is_least f (output ∷ outputs) = plus_real_is_least (f output) (sum_over f outputs)

-- the middle two of four numbers change places
swap : (a b c d : Real) → plus_real (plus_real a b) (plus_real c d) ≡ plus_real (plus_real a c) (plus_real b d)
swap a b c d =
    plus_real_assoc a b (plus_real c d)
    ∙ ap (plus_real a) (sym (plus_real_assoc b c d) ∙ ap (λ x. plus_real x d) (plus_real_comm b c) ∙ plus_real_assoc c b d)
    ∙ sym (plus_real_assoc a c (plus_real b d))

sum_zero : (outputs : List (List ℕ)) → sum_over (λ output. zero_real) outputs ≡ zero_real
sum_zero [] = refl
sum_zero (output ∷ outputs) =
    zero_real-plus (sum_over (λ o. zero_real) outputs) (sum_is_least (λ o. zero_real) outputs) ∙ sum_zero outputs

sum_both : (f g : List ℕ → Real) (outputs : List (List ℕ)) → sum_over (λ o. plus_real (f o) (g o)) outputs ≡ plus_real (sum_over f outputs) (sum_over g outputs)
sum_both f g [] = sym (plus_real-zero zero_real zero_real_is_least)
sum_both f g (o ∷ os) = ap (plus_real (plus_real (f o) (g o))) (sum_both f g os) ∙ swap (f o) (g o) (sum_over f os) (sum_over g os)

-- whether an output value is among those
abbrev pub among : List ℕ → List (List ℕ) → Bool
among x [] = false
among x (output ∷ outputs) = cond (same_values x output) true (among x outputs)

-- no output value stands twice
abbrev pub Distinct : List (List ℕ) → Type 0
Distinct [] = Unit {0}
Distinct (output ∷ outputs) = (among output outputs ≡ false) × Distinct outputs

abbrev part_of : Point → List ℕ → Real
part_of leaf output = part (same_values leaf.slots output) (mass leaf.state)

absent_sum : (leaf : Point) (outputs : List (List ℕ)) → among leaf.slots outputs ≡ false → sum_over (part_of leaf) outputs ≡ zero_real
absent_sum leaf [] h = refl
absent_sum leaf (o ∷ os) h = step (same_values leaf.slots o) (absent_sum leaf os) h
  where
    step : (b : Bool) → (among leaf.slots os ≡ false → sum_over (part_of leaf) os ≡ zero_real) → cond b true (among leaf.slots os) ≡ false
        → plus_real (part b (mass leaf.state)) (sum_over (part_of leaf) os) ≡ zero_real
    step true ih f = cc
    step false ih f = zero_real-plus (sum_over (part_of leaf) os) (sum_is_least (part_of leaf) os) ∙ ih f

present_sum : (leaf : Point) (outputs : List (List ℕ)) → Distinct outputs → among leaf.slots outputs ≡ true → sum_over (part_of leaf) outputs ≡ mass leaf.state
present_sum leaf [] d h = cc
present_sum leaf (o ∷ os) d h = step (same_values leaf.slots o) refl (present_sum leaf os d.1) h
  where
    step : (b : Bool) → same_values leaf.slots o ≡ b → (among leaf.slots os ≡ true → sum_over (part_of leaf) os ≡ mass leaf.state) → cond b true (among leaf.slots os) ≡ true
        → plus_real (part b (mass leaf.state)) (sum_over (part_of leaf) os) ≡ mass leaf.state
    step true e ih f =
        let absent : among leaf.slots os ≡ false = ap (λ x. among x os) (same_values_eq leaf.slots o e) ∙ d.0 in
        ap (plus_real (mass leaf.state)) (absent_sum leaf os absent) ∙ plus_real-zero (mass leaf.state) (mass_is_least leaf)
    step false e ih f = zero_real-plus (sum_over (part_of leaf) os) (sum_is_least (part_of leaf) os) ∙ ih f

-- the output value of each leaf is among those
abbrev pub AllAmong : List Point → List (List ℕ) → Type 0
AllAmong [] outputs = Unit {0}
AllAmong (leaf ∷ leaves) outputs = (among leaf.slots outputs ≡ true) × AllAmong leaves outputs

-- over different output values, of which each leaf has one, the shares are all that the leaves weigh
shares_all : (leaves : List Point) (outputs : List (List ℕ)) → Distinct outputs → AllAmong leaves outputs → sum_over (share leaves) outputs ≡ total leaves
shares_all [] outputs d h = sum_zero outputs
shares_all (leaf ∷ leaves) outputs d h =
    sum_both (part_of leaf) (share leaves) outputs
    ∙ ap (λ x. plus_real x (sum_over (share leaves) outputs)) (present_sum leaf outputs d h.0)
    ∙ ap (plus_real (mass leaf.state)) (shares_all leaves outputs d h.1)

-- ---- output values that no leaf weighs anything at may be left out

-- the output values of the leaves put before those, each once
abbrev gathered : List Point → List (List ℕ) → List (List ℕ)
gathered [] outputs = outputs
gathered (leaf ∷ leaves) outputs = gathered leaves (cond (among leaf.slots outputs) outputs (leaf.slots ∷ outputs))

gathered-keeps : (x : List ℕ) (leaves : List Point) (outputs : List (List ℕ)) → among x outputs ≡ true → among x (gathered leaves outputs) ≡ true
gathered-keeps x [] outputs h = h
gathered-keeps x (leaf ∷ leaves) outputs h = gathered-keeps x leaves (cond (among leaf.slots outputs) outputs (leaf.slots ∷ outputs)) (step (among leaf.slots outputs))
  where
    inner : (b : Bool) → cond b true (among x outputs) ≡ true
    inner true = refl
    inner false = h

    step : (b : Bool) → among x (cond b outputs (leaf.slots ∷ outputs)) ≡ true
    step true = h
    step false = inner (same_values x leaf.slots)

gathered-distinct : (leaves : List Point) (outputs : List (List ℕ)) → Distinct outputs → Distinct (gathered leaves outputs)
gathered-distinct [] outputs d = d
gathered-distinct (leaf ∷ leaves) outputs d =
    gathered-distinct leaves (cond (among leaf.slots outputs) outputs (leaf.slots ∷ outputs)) (step (among leaf.slots outputs) refl)
  where
    step : (b : Bool) → among leaf.slots outputs ≡ b → Distinct (cond b outputs (leaf.slots ∷ outputs))
    step true e = d
    step false e = (e, d)

gathered-all : (leaves : List Point) (outputs : List (List ℕ)) → AllAmong leaves (gathered leaves outputs)
gathered-all [] outputs = tt
gathered-all (leaf ∷ leaves) outputs =
    let more = cond (among leaf.slots outputs) outputs (leaf.slots ∷ outputs) in
    (gathered-keeps leaf.slots leaves more (step (among leaf.slots outputs) refl), gathered-all leaves more)
  where
    step : (b : Bool) → among leaf.slots outputs ≡ b → among leaf.slots (cond b outputs (leaf.slots ∷ outputs)) ≡ true
    step true e = e
    step false e = ap (λ c. cond c true (among leaf.slots outputs)) (same_values_refl leaf.slots)

gathered-sum : (f : List ℕ → Real) (leaves : List Point) (outputs : List (List ℕ)) → ((x : List ℕ) → among x outputs ≡ false → f x ≡ zero_real)
    → sum_over f (gathered leaves outputs) ≡ sum_over f outputs
gathered-sum f [] outputs h = refl
gathered-sum f (leaf ∷ leaves) outputs h = step (gathered-sum f leaves) (among leaf.slots outputs) refl
  where
    later : (x : List ℕ) (b : Bool) → cond b true (among x outputs) ≡ false → among x outputs ≡ false
    later x true e = cc
    later x false e = e

    step : ((os : List (List ℕ)) → ((x : List ℕ) → among x os ≡ false → f x ≡ zero_real) → sum_over f (gathered leaves os) ≡ sum_over f os)
        → (b : Bool) → among leaf.slots outputs ≡ b → sum_over f (gathered leaves (cond b outputs (leaf.slots ∷ outputs))) ≡ sum_over f outputs
    step ih true e = ih outputs h
    step ih false e =
        ih (leaf.slots ∷ outputs) (λ x n. h x (later x (same_values x leaf.slots) n))
        ∙ ap (λ a. plus_real a (sum_over f outputs)) (h leaf.slots e)
        ∙ zero_real-plus (sum_over f outputs) (sum_is_least f outputs)

-- over different output values, where all others have nothing, the shares are all that the leaves weigh
pub shares_total : (leaves : List Point) (outputs : List (List ℕ)) → Distinct outputs → ((x : List ℕ) → among x outputs ≡ false → share leaves x ≡ zero_real)
    → sum_over (share leaves) outputs ≡ total leaves
shares_total leaves outputs d h =
    sym (gathered-sum (share leaves) leaves outputs h) ∙ shares_all leaves (gathered leaves outputs) (gathered-distinct leaves outputs d) (gathered-all leaves outputs)
