-- The place of an element stays below the number of elements while the indexes join it.
use Rattle.std.proofs.Common.{◌≡◌, ℕ, zero, suc, ◌+◌, ◌*◌, ◌^◌, ◌<◌, ◌≤◌, Ok, Err, List, [], ◌∷◌, refl, arith}
use Rattle.std.proofs.Math.Nat.{mul-le-mul_right}
use Rattle.qt_typed.specs.Types.{type_of}
use Rattle.qt_typed.specs.declared.expression.TypedExpr.{Row_of-TypedExpr, end_of-TypedExpr, more_of-TypedExpr}
use Rattle.qt_meaning.specs.Distribution.{element_count}
use Rattle.qt_meaning.specs.Expressions.{eval, element}
use Rattle.qt_meaning.specs.Values.{Evaluated, and_then, place_in}
use Rattle.qt_flat_expressions.specs.Fits.{HasNoEmptyDimension, IndexesFit}
use Rattle.qt_flat_expressions.proofs.Indexes.{IsRoom}
use Rattle.qt_flat_expressions.proofs.Places.{written}

some_elements : (lengths : List ℕ) → HasNoEmptyDimension lengths → 0 < element_count lengths
some_elements [] h = omega arith
some_elements (n ∷ lengths) h =
    let some : 0 < n = h.0 in
    let rest = some_elements lengths h.1 in
    let l : 1 * element_count lengths ≤ n * element_count lengths = mul-le-mul_right (element_count lengths) (omega arith) in
    omega arith

-- behind a place, the elements that are still to be told apart
abbrev pub left_of : ℕ → List ℕ → ℕ
left_of before lengths = suc before * element_count lengths

once : (before n c : ℕ) → 0 < c → suc before * n ≤ suc before * (n * c)
once before n zero h = absurd (omega arith)
once before n (suc c) h = omega arith

narrow : (before n : ℕ) → n ≤ suc before * n
narrow before n = omega arith

pub room_here : (before n : ℕ) (lengths : List ℕ) → HasNoEmptyDimension (n ∷ lengths) → left_of before (n ∷ lengths) < 2 ^ 32 → IsRoom before n
room_here before n lengths h l =
    let a = once before n (element_count lengths) (some_elements lengths h.1) in
    let b = narrow before n in
    record { some = h.0; short = omega arith; room = omega arith }

pub room_left : (before n place : ℕ) (lengths : List ℕ) → place < n → left_of (before * n + place) lengths ≤ left_of before (n ∷ lengths)
room_left before n place lengths h =
    let l : suc (before * n + place) * element_count lengths ≤ (suc before * n) * element_count lengths =
    mul-le-mul_right (element_count lengths) (omega arith) in
    omega arith

-- the place of an element is that of one
pub element_below : {m : _} (slots : ℕ) (lengths : List ℕ) (before : ℕ) (indexes : Row_of-TypedExpr m) (base : ℕ) (store : List ℕ) (place : ℕ)
    → IndexesFit slots lengths indexes → element lengths before indexes base store ≡ Ok place → place < left_of before lengths
element_below slots [] before end_of-TypedExpr base store place fits e = let same : before ≡ place = cc in omega arith
element_below slots [] before (more_of-TypedExpr index rest) base store place fits e = absurd fits
element_below slots (n ∷ lengths) before end_of-TypedExpr base store place fits e = absurd fits
element_below slots (n ∷ lengths) before (more_of-TypedExpr index rest) base store place fits e =
    by_value (eval index base store) e (λ j. element_below slots lengths (before * n + j) rest base store place fits.2)
  where
    by_place : (v : Evaluated ℕ) → ((j : ℕ) → v ≡ Ok j → j < n) → and_then v (λ j. element lengths (before * n + j) rest base store) ≡ Ok place
        → ((j : ℕ) → element lengths (before * n + j) rest base store ≡ Ok place → place < left_of (before * n + j) lengths)
        → place < left_of before (n ∷ lengths)
    by_place (Ok j) below g ih =
        let more = room_left before n j lengths (below j refl) in
        let l = ih j g in
        omega arith
    by_place (Err fault) below g ih = cc

    by_value : (v : Evaluated ℕ)
        → and_then v (λ i. and_then (place_in n (type_of index) i) (λ j. element lengths (before * n + j) rest base store)) ≡ Ok place
        → ((j : ℕ) → element lengths (before * n + j) rest base store ≡ Ok place → place < left_of (before * n + j) lengths)
        → place < left_of before (n ∷ lengths)
    by_value (Ok i) g ih = by_place (place_in n (type_of index) i) (λ j same. (written n (type_of index) i j same).below) g ih
    by_value (Err fault) g ih = cc
