-- How often primitives are halved: as often as the matrix of the call.
use Rattle.std.proofs.Common.{◌≡◌, ℕ, zero, suc, ◌+◌, List, [], ◌∷◌, ◌++◌, refl, ◌∙◌, arith}
use Rattle.std.specs.Prelude.{ℤ, pos, negsuc}
use Rattle.qt_ring.specs.Matrix.{Operator}
use Rattle.qt_gate_calls.specs.Matrices.{inverted, power, raised}
use Rattle.qt_gate_calls.specs.Primitives.{Primitive, Turned, Phased, inverse_of, undo, repeated, powered}

abbrev pub count_one : Primitive → ℕ
count_one (Turned ones zeros q a b c) = 1
count_one (Phased ones zeros a) = 0

abbrev pub count : List Primitive → ℕ
count [] = 0
count (p ∷ ps) = count_one p + count ps

pub count-append : (ps rs : List Primitive) → count (ps ++ rs) ≡ count ps + count rs
count-append [] rs = omega arith
count-append (p ∷ ps) rs = let h : count (ps ++ rs) ≡ count ps + count rs = count-append ps rs in omega arith

count-inverse_of : (p : Primitive) → count_one (inverse_of p) ≡ count_one p
count-inverse_of (Turned ones zeros q a b c) = refl
count-inverse_of (Phased ones zeros a) = refl

pub count-undo : (ps : List Primitive) → count (undo inverse_of ps) ≡ count ps
count-undo [] = refl
count-undo (p ∷ ps) =
    let h : count (undo inverse_of ps) ≡ count ps = count-undo ps in
    let k : count (undo inverse_of ps ++ (inverse_of p ∷ [])) ≡ count (undo inverse_of ps) + count (inverse_of p ∷ []) = count-append (undo inverse_of ps) (inverse_of p ∷ []) in
    let i : count_one (inverse_of p) ≡ count_one p = count-inverse_of p in
    omega arith

count-repeated : (e : ℕ) (g : Operator) (ps : List Primitive) → count ps ≡ g.halvings → count (repeated e ps) ≡ (power e g).halvings
count-repeated zero g ps k = refl
count-repeated (suc e) g ps k =
    let i : count (repeated e ps) ≡ (power e g).halvings = count-repeated e g ps k in
    let j : count (repeated e ps ++ ps) ≡ count (repeated e ps) + count ps = count-append (repeated e ps) ps in
    omega arith

pub count-powered : (k : ℤ) (g : Operator) (ps : List Primitive) → count ps ≡ g.halvings → count (powered inverse_of k ps) ≡ (raised k g).halvings
count-powered (pos e) g ps h = count-repeated e g ps h
count-powered (negsuc e) g ps h = count-repeated (suc e) (inverted g) (undo inverse_of ps) (count-undo ps ∙ h)
