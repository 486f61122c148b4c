-- Lists by the places of their elements, and from their ends.
use Rattle.std.proofs.Common.{◌≡◌, ℕ, suc, ◌+◌, ◌<◌, List, [], ◌∷◌, ◌++◌, length, take, get_or, map, refl, sym, ap, ◌∙◌, arith, append_assoc, length-take}
use Rattle.std.proofs.lemmas.List.{take_more}
use Rattle.std.specs.Prelude.{Bool}
use Rattle.qt_gate_calls.specs.declared.angle.Angle.{Angle}
use Rattle.qt_primitives.specs.declared.unit.Argument.{Argument}
use Rattle.qt_primitives.specs.declared.unit.UnitPrimitive.{UnitPrimitive}
use Rattle.qt_modify.specs.declared.unit.Steps.{Steps}
use Rattle.qt_modify.specs.Reckoning.{Reckoned}
use Rattle.qt_modify.specs.Eighths.{with_eighths}
use Rattle.qt_modify.specs.Expansions.{AllReckoned, reckoned_if, before_rest, all_reckoned}

pub one_behind : {A : Type 0} (xs : List A) (x : A) (ys : List A) → (xs ++ (x ∷ [])) ++ ys ≡ xs ++ (x ∷ ys)
one_behind xs x ys = append_assoc xs (x ∷ []) ys

-- ---- arguments

reckoned_last : (want : ℕ → Bool) (given : List Argument) (n : ℕ) (xs : List Angle) (a : Angle) (s0 s1 s2 : Steps) (outs : List Argument)
    (arg : Argument) → all_reckoned want given n xs s0 ≡ record { steps = s1; angles = outs }
    → reckoned_if (want (n + length xs)) given a s1 ≡ record { steps = s2; angle = arg }
    → all_reckoned want given n (xs ++ a ∷ []) s0 ≡ record { steps = s2; angles = outs ++ arg ∷ [] }
reckoned_last want given n [] a s0 s1 s2 outs arg e f =
    let z : n ≡ n + length {A = Angle} [] = omega arith in
    ap (λ k. before_rest (reckoned_if (want k) given a s0) (all_reckoned want given (suc n) [])) z
    ∙ ap (λ s. before_rest (reckoned_if (want (n + length {A = Angle} [])) given a s) (all_reckoned want given (suc n) []))
    (ap (λ (x : AllReckoned). x.steps) e)
    ∙ ap (λ (x : Reckoned). before_rest x (all_reckoned want given (suc n) [])) f
    ∙ ap (λ (t : List Argument). record { steps = s2; angles = t ++ arg ∷ [] }) (ap (λ (x : AllReckoned). x.angles) e)
reckoned_last want given n (x ∷ xs) a s0 s1 s2 outs arg e f =
    let z : n + length (x ∷ xs) ≡ suc n + length xs = omega arith in
    let one : Reckoned = reckoned_if (want n) given x s0 in
    let rest : AllReckoned = all_reckoned want given (suc n) xs one.steps in
    ap (λ (t : AllReckoned). record { steps = t.steps; angles = one.angle ∷ t.angles })
    (reckoned_last want given (suc n) xs a one.steps s1 s2 rest.angles arg
    (ap (λ (s : Steps). record { steps = s; angles = rest.angles }) (ap (λ (t : AllReckoned). t.steps) e))
    (ap (λ k. reckoned_if (want k) given a s1) (sym z) ∙ f))
    ∙ ap (λ (t : List Argument). record { steps = s2; angles = t ++ arg ∷ [] }) (ap (λ (t : AllReckoned). t.angles) e)

pub one_more_reckoned : (want : ℕ → Bool) (given : List Argument) (angles : List Angle) (n : ℕ) (a : Angle) (s0 s1 s2 : Steps)
    (outs new : List Argument) (arg : Argument) → n < length angles → a ≡ get_or angles n a
    → all_reckoned want given 0 (take n angles) s0 ≡ record { steps = s1; angles = outs }
    → reckoned_if (want n) given a s1 ≡ record { steps = s2; angle = arg } → new ≡ outs ++ arg ∷ []
    → all_reckoned want given 0 (take (n + 1) angles) s0 ≡ record { steps = s2; angles = new }
one_more_reckoned want given angles n a s0 s1 s2 outs new arg h e f g w =
    let t : take (n + 1) angles ≡ take n angles ++ a ∷ [] = take_more angles n a h ∙ ap (λ x. take n angles ++ x ∷ []) (sym e) in
    let z : 0 + length (take n angles) ≡ n = simp length-take (omega arith) in
    ap (λ (xs : List Angle). all_reckoned want given 0 xs s0) t
    ∙ reckoned_last want given 0 (take n angles) a s0 s1 s2 outs arg f (ap (λ k. reckoned_if (want k) given a s1) z ∙ g)
    ∙ ap (λ (xs : List Argument). record { steps = s2; angles = xs }) (sym w)

-- ---- the last pass

with_eighths_last : (ps : List UnitPrimitive) (p : UnitPrimitive)
    → map with_eighths (ps ++ p ∷ []) ≡ map with_eighths ps ++ with_eighths p ∷ []
with_eighths_last [] p = refl
with_eighths_last (x ∷ ps) p = ap (λ t. with_eighths x ∷ t) (with_eighths_last ps p)

pub one_more_made : (ps : List UnitPrimitive) (n : ℕ) (p : UnitPrimitive) → n < length ps → p ≡ get_or ps n p
    → map with_eighths (take n ps) ++ with_eighths p ∷ [] ≡ map with_eighths (take (n + 1) ps)
one_more_made ps n p h e =
    let t : take (n + 1) ps ≡ take n ps ++ p ∷ [] = take_more ps n p h ∙ ap (λ x. take n ps ++ x ∷ []) (sym e) in
    sym (with_eighths_last (take n ps) p) ∙ ap (map with_eighths) (sym t)
