-- Lists of primitives and of qubits, through what their references stand for.
use Rattle.std.proofs.Common.{◌≡◌, ℕ, zero, suc, true, false, List, [], ◌∷◌, ◌++◌, map, refl, sym, ap, ◌∙◌, Some, None}
use Rattle.std.specs.Prelude.{ℤ, pos, negsuc}
use Rattle.qt_integers.proofs.Integers.{neg_neg}
use Rattle.qt_gate_calls.specs.Units.{KnownUnits, opposite}
use Rattle.qt_gate_calls.specs.Primitives.{Turned, Phased, ControlsOf, with_one, with_zero, undo, repeated, powered, nth_or, picked, others, inverse_of}
use Rattle.qt_instructions.specs.declared.reference.QubitRef.{QubitRef}
use Rattle.qt_primitives.specs.declared.unit.Argument.{Argument}
use Rattle.qt_primitives.specs.declared.unit.Argument.TheVariants as argument
use Rattle.qt_primitives.specs.declared.unit.UnitAngle.{UnitAngle}
use Rattle.qt_primitives.specs.declared.unit.UnitAngle.TheVariants as angle
use Rattle.qt_primitives.specs.declared.unit.Action.{Action}
use Rattle.qt_primitives.specs.declared.unit.Action.TheVariants.{Turn, Phase}
use Rattle.qt_primitives.specs.declared.unit.Controls.{Controls}
use Rattle.qt_primitives.specs.declared.unit.UnitPrimitive.{UnitPrimitive}
use Rattle.qt_modify.specs.Reckoning.{Cells}
use Rattle.qt_modify.specs.Expansions.{angle_of, minus, inverse_action}
use Rattle.qt_modify.specs.Expansions as unit
use Rattle.qt_modify_laws.specs.Laws.{held_in, angle_at, action_at, primitive_at}

pub map-append : {X Y : Type 0} (f : X → Y) (xs ys : List X) → map f (xs ++ ys) ≡ map f xs ++ map f ys
map-append f [] ys = refl
map-append f (x ∷ xs) ys = ap (λ t. f x ∷ t) (map-append f xs ys)

pub map-others : {X Y : Type 0} (f : X → Y) (xs : List X) → map f (others xs) ≡ others (map f xs)
map-others f [] = refl
map-others f (x ∷ xs) = refl

pub map-nth : {X Y : Type 0} (f : X → Y) (x : X) (y : Y) (p : ℕ) (xs : List X) → f x ≡ y → f (nth_or x p xs) ≡ nth_or y p (map f xs)
map-nth f x y p [] e = e
map-nth f x y zero (z ∷ xs) e = refl
map-nth f x y (suc p) (z ∷ xs) e = map-nth f x y p xs e

pub map-picked : {X Y : Type 0} (f : X → Y) (x : X) (y : Y) (xs : List X) (ps : List ℕ) → f x ≡ y
    → map f (picked x xs ps) ≡ picked y (map f xs) ps
map-picked f x y xs [] e = refl
map-picked f x y xs (p ∷ ps) e =
    ap (λ t. t ∷ map f (picked x xs ps)) (map-nth f x y p xs e) ∙ ap (λ t. nth_or y p (map f xs) ∷ t) (map-picked f x y xs ps e)

-- ---- controls

abbrev pub controls_at : (QubitRef → ℕ) → Controls → ControlsOf ℕ
controls_at place cs = record { ones = map place cs.ones; zeros = map place cs.zeros }

pub controls_one : (place : QubitRef → ℕ) (q : QubitRef) (cs : Controls)
    → controls_at place (unit.with_one q cs) ≡ with_one (place q) (controls_at place cs)
controls_one place q cs = ap (λ (t : List ℕ). record { ones = t; zeros = map place cs.zeros }) (map-append place cs.ones (q ∷ []))

pub controls_zero : (place : QubitRef → ℕ) (q : QubitRef) (cs : Controls)
    → controls_at place (unit.with_zero q cs) ≡ with_zero (place q) (controls_at place cs)
controls_zero place q cs = ap (λ (t : List ℕ). record { ones = map place cs.ones; zeros = t }) (map-append place cs.zeros (q ∷ []))

-- ---- angles

opposite_opposite : (k : KnownUnits) → opposite (opposite k) ≡ k
opposite_opposite None = refl
opposite_opposite (Some z) = ap Some (neg_neg z)

angle_at-minus : (cells : Cells) (a : UnitAngle) → angle_at cells (minus a) ≡ opposite (angle_at cells a)
angle_at-minus cells (angle.Fixed z) = refl
angle_at-minus cells (angle.Cell c false) = refl
angle_at-minus cells (angle.Cell c true) = sym (opposite_opposite (cells c))

pub angle_at-of : (cells : Cells) (a : Argument) → angle_at cells (angle_of a) ≡ held_in cells a
angle_at-of cells (argument.Fixed z) = refl
angle_at-of cells (argument.Cell c) = refl

-- ---- primitives

action_at-inverse : (place : QubitRef → ℕ) (cells : Cells) (ones zeros : List ℕ) (a : Action)
    → action_at place cells ones zeros (inverse_action a) ≡ inverse_of (action_at place cells ones zeros a)
action_at-inverse place cells ones zeros (Turn q a b c) =
    ap (λ t. Turned ones zeros (place q) t (angle_at cells (minus c)) (angle_at cells (minus b))) (angle_at-minus cells a)
    ∙ ap (λ t. Turned ones zeros (place q) (opposite (angle_at cells a)) t (angle_at cells (minus b))) (angle_at-minus cells c)
    ∙ ap (Turned ones zeros (place q) (opposite (angle_at cells a)) (opposite (angle_at cells c))) (angle_at-minus cells b)
action_at-inverse place cells ones zeros (Phase a) = ap (Phased ones zeros) (angle_at-minus cells a)

module _ (place : QubitRef → ℕ) (cells : Cells) where
  pub map-undo : (ps : List UnitPrimitive)
      → map (primitive_at place cells) (undo unit.inverse_of ps) ≡ undo inverse_of (map (primitive_at place cells) ps)
  map-undo [] = refl
  map-undo (p ∷ ps) =
      map-append (primitive_at place cells) (undo unit.inverse_of ps) (unit.inverse_of p ∷ [])
      ∙ ap (λ t. t ++ (primitive_at place cells (unit.inverse_of p) ∷ [])) (map-undo ps)
      ∙ ap (λ t. undo inverse_of (map (primitive_at place cells) ps) ++ (t ∷ []))
      (action_at-inverse place cells (map place p.controls.ones) (map place p.controls.zeros) p.action)

  map-repeated : (k : ℕ) (ps : List UnitPrimitive)
      → map (primitive_at place cells) (repeated k ps) ≡ repeated k (map (primitive_at place cells) ps)
  map-repeated zero ps = refl
  map-repeated (suc k) ps =
      map-append (primitive_at place cells) (repeated k ps) ps ∙ ap (λ t. t ++ map (primitive_at place cells) ps) (map-repeated k ps)

  pub map-powered : (k : ℤ) (ps : List UnitPrimitive)
      → map (primitive_at place cells) (powered unit.inverse_of k ps) ≡ powered inverse_of k (map (primitive_at place cells) ps)
  map-powered (pos k) ps = map-repeated k ps
  map-powered (negsuc k) ps = map-repeated (suc k) (undo unit.inverse_of ps) ∙ ap (repeated (suc k)) (map-undo ps)
