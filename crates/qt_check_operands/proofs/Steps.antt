-- The bits of a value, one index after the other.
use Rattle.std.proofs.Common.{◌≡◌, List, [], ◌∷◌, ◌++◌, Ok, Err, refl, ap, sym, ◌∙◌, append-nil, append_assoc}
use Rattle.qt_const_rules.specs.declared.modes.Mode.{Mode}
use Rattle.qt_tree.specs.declared.place.Place.{Place}
use Rattle.qt_typed.specs.declared.expression.TypedExpr.{TypedExpr}
use Rattle.qt_typed.specs.declared.expression.TypedStep.{TypedStep}
use Rattle.qt_typed.specs.declared.expression.TypedStep.TheVariants as step
use Rattle.qt_value.specs.declared.types.ValueType.{ValueType}
use Rattle.qt_typing.specs.declared.indexes.Bits.{Bits}
use Rattle.qt_typing.specs.declared.indexes.Steps.{Steps}
use Rattle.qt_typing.specs.declared.names.Names.{Names}
use Rattle.qt_typing.specs.declared.operand.Operand.{Operand}
use Rattle.qt_typing.specs.declared.operand.Operand.TheVariants as operand
use Rattle.qt_typing.specs.Checked.{Checked, and_then}
use Rattle.qt_typing.specs.Indexes.{IndexPart, bits_at, steps_from}
use Rattle.qt_typing.specs.Expressions.{bits_of, stepped}

abbrev behind : List TypedStep → Steps → Checked Steps
behind done s = Ok (record { steps = done ++ s.steps; kind = s.kind })

behind_both : (done : List TypedStep) (one : TypedStep) (c : Checked Steps) → and_then c (behind (done ++ one ∷ []))
    ≡ and_then (and_then c (behind (one ∷ []))) (behind done)
behind_both done one (Ok s) = ap (λ t. Ok (record { steps = t; kind = s.kind })) (append_assoc done (one ∷ []) s.steps)
behind_both done one (Err e) = refl

module _ (names : Names) (m : Mode) (place : Place) where
  -- the steps so far stand before those that follow
  steps_behind : (done : List TypedStep) (kind : ValueType) (rest : List IndexPart) → steps_from names m place done kind rest
      ≡ and_then (steps_from names m place [] kind rest) (behind done)
  unfolding steps_from
  steps_behind done kind [] = ap (λ t. Ok (record { steps = t; kind = kind })) (sym (append-nil done))
  steps_behind done kind (index ∷ rest) = from_bits (λ so_far of. steps_behind so_far of rest) (bits_at names m place kind index.shape)
    where
      from_bits : ((so_far : List TypedStep) (of : ValueType) → steps_from names m place so_far of rest
          ≡ and_then (steps_from names m place [] of rest) (behind so_far)) → (c : Checked Bits)
          → and_then c (λ b. steps_from names m place (done ++ b.step ∷ []) b.kind rest)
          ≡ and_then (and_then c (λ b. steps_from names m place (b.step ∷ []) b.kind rest)) (behind done)
      from_bits later (Ok b) =
          later (done ++ b.step ∷ []) b.kind
          ∙ (behind_both done b.step (steps_from names m place [] b.kind rest)
          ∙ ap (λ c. and_then c (behind done)) (sym (later (b.step ∷ []) b.kind)))
      from_bits later (Err e) = refl

  abbrev shown : TypedExpr → Steps → Checked Operand
  shown form s = Ok (operand.Value s.kind (stepped form s.steps))

  stepped_next : (form : TypedExpr) (first : TypedStep) (rest : List TypedStep) → stepped form (first ∷ rest)
      ≡ stepped (stepped form (first ∷ [])) rest
  stepped_next form (step.At index) rest = refl
  stepped_next form (step.Slice start by count) rest = refl

  shown_behind : (form : TypedExpr) (first : TypedStep) (c : Checked Steps) → and_then (and_then c (behind (first ∷ []))) (shown form)
      ≡ and_then c (shown (stepped form (first ∷ [])))
  shown_behind form first (Ok s) = ap (λ t. Ok (operand.Value s.kind t)) (stepped_next form first s.steps)
  shown_behind form first (Err e) = refl

  pub no_bits : (kind : ValueType) (form : TypedExpr) → bits_of names m place kind form [] ≡ Ok (operand.Value kind form)
  unfolding bits_of steps_from
  no_bits kind form = refl

  pub more_bits : (kind : ValueType) (form : TypedExpr) (index : IndexPart) (rest : List IndexPart) → bits_of names m place kind form
      (index ∷ rest)
      ≡ and_then (bits_at names m place kind index.shape) (λ b. bits_of names m place b.kind (stepped form (b.step ∷ [])) rest)
  unfolding bits_of steps_from
  more_bits kind form index rest = from_bits (bits_at names m place kind index.shape)
    where
      from_bits : (c : Checked Bits) → and_then (and_then c (λ b. steps_from names m place (b.step ∷ []) b.kind rest)) (shown form)
          ≡ and_then c (λ b. and_then (steps_from names m place [] b.kind rest) (shown (stepped form (b.step ∷ []))))
      from_bits (Ok b) =
          ap (λ c. and_then c (shown form)) (steps_behind (b.step ∷ []) b.kind rest)
          ∙ shown_behind form b.step (steps_from names m place [] b.kind rest)
      from_bits (Err e) = refl

pub ruleset bits = (no_bits, more_bits)
