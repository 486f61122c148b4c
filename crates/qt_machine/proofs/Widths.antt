-- Types of operands.
use Rattle.std.proofs.Common.{◌≡◌, ℕ, ◌+◌, ◌≤◌, ◌<◌, ◌^◌, ◌%◌, ◌*◌, ◌-◌, Bool, true, false, ◌&&◌, IsTrue, refl, sym, ap, subst, ◌∙◌, suc, pow-add, arith}
use Rattle.std.proofs.lemmas.Nat.{pow_pos}
use Rattle.std.proofs.Math.Nat.{mod-lt, mul-le-mul_right}
use Rattle.std.proofs.lemmas.Bool.Decides.{nat_tests}
use Rattle.qt_value.specs.Types.{has_size, width_of}
use Rattle.qt_value.specs.declared.types.ValueType.{ValueType}
use Rattle.qt_value.specs.declared.types.ValueType.TheVariants as kind
use Rattle.qt_code_rules.specs.declared.sizes.Sizes.{Sizes}
use Rattle.qt_code_rules.specs.Sizes.{has_cell}
use Rattle.qt_code.specs.Ranges.{has_instruction, has_operation, has_angle_operation, is_angle}
use Rattle.qt_instructions.specs.declared.instruction.Instr.{Instr}
use Rattle.qt_instructions.specs.declared.instruction.Instr.TheVariants as instr
use Rattle.qt_instructions.specs.declared.instruction.Operation.{Operation}
use Rattle.qt_instructions.specs.declared.instruction.Operation.TheVariants as operation
use Rattle.qt_instructions.specs.declared.angle.AngleOperation.{AngleOperation}
use Rattle.qt_instructions.specs.declared.angle.AngleOperation.TheVariants as phase
use Rattle.qt_machine.specs.Phases.{has_kinds}
use Rattle.qt_machine.specs.Writes.{has_types}

pub few_bits : (kind : ValueType) → IsTrue (has_size kind) → width_of kind ≤ 64
few_bits kind.Bool h = omega arith
few_bits (kind.Bit n) h = grind (arith, nat_tests)
few_bits (kind.Int n) h = grind (arith, nat_tests)
few_bits (kind.Uint n) h = grind (arith, nat_tests)
few_bits (kind.Angle n) h = grind (arith, nat_tests)
few_bits kind.Phase h = omega arith

pub lowest_fits : (kind : ValueType) (bits : ℕ) → bits % 2 ^ width_of kind < 2 ^ width_of kind
lowest_fits kind bits = mod-lt bits (pow_pos (width_of kind))

pub angle_width : (kind : ValueType) → IsTrue (has_size kind && is_angle kind) → width_of kind ≤ 32
angle_width kind.Bool h = omega arith
angle_width (kind.Bit n) h = grind (arith, nat_tests)
angle_width (kind.Int n) h = grind (arith, nat_tests)
angle_width (kind.Uint n) h = grind (arith, nat_tests)
angle_width (kind.Angle n) h = grind (arith, nat_tests)
angle_width kind.Phase h = omega arith

pub angle_fits : (width bits : ℕ) → width ≤ 32 → bits < 2 ^ width → bits * 2 ^ (33 - width) < 2 ^ 33
angle_fits width bits h k =
    let more : suc bits * 2 ^ (33 - width) ≤ 2 ^ width * 2 ^ (33 - width) = mul-le-mul_right (2 ^ (33 - width)) k in
    let both : width + (33 - width) ≡ 33 = omega arith in
    let whole : 2 ^ width * 2 ^ (33 - width) ≡ 2 ^ 33 = sym (pow-add 2 width (33 - width)) ∙ ap (λ t. 2 ^ t) both in
    omega (arith, pow_pos (33 - width))

pub types_of : (sizes : Sizes) (o : Operation) → IsTrue (has_operation sizes o) → IsTrue (has_types o)
types_of sizes (operation.Unary operator of) h = grind (arith, nat_tests)
types_of sizes (operation.Binary operator left right) h = grind (arith, nat_tests)

pub kinds_of : (sizes : Sizes) (o : AngleOperation) → IsTrue (has_angle_operation sizes o) → IsTrue (has_kinds o)
kinds_of sizes (phase.Step step) h = refl
kinds_of sizes (phase.OfAngle value) h = grind (arith, nat_tests)
kinds_of sizes (phase.Product of factor) h = grind (arith, nat_tests)
kinds_of sizes (phase.Quotient of divisor) h = grind (arith, nat_tests)
kinds_of sizes (phase.NoRest value) h = grind (arith, nat_tests)

left : (a b : Bool) → IsTrue (a && b) → IsTrue a
left true b h = refl
left false b h = h

right : (a b : Bool) → IsTrue (a && b) → IsTrue b
right true b h = h
right false b h = absurd (cc)

-- the types of an operator that is there
pub types_there : (sizes : Sizes) (i : Instr) (cell : ℕ) (o : Operation) → i ≡ instr.Apply cell o → IsTrue (has_instruction sizes i) → IsTrue (has_types o)
types_there sizes i cell o e h =
    let here : IsTrue (has_instruction sizes (instr.Apply cell o)) = subst (λ (x : Instr). IsTrue (has_instruction sizes x)) e h in
    types_of sizes o (right (has_cell sizes cell) (has_operation sizes o) (left (has_cell sizes cell && has_operation sizes o) true here))
