-- `==` on instructions and parts is true exactly where both are the same.
use Rattle.std.proofs.Common.{◌≡◌, ℕ, ℤ, Bool, true, false, ◌&&◌, List, nat_eq, refl, ap, subst, ◌∙◌}
use mathlib.Core.Bool.{beq}
use lib.Pointwise.{pointwise}
use Rattle.std.proofs.lemmas.Bool.{false≢true}
use Rattle.std.proofs.lemmas.Bool.Decides.{Decides-eqb, Decides-int_eq}
use Rattle.std.specs.Bool.{Decides}
use Rattle.std.specs.Cmp.Lexicographic.{pointwise_decides}
use Rattle.std.specs.Ordering.{int_eq}
use Rattle.qt_tree.specs.declared.place.Place.{Place}
use Rattle.qt_value.specs.declared.types.ValueType.{ValueType}
use Rattle.qt_value.specs.declared.types.ValueType.TheVariants as kind
use Rattle.qt_value.specs.declared.operators.Op.{Op}
use Rattle.qt_value.specs.declared.operators.Op.TheVariants as op
use Rattle.qt_value.specs.declared.operators.UnaryOp.{UnaryOp}
use Rattle.qt_value.specs.declared.operators.UnaryOp.TheVariants as unary
use Rattle.qt_instructions.specs.declared.reference.QubitRef.{QubitRef}
use Rattle.qt_instructions.specs.declared.reference.QubitRef.TheVariants as qubit
use Rattle.qt_instructions.specs.declared.reference.AngleRef.{AngleRef}
use Rattle.qt_instructions.specs.declared.reference.AngleRef.TheVariants as angle
use Rattle.qt_instructions.specs.declared.primitive.Primitive.{Primitive}
use Rattle.qt_instructions.specs.declared.primitive.Primitive.TheVariants as primitive
use Rattle.qt_instructions.specs.declared.angle.AngleArg.{AngleArg}
use Rattle.qt_instructions.specs.declared.angle.AngleArg.TheVariants as argument
use Rattle.qt_instructions.specs.declared.angle.AngleStep.{AngleStep}
use Rattle.qt_instructions.specs.declared.angle.AngleStep.TheVariants as step
use Rattle.qt_instructions.specs.declared.angle.AngleOperation.{AngleOperation}
use Rattle.qt_instructions.specs.declared.angle.AngleOperation.TheVariants as phase
use Rattle.qt_instructions.specs.declared.instruction.Operand.{Operand}
use Rattle.qt_instructions.specs.declared.instruction.Operation.{Operation}
use Rattle.qt_instructions.specs.declared.instruction.Operation.TheVariants as operation
use Rattle.qt_instructions.specs.declared.instruction.Store.{Store}
use Rattle.qt_instructions.specs.declared.instruction.Store.TheVariants as store
use Rattle.qt_instructions.specs.declared.instruction.Instr.{Instr}
use Rattle.qt_instructions.specs.declared.instruction.Instr.TheVariants as instr
use Rattle.qt_instructions.specs.declared.parts.Field.{Field}
use Rattle.qt_instructions.specs.declared.parts.Parts.{Parts}
use Rattle.qt_tree.specs.contracts.place.PlacePartialEq.TheImpl as place_test
use Rattle.qt_value.specs.contracts.types.ValueTypePartialEq.TheImpl as kind_test
use Rattle.qt_value.specs.contracts.operators.OpPartialEq.TheImpl as op_test
use Rattle.qt_value.specs.contracts.operators.UnaryOpPartialEq.TheImpl as unary_test
use Rattle.qt_instructions.specs.contracts.reference.QubitRefPartialEq.TheImpl as qubit_test
use Rattle.qt_instructions.specs.contracts.reference.AngleRefPartialEq.TheImpl as angle_test
use Rattle.qt_instructions.specs.contracts.primitive.PrimitivePartialEq.TheImpl as primitive_test
use Rattle.qt_instructions.specs.contracts.angle.AngleArgPartialEq.TheImpl as argument_test
use Rattle.qt_instructions.specs.contracts.angle.AngleStepPartialEq.TheImpl as step_test
use Rattle.qt_instructions.specs.contracts.angle.AngleOperationPartialEq.TheImpl as phase_test
use Rattle.qt_instructions.specs.contracts.instruction.OperandPartialEq.TheImpl as operand_test
use Rattle.qt_instructions.specs.contracts.instruction.OperationPartialEq.TheImpl as operation_test
use Rattle.qt_instructions.specs.contracts.instruction.StorePartialEq.TheImpl as store_test
use Rattle.qt_instructions.specs.contracts.instruction.InstrPartialEq.TheImpl as instr_test
use Rattle.qt_tree.specs.contracts.place.PlaceEq.TheImpl.Laws as place_laws
use Rattle.qt_instructions.specs.contracts.reference.QubitRefEq.TheImpl.Laws as qubit_laws
use Rattle.qt_instructions.specs.contracts.instruction.InstrEq.TheImpl.Laws as instr_laws
use Rattle.qt_instructions.specs.contracts.parts.FieldEq.TheImpl.Laws as field_laws
use Rattle.qt_instructions.specs.contracts.parts.PartsEq.TheImpl.Laws as parts_laws
use Rattle.qt_instructions.specs.Equality.{same_parts}
use Rattle.qt_instructions.specs.Fields.{same_field}

-- ---- what tests tell

-- what a test calls the same is the same
abbrev Sound : (T : Type 0) → (T → T → Bool) → Type 0
Sound T test = (x y : T) → test x y ≡ true → x ≡ y

two_of : (a b : Bool) → (a && b) ≡ true → (a ≡ true) × (b ≡ true)
two_of true b h = (refl, h)
two_of false b h = absurd (false≢true h)

decided : {T : Type 0} (test : T → T → Bool) → Sound T test → ((x : T) → test x x ≡ true) → (x y : T) → Decides (test x y) (x ≡ y)
decided test sound itself x y = (sound x y, λ e. subst (λ t. test x t ≡ true) e (itself x))

lists : {T : Type 0} {test : T → T → Bool} → ((x y : T) → Decides (test x y) (x ≡ y)) → Sound (List T) (pointwise test)
lists each xs ys h = (pointwise_decides each xs ys).0 h

number : Sound ℕ nat_eq
number x y h = (Decides-eqb x y).0 h

numbers : Sound (List ℕ) (pointwise nat_eq)
numbers = lists Decides-eqb

whole : Sound ℤ int_eq
whole x y h = (Decides-int_eq x y).0 h

flag : Sound Bool beq
flag true true h = refl
flag false false h = refl
flag true false h = absurd (false≢true h)
flag false true h = absurd (false≢true h)

-- ---- what is made of parts

of_two : {A B T : Type 0} (make : A → B → T) {s : A → A → Bool} {t : B → B → Bool} → Sound A s → Sound B t
    → (a c : A) (b d : B) → (s a c && t b d) ≡ true → make a b ≡ make c d
of_two make {s} {t} f g a c b d h =
    let r = two_of (s a c) (t b d) h in
    ap (λ x. make x b) (f a c r.0) ∙ ap (make c) (g b d r.1)

of_three : {A B C T : Type 0} (make : A → B → C → T) {s : A → A → Bool} {t : B → B → Bool} {u : C → C → Bool}
    → Sound A s → Sound B t → Sound C u
    → (a d : A) (b e : B) (c f : C) → (s a d && (t b e && u c f)) ≡ true → make a b c ≡ make d e f
of_three make {s} {t} {u} f g h a d b e c k all =
    let r = two_of (s a d) (t b e && u c k) all in
    ap (λ x. make x b c) (f a d r.0) ∙ of_two (make d) g h b e c k r.1

of_four : {A B C D T : Type 0} (make : A → B → C → D → T) {s : A → A → Bool} {t : B → B → Bool} {u : C → C → Bool} {v : D → D → Bool}
    → Sound A s → Sound B t → Sound C u → Sound D v
    → (a e : A) (b f : B) (c g : C) (d h : D) → (s a e && (t b f && (u c g && v d h))) ≡ true → make a b c d ≡ make e f g h
of_four make {s} {t} {u} {v} first second third last a e b f c g d h all =
    let r = two_of (s a e) (t b f && (u c g && v d h)) all in
    ap (λ x. make x b c d) (first a e r.0) ∙ of_three (make e) second third last b f c g d h r.1

-- ---- places, types and operators

abbrev make_place : ℕ → ℕ → ℕ → Place
make_place file line column = record { file = file; line = line; column = column }

same_place : Sound Place (place_test.ghosts).eq
same_place x y h = of_three make_place number number number x.file y.file x.line y.line x.column y.column h

place_decided : (x y : Place) → Decides ((place_test.ghosts).eq x y) (x ≡ y)
place_decided = decided (place_test.ghosts).eq same_place (place_laws.laws-law).refl

same_kind : Sound ValueType (kind_test.ghosts).eq
same_kind kind.Bool kind.Bool h = refl
same_kind (kind.Bit a) (kind.Bit u) h = ap kind.Bit (number a u h)
same_kind (kind.Int a) (kind.Int u) h = ap kind.Int (number a u h)
same_kind (kind.Uint a) (kind.Uint u) h = ap kind.Uint (number a u h)
same_kind (kind.Angle a) (kind.Angle u) h = ap kind.Angle (number a u h)
same_kind kind.Phase kind.Phase h = refl
same_kind _ _ h = absurd (false≢true h)

same_op : Sound Op (op_test.ghosts).eq
same_op op.Or op.Or h = refl
same_op op.Xor op.Xor h = refl
same_op op.And op.And h = refl
same_op op.Eq op.Eq h = refl
same_op op.Ne op.Ne h = refl
same_op op.Lt op.Lt h = refl
same_op op.Le op.Le h = refl
same_op op.Gt op.Gt h = refl
same_op op.Ge op.Ge h = refl
same_op op.Shl op.Shl h = refl
same_op op.Shr op.Shr h = refl
same_op op.Add op.Add h = refl
same_op op.Sub op.Sub h = refl
same_op op.Mul op.Mul h = refl
same_op op.Div op.Div h = refl
same_op op.Rem op.Rem h = refl
same_op op.Pow op.Pow h = refl
same_op op.Rotl op.Rotl h = refl
same_op op.Rotr op.Rotr h = refl
same_op _ _ h = absurd (false≢true h)

same_unary : Sound UnaryOp (unary_test.ghosts).eq
same_unary unary.Not unary.Not h = refl
same_unary unary.Turn unary.Turn h = refl
same_unary unary.Neg unary.Neg h = refl
same_unary unary.Popcount unary.Popcount h = refl
same_unary _ _ h = absurd (false≢true h)

-- ---- references, primitives, phases

same_qubit : Sound QubitRef (qubit_test.ghosts).eq
same_qubit (qubit.At a) (qubit.At u) h = ap qubit.At (number a u h)
same_qubit (qubit.Work a) (qubit.Work u) h = ap qubit.Work (number a u h)
same_qubit _ _ h = absurd (false≢true h)

qubit_decided : (x y : QubitRef) → Decides ((qubit_test.ghosts).eq x y) (x ≡ y)
qubit_decided = decided (qubit_test.ghosts).eq same_qubit (qubit_laws.laws-law).refl

same_angle : Sound AngleRef (angle_test.ghosts).eq
same_angle (angle.Eighth a) (angle.Eighth u) h = ap angle.Eighth (number a u h)
same_angle (angle.Work a b) (angle.Work u v) h = of_two angle.Work number flag a u b v h
same_angle _ _ h = absurd (false≢true h)

same_primitive : Sound Primitive (primitive_test.ghosts).eq
same_primitive (primitive.Turn a b c d e f) (primitive.Turn u v w x y z) h =
    let angles = (angle_test.ghosts).eq d x && ((angle_test.ghosts).eq e y && (angle_test.ghosts).eq f z) in
    let rest = (qubit_test.ghosts).eq c w && angles in
    let r = two_of (pointwise (qubit_test.ghosts).eq a u) (pointwise (qubit_test.ghosts).eq b v && rest) h in
    let q = two_of (pointwise (qubit_test.ghosts).eq b v) rest r.1 in
    ap (λ m. primitive.Turn m b c d e f) ((lists qubit_decided) a u r.0)
    ∙ ap (λ m. primitive.Turn u m c d e f) ((lists qubit_decided) b v q.0)
    ∙ of_four (primitive.Turn u v) same_qubit same_angle same_angle same_angle c w d x e y f z q.1
same_primitive (primitive.Phase a b c) (primitive.Phase u v w) h =
    of_three primitive.Phase (lists qubit_decided) (lists qubit_decided) same_angle a u b v c w h
same_primitive _ _ h = absurd (false≢true h)

same_argument : Sound AngleArg (argument_test.ghosts).eq
same_argument (argument.Units a) (argument.Units u) h = ap argument.Units (whole a u h)
same_argument (argument.Work a) (argument.Work u) h = ap argument.Work (number a u h)
same_argument _ _ h = absurd (false≢true h)

same_step : Sound AngleStep (step_test.ghosts).eq
same_step (step.Add a b) (step.Add u v) h = of_two step.Add same_argument same_argument a u b v h
same_step (step.Sub a b) (step.Sub u v) h = of_two step.Sub same_argument same_argument a u b v h
same_step (step.Neg a) (step.Neg u) h = ap step.Neg (same_argument a u h)
same_step (step.Times a b) (step.Times u v) h = of_two step.Times same_argument whole a u b v h
same_step (step.Over a b) (step.Over u v) h = of_two step.Over same_argument whole a u b v h
same_step _ _ h = absurd (false≢true h)

abbrev make_operand : ℕ → ValueType → Operand
make_operand cell kind = record { cell = cell; kind = kind }

same_operand : Sound Operand (operand_test.ghosts).eq
same_operand x y h = of_two make_operand number same_kind x.cell y.cell x.kind y.kind h

same_phase : Sound AngleOperation (phase_test.ghosts).eq
same_phase (phase.Step a) (phase.Step u) h = ap phase.Step (same_step a u h)
same_phase (phase.OfAngle a) (phase.OfAngle u) h = ap phase.OfAngle (same_operand a u h)
same_phase (phase.Product a b) (phase.Product u v) h = of_two phase.Product same_argument same_operand a u b v h
same_phase (phase.Quotient a b) (phase.Quotient u v) h = of_two phase.Quotient same_argument same_operand a u b v h
same_phase (phase.NoRest a) (phase.NoRest u) h = ap phase.NoRest (same_operand a u h)
same_phase _ _ h = absurd (false≢true h)

-- ---- instructions

same_operation : Sound Operation (operation_test.ghosts).eq
same_operation (operation.Unary a b) (operation.Unary u v) h = of_two operation.Unary same_unary same_operand a u b v h
same_operation (operation.Binary a b c) (operation.Binary u v w) h =
    of_three operation.Binary same_op same_operand same_operand a u b v c w h
same_operation _ _ h = absurd (false≢true h)

same_store : Sound Store (store_test.ghosts).eq
same_store store.Nowhere store.Nowhere h = refl
same_store (store.Bit a b) (store.Bit u v) h = of_two store.Bit number number a u b v h
same_store (store.BitAt a b) (store.BitAt u v) h = of_two store.BitAt number number a u b v h
same_store _ _ h = absurd (false≢true h)

same_instr : Sound Instr (instr_test.ghosts).eq
same_instr instr.Tick instr.Tick h = refl
same_instr (instr.Load a b) (instr.Load u v) h = of_two instr.Load number number a u b v h
same_instr (instr.Get a b) (instr.Get u v) h = of_two instr.Get number number a u b v h
same_instr (instr.Put a b) (instr.Put u v) h = of_two instr.Put number number a u b v h
same_instr (instr.GetAt a b c d) (instr.GetAt u v w x) h = of_four instr.GetAt number number number same_operand a u b v c w d x h
same_instr (instr.PutAt a b c d) (instr.PutAt u v w x) h = of_four instr.PutAt number number same_operand number a u b v c w d x h
same_instr (instr.BitGet a b c) (instr.BitGet u v w) h = of_three instr.BitGet number same_operand same_operand a u b v c w h
same_instr (instr.BitPut a b c) (instr.BitPut u v w) h = of_three instr.BitPut same_operand same_operand number a u b v c w h
same_instr (instr.Apply a b) (instr.Apply u v) h = of_two instr.Apply number same_operation a u b v h
same_instr (instr.Cast a b c) (instr.Cast u v w) h = of_three instr.Cast number same_operand same_kind a u b v c w h
same_instr (instr.Turns a b c d) (instr.Turns u v w x) h =
    of_four instr.Turns number same_operand same_operand same_operand a u b v c w d x h
same_instr (instr.AngleOp a b) (instr.AngleOp u v) h = of_two instr.AngleOp number same_phase a u b v h
same_instr (instr.Qubit a b c) (instr.Qubit u v w) h = of_three instr.Qubit number numbers same_operand a u b v c w h
same_instr (instr.Distinct a) (instr.Distinct u) h = ap instr.Distinct ((lists qubit_decided) a u h)
same_instr (instr.Gate a) (instr.Gate u) h = ap instr.Gate (same_primitive a u h)
same_instr (instr.Measure a b) (instr.Measure u v) h = of_two instr.Measure same_qubit same_store a u b v h
same_instr (instr.Reset a) (instr.Reset u) h = ap instr.Reset (same_qubit a u h)
same_instr (instr.Jump a) (instr.Jump u) h = ap instr.Jump (number a u h)
same_instr (instr.JumpIf a b) (instr.JumpIf u v) h = of_two instr.JumpIf number number a u b v h
same_instr instr.End instr.End h = refl
same_instr _ _ h = absurd (false≢true h)

instr_decided : (x y : Instr) → Decides ((instr_test.ghosts).eq x y) (x ≡ y)
instr_decided = decided (instr_test.ghosts).eq same_instr (instr_laws.laws-law).refl

-- ---- parts

abbrev make_field : List ℕ → ValueType → ℕ → List ℕ → Field
make_field name kind slot lengths = record { name = name; kind = kind; slot = slot; lengths = lengths }

same_fields : Sound Field same_field
same_fields x y h = of_four make_field numbers same_kind number numbers x.name y.name x.kind y.kind x.slot y.slot x.lengths y.lengths h

field_decided : (x y : Field) → Decides (same_field x y) (x ≡ y)
field_decided = decided same_field same_fields (field_laws.laws-law).refl

abbrev make_parts : List Instr → List Place → ℕ → ℕ → ℕ → List ℕ → List Field → Place → Parts
make_parts instructions places qubits slots cells start layout end =
    record {
      instructions = instructions;
      places = places;
      qubits = qubits;
      slots = slots;
      cells = cells;
      start = start;
      layout = layout;
      end = end;
    }

parts_sound : Sound Parts same_parts
parts_sound x y h =
    let last = pointwise nat_eq x.start y.start && (pointwise same_field x.layout y.layout && (place_test.ghosts).eq x.end y.end) in
    let sizes = nat_eq x.qubits y.qubits && (nat_eq x.slots y.slots && (nat_eq x.cells y.cells && last)) in
    let r = two_of (pointwise (instr_test.ghosts).eq x.instructions y.instructions)
    (pointwise (place_test.ghosts).eq x.places y.places && sizes) h in
    let q = two_of (pointwise (place_test.ghosts).eq x.places y.places) sizes r.1 in
    let a = lists instr_decided x.instructions y.instructions r.0 in
    let b = lists place_decided x.places y.places q.0 in
    let c = two_of (nat_eq x.qubits y.qubits) (nat_eq x.slots y.slots && (nat_eq x.cells y.cells && last)) q.1 in
    let d = two_of (nat_eq x.slots y.slots) (nat_eq x.cells y.cells && last) c.1 in
    let e = number x.qubits y.qubits c.0 in
    let f = number x.slots y.slots d.0 in
    ap (λ m. make_parts m x.places x.qubits x.slots x.cells x.start x.layout x.end) a
    ∙ ap (λ m. make_parts y.instructions m x.qubits x.slots x.cells x.start x.layout x.end) b
    ∙ ap (λ m. make_parts y.instructions y.places m x.slots x.cells x.start x.layout x.end) e
    ∙ ap (λ m. make_parts y.instructions y.places y.qubits m x.cells x.start x.layout x.end) f
    ∙ of_four (make_parts y.instructions y.places y.qubits y.slots) number numbers (lists field_decided) same_place x.cells y.cells
    x.start y.start x.layout y.layout x.end y.end d.1

pub parts_decided : (x y : Parts) → Decides (same_parts x y) (x ≡ y)
parts_decided = decided same_parts parts_sound (parts_laws.laws-law).refl
