-- What a statement sees, where it is sound (OpenQASM 3.0 live specification, "Types and Casting" and "Scoping of variables"; Cross et al.
-- 2022): each variable in scope is kept in slots of the frame and has a type with a size, and so has each constant.
use Rattle.std.specs.Prelude.{◌≡◌, ℕ, ◌<◌, IsTrue, List, [], ◌∷◌, Some}
use Rattle.qt_const_rules.specs.declared.consts.Entry.{Entry}
use Rattle.qt_const_rules.specs.declared.consts.Known.{Known}
use Rattle.qt_const_rules.specs.declared.consts.Known.TheVariants as known
use Rattle.qt_names.specs.Entries as scope
use Rattle.qt_names.specs.declared.named.Named.{Named}
use Rattle.qt_value.specs.Types.{has_size, is_whole}
use Rattle.qt_value.specs.declared.constant.ConstValue.{ConstValue}
use Rattle.qt_value.specs.declared.constant.ConstValue.TheVariants as constant
use Rattle.qt_typed.specs.Types.{type_of}
use Rattle.qt_typed.specs.declared.expression.TypedPhase.{TypedPhase, end_of-TypedPhase, more_of-TypedPhase}
use Rattle.qt_typed.specs.declared.expression.TypedPhase.TheVariants.{Fixed, Angle, Neg', Add', Sub', Times', Scaled', Over'}
use Rattle.qt_code.specs.Ranges.{is_angle}
use Rattle.qt_flat_expressions.specs.Fits.{ArrayFits, ExpressionFits}
use Rattle.qt_typing.specs.Expressions.{storage_of}
use Rattle.qt_typing.specs.declared.indexes.Storage.{Storage}
use Rattle.qt_typing.specs.declared.names.Names.{Names}
use Rattle.qt_typing.specs.declared.operand.Operand.{Operand}
use Rattle.qt_typing.specs.declared.operand.Operand.TheVariants as operand

-- ---- what is in scope

-- one slot of the frame, or those of an array's elements
abbrev pub RoomFits : ℕ → ℕ → List ℕ → Type 0
RoomFits slots slot [] = slot < slots
RoomFits slots slot (n ∷ lengths) = ArrayFits slots slot (n ∷ lengths)

abbrev pub StorageFits : ℕ → Storage → Type 0
StorageFits slots it = IsTrue (has_size it.kind) × RoomFits slots it.slot it.lengths

-- what stands for a value is kept in the frame
abbrev pub NamedFits : ℕ → Named → Type 0
NamedFits slots it = (kept : Storage) → storage_of it ≡ Some kept → StorageFits slots kept

-- each name in a scope, and in all scopes, stands for what fits
abbrev pub InScope : (Named → Type 0) → List scope.Entry → Type 0
InScope P [] = Unit {0}
InScope P (entry ∷ rest) = P entry.named × InScope P rest

abbrev pub InScopes : (Named → Type 0) → List (List scope.Entry) → Type 0
InScopes P [] = Unit {0}
InScopes P (inner ∷ outer) = InScope P inner × InScopes P outer

-- a constant that is a value has a type with a size
abbrev pub ConstantFits : ConstValue → Type 0
ConstantFits (constant.Value x) = IsTrue (has_size x.kind)
ConstantFits (constant.Phase p) = Unit {0}

abbrev pub KnownFits : Known → Type 0
KnownFits (known.Constant c) = ConstantFits c
KnownFits _ = Unit {0}

abbrev pub ConstantsFit : List Entry → Type 0
ConstantsFit [] = Unit {0}
ConstantsFit (entry ∷ later) = KnownFits entry.known × ConstantsFit later

-- the names in scope, in a frame of so many slots
abbrev pub NamesFit : ℕ → Names → Type 0
NamesFit slots names = InScopes (NamedFits slots) names.scopes × ConstantsFit names.consts

-- ---- what an expression is typed as

-- a phase is made of angles and whole numbers that fit
abbrev pub PhaseFits : ℕ → TypedPhase → Type 0
PhaseFits slots (Fixed phase) = Unit {0}
PhaseFits slots (Angle operand) = ExpressionFits slots operand × IsTrue (is_angle (type_of operand))
PhaseFits slots (Neg' k (more_of-TypedPhase operand end_of-TypedPhase)) = PhaseFits slots operand
PhaseFits slots (Add' k (more_of-TypedPhase left end_of-TypedPhase) m (more_of-TypedPhase right end_of-TypedPhase)) =
    PhaseFits slots left × PhaseFits slots right
PhaseFits slots (Sub' k (more_of-TypedPhase left end_of-TypedPhase) m (more_of-TypedPhase right end_of-TypedPhase)) =
    PhaseFits slots left × PhaseFits slots right
PhaseFits slots (Times' k (more_of-TypedPhase phase end_of-TypedPhase) number) =
    PhaseFits slots phase × ExpressionFits slots number × IsTrue (is_whole (type_of number))
PhaseFits slots (Scaled' number k (more_of-TypedPhase phase end_of-TypedPhase)) =
    PhaseFits slots phase × ExpressionFits slots number × IsTrue (is_whole (type_of number))
PhaseFits slots (Over' k (more_of-TypedPhase phase end_of-TypedPhase) number) =
    PhaseFits slots phase × ExpressionFits slots number × IsTrue (is_whole (type_of number))

-- a value that fits, of the type that it is told to have; or a phase that fits
abbrev pub OperandFits : ℕ → Operand → Type 0
OperandFits slots (operand.Value kind form) = ExpressionFits slots form × (type_of form ≡ kind)
OperandFits slots (operand.Phase form) = PhaseFits slots form
