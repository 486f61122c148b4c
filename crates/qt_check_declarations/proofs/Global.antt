-- A global constant is seen inside of subroutines and gates; another one isn't.
use Rattle.std.proofs.Common.{◌≡◌, true, false, if◌then◌else◌, ap}
use Rattle.qt_const_rules.specs.declared.consts.Known.TheVariants as known
use Rattle.qt_names.specs.Entries.{Name}
use Rattle.qt_names.specs.Scopes.{is_outermost}
use Rattle.qt_tree.specs.declared.place.Place.{Place}
use Rattle.qt_typing.specs.Declarations.{constant_named, declare_constant}
use Rattle.qt_typing.specs.Environment.{declare, declare_in_both, is_global}
use Rattle.qt_typing.specs.declared.state.State.{State}
use Rattle.qt_value.specs.declared.constant.ConstValue.{ConstValue}
use Rattle.qt_value.specs.declared.types.ValueType.{ValueType}

module _ (place : Place) (name : Name) (kind : ValueType) (c : ConstValue) (s : State) where
  pub declared_in_both : is_outermost s.names.scopes ≡ true
      → declare_constant place name kind c s ≡ declare_in_both place name (constant_named kind) (known.Constant c) s
  unfolding declare_constant is_global
  declared_in_both h =
      ap (λ t. (if t then declare_in_both place name (constant_named kind) (known.Constant c) else declare place name (constant_named kind) (known.Constant c)) s) h

  pub declared_alone : is_outermost s.names.scopes ≡ false
      → declare_constant place name kind c s ≡ declare place name (constant_named kind) (known.Constant c) s
  unfolding declare_constant is_global
  declared_alone h =
      ap (λ t. (if t then declare_in_both place name (constant_named kind) (known.Constant c) else declare place name (constant_named kind) (known.Constant c)) s) h
