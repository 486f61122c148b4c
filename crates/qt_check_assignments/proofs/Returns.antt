-- `return`, by what stands around it and whether it has a value.
use Rattle.std.proofs.Common.{◌≡◌, Option, Some, None, Ok, Err, refl}
use Rattle.qt_tree.specs.declared.place.Place.{Place}
use Rattle.qt_tree.specs.declared.refusal.Cause.TheVariants as cause
use Rattle.qt_tree.specs.declared.refusal.TextRefusal.TheVariants as refusal
use Rattle.qt_tree.specs.declared.statement.Right.{Right}
use Rattle.qt_typed.specs.declared.statement.TypedAction.TheVariants as action
use Rattle.qt_value.specs.declared.types.ValueType.{ValueType}
use Rattle.qt_typing.specs.declared.state.Returns.TheVariants as returns
use Rattle.qt_typing.specs.declared.state.State.{State}
use Rattle.qt_typing.specs.Environment.{◌>>=◌, pure}
use Rattle.qt_typing.specs.Calls.{right_at}
use Rattle.qt_typing.specs.Statements.{return}

module _ (place : Place) (s : State) where
  pub nothing_is : return place returns.Nothing None s ≡ Ok (action.Return None, s)
  unfolding return
  nothing_is = refl

  pub value_is : (kind : ValueType) (value : Right) → return place (returns.Value kind) (Some value) s
      ≡ (right_at place kind value >>= (λ form. pure (action.Return (Some form)))) s
  unfolding return
  value_is kind value = refl

  pub without_value : (kind : ValueType)
      → return place (returns.Value kind) None s ≡ Err (refusal.E11 place cause.Return)
  unfolding return
  without_value kind = refl

  pub with_value : (value : Right)
      → return place returns.Nothing (Some value) s ≡ Err (refusal.E11 place cause.Return)
  unfolding return
  with_value value = refl

  pub nowhere : (value : Option Right)
      → return place returns.Nowhere value s ≡ Err (refusal.E11 place cause.Return)
  unfolding return
  nowhere value = refl

pub ruleset returns_are = (nothing_is, value_is, without_value, with_value, nowhere)
