-- The refusals of constants are those of the typing.
use Rattle.std.proofs.Common.{◌≡◌, ◌≢◌, inl, inr, Ok, Err, false, refl, sym, ap}
use Rattle.qt_const.specs.Refusals.{RefusesAt}
use Rattle.qt_const_rules.specs.Answers.{Answer}
use Rattle.qt_const_rules.specs.declared.fault.ConstFault.TheVariants as fault
use Rattle.qt_tree.specs.declared.place.Place.{Place}
use Rattle.qt_tree.specs.declared.refusal.TextRefusal.{TextRefusal}
use Rattle.qt_tree.specs.declared.refusal.TextRefusal.TheVariants as refusal
use Rattle.qt_value.specs.declared.constant.ConstValue.{ConstValue}
use Rattle.qt_typing.specs.Checked.{answer_at}
use Rattle.qt_typing.specs.Conversions.{is_zero_answer}

pub refusal_gives : {A : Type 0} (place : Place) (a : Answer A) (e : TextRefusal) → RefusesAt place a e → e ≢ refusal.OutOfMemory
    → answer_at place a ≡ Err e
refusal_gives place (Ok c) e h n = absurd h
refusal_gives place (Err (fault.Name name)) e (inl h) n = ap Err (sym h)
refusal_gives place (Err (fault.Name name)) e (inr h) n = absurd (n h)
refusal_gives place (Err fault.Type) e h n = ap Err (sym h)
refusal_gives place (Err fault.Rest) e h n = ap Err (sym h)
refusal_gives place (Err fault.Call) e h n = ap Err (sym h)
refusal_gives place (Err (fault.Arity wanted given)) e h n = ap Err (sym h)
refusal_gives place (Err (fault.Const cause)) e h n = ap Err (sym h)

-- what is refused is no 0
pub refused_is_no_zero : (place : Place) (a : Answer ConstValue) (e : TextRefusal) → RefusesAt place a e → is_zero_answer a ≡ false
refused_is_no_zero place (Ok c) e h = absurd h
refused_is_no_zero place (Err f) e h = refl
