-- The refusals of constants: OpenQASM 3.0 live specification, "Types and Casting", compile-time constants; Cross et al. 2022.
-- E8 names the name, E10 is a type that doesn't fit, E11 a subroutine's call, E14 tells numbers of arguments, and E12 says why there is no
-- constant.
use Rattle.qt_tree.specs.declared.place.Place.{Place}
use Rattle.qt_tree.specs.declared.refusal.Cause.TheVariants.{Exact, Call}
use Rattle.qt_tree.specs.declared.refusal.TextRefusal.{TextRefusal}
use Rattle.qt_tree.specs.declared.refusal.TextRefusal.TheVariants as refusal
use Rattle.qt_const_rules.specs.declared.fault.ConstFault.{ConstFault}
use Rattle.qt_const_rules.specs.declared.fault.ConstFault.TheVariants as fault

-- the refusal of a text with the expression or the type at this place, which has this fault
abbrev pub refusal_of : Place → ConstFault → TextRefusal
refusal_of place (fault.Name name) = refusal.E8 place name
refusal_of place fault.Type = refusal.E10 place
refusal_of place fault.Rest = refusal.E12 place Exact
refusal_of place fault.Call = refusal.E11 place Call
refusal_of place (fault.Arity wanted given) = refusal.E14 place wanted given
refusal_of place (fault.Const cause) = refusal.E12 place cause
