-- Lists by the places of their elements.
use Rattle.std.proofs.Common.{◌≡◌, ℕ, ◌+◌, ◌<◌, List, [], ◌∷◌, ◌++◌, length, take, get_or, map, Option, None, refl, sym, ap, ◌∙◌}
use Rattle.std.proofs.lemmas.List.{take_more}
use Rattle.std.proofs.lemmas.Option.{unwrap_or-slice_get}
use Rattle.std.specs.Prelude.{slice_get, unwrap_or}
use Rattle.qt_typed.specs.declared.expression.TypedPhase.{TypedPhase}
use Rattle.qt_modify.specs.Calls.{argument_of, fixed_phase}
use Rattle.qt_fixed_angles.specs.declared.wrong.WrongAngle.{WrongAngle}
use Rattle.qt_fixed_angles.specs.Reached.{arguments_of, angle_in}

last_argument : (ps : List TypedPhase) (p : TypedPhase) → arguments_of (ps ++ p ∷ []) ≡ arguments_of ps ++ argument_of (fixed_phase p) 0 ∷ []
last_argument [] p = refl
last_argument (x ∷ ps) p = ap (λ t. argument_of (fixed_phase x) 0 ∷ t) (last_argument ps p)

pub one_more_argument : (ps : List TypedPhase) (n : ℕ) (p : TypedPhase) → n < length ps → p ≡ get_or ps n p
    → arguments_of (take n ps) ++ argument_of (fixed_phase p) 0 ∷ [] ≡ arguments_of (take (n + 1) ps)
one_more_argument ps n p h e =
    let t : take (n + 1) ps ≡ take n ps ++ p ∷ [] = take_more ps n p h ∙ ap (λ x. take n ps ++ x ∷ []) (sym e) in
    sym (ap arguments_of t ∙ last_argument (take n ps) p)

pub angle_found : (known : List (Option WrongAngle)) (i : ℕ) → unwrap_or (slice_get known i) None ≡ angle_in known i
angle_found known i = unwrap_or-slice_get known i None
