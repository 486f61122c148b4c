-- An expansion has as many primitives as its call.
use Rattle.std.proofs.Common.{ℕ, List, length, map, refl, sym, ap, ◌∙◌}
use Rattle.std.proofs.lemmas.List.{length-map}
use Rattle.qt_gate_calls.specs.Primitives.{Primitive, no_controls}
use Rattle.qt_gate_calls.specs.Stopped.{stopped}
use Rattle.qt_instructions.specs.declared.reference.QubitRef.{QubitRef}
use Rattle.qt_modify.specs.Reckoning.{none_known}
use Rattle.qt_modify.specs.Calls.{use_expansion}
use Rattle.qt_modify.proofs.Lengths.{primitives_counted}
use Rattle.qt_modify_laws.specs.Laws.{held_in, primitive_at, ExpansionsHaveTheirCount}
use Rattle.qt_modify_laws.proofs.Expanding.{fixed_angles_are_known}

no_place : QubitRef → ℕ
no_place q = 0

pub expansions_have_their_count : ExpansionsHaveTheirCount
unfolding no_place
expansions_have_their_count used given qs first =
    ap stopped (sym (length-map (use_expansion used given qs first).primitives (primitive_at no_place none_known)))
    ∙ ap (λ (ps : List Primitive). stopped (length ps)) (fixed_angles_are_known no_place refl used given qs first)
    ∙ primitives_counted used.gates used.modifiers used.gate (map (held_in none_known) given) no_controls (map no_place qs)
