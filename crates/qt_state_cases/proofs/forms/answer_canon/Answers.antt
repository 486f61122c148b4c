use Rattle.std.proofs.Common.{◌≡◌, ◌&&◌, List, [], ◌∷◌, refl, sym, ap, ◌∙◌}
use Rattle.std.specs.List.{list_all}
use Rattle.qt_ring.specs.declared.omega.Omega.{Omega}
use Rattle.qt_ring.specs.Ring.{is_nil}
use Rattle.qt_ring.specs.State.{all_nil}
use Rattle.qt_state_cases.proofs.forms.answer_canon.Goals as goal

all_nil-list_all : (es : List Omega) → all_nil es ≡ list_all is_nil es
all_nil-list_all [] = refl
all_nil-list_all (e ∷ es) = ap (λ b. is_nil e && b) (all_nil-list_all es)

pub canon-requires-clause-some : goal.canon-requires-clause-some
canon-requires-clause-some c =
    ap all_nil c.as_mut_slice.ensures.value ∙ all_nil-list_all c.read-entries.result.entries.items
    ∙ ap (list_all is_nil) (sym c.as_slice.ensures.value) ∙ sym c.are_all_zero.ensures ∙ c.if-are_all_zero.false
