use Rattle.std.proofs.Common.{◌≡◌, Some, None, slice_get, ◌∙◌, ap, subst, sym}
use Rattle.std.specs.Option.{option_map}
use Rattle.qt_const_rules.specs.Latest.{entries_of, last_at}
use Rattle.qt_const_rules.specs.Names.{known_of}
use Rattle.qt_const_rules.proofs.Links.{known_none, known_some}
use Rattle.qt_const_rules.proofs.consts.Consts.known.Goals as goal

pub returns-in-Some : goal.returns-in-Some
returns-in-Some c =
    let kept = c.self.inside.kept.items in
    let name = c.args.name.now in
    let at : last_at (entries_of kept) name ≡ Some c.in-Some.place = sym (c.self.invariant.places name) ∙ sym c.place.ensures ∙ c.in-Some.is in
    c.known_at.ensures
    ∙ ap (λ l. option_map (λ entry. entry.known) (slice_get (entries_of l) c.in-Some.place)) c.as_slice.ensures.value
    ∙ sym (known_some (entries_of kept) name c.in-Some.place at)
    ∙ ap (λ l. known_of l name) c.self.view_is

pub returns-in-None : goal.returns-in-None
returns-in-None c =
    let kept = c.self.inside.kept.items in
    let name = c.args.name.now in
    let at : last_at (entries_of kept) name ≡ None = sym (c.self.invariant.places name) ∙ sym c.place.ensures ∙ c.in-None.is in
    sym (known_none (entries_of kept) name at) ∙ ap (λ l. known_of l name) c.self.view_is
