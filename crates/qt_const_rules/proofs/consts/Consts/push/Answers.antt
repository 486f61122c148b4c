use Rattle.std.proofs.Common.{◌≡◌, length, Some, nat_eq, cond, ◌∙◌, ap, subst, sym}
use Rattle.std.specs.Cmp.Lexicographic.{pointwise}
use Rattle.qt_const_rules.specs.Latest.{IsIndexed, place_in}
use Rattle.qt_const_rules.specs.declared.consts.Kept.{Kept}
use Rattle.qt_const_rules.proofs.Links.{indexed-push}
use Rattle.qt_const_rules.proofs.consts.Consts.push.Goals as goal

pub invariant_of-self-2 : goal.invariant_of-self-2
invariant_of-self-2 c =
    let kept = c.self.inside.kept.items in
    let held = c.hold.new.self in
    let label = c.in_ok-new.field-0 in
    let it : Kept = record { entry = record { name = label; known = c.args.known }; earlier = c.place-earlier.result } in
    subst (λ l. IsIndexed l c.set.new.self) (sym c.in_ok-push.ensures.items)
    (indexed-push kept c.self.inside.latest held c.set.new.self it c.self.invariant
    c.hold.ensures.places
    (c.place-earlier.ensures ∙ ap (λ name. place_in held name) (sym c.in_ok-new.ensures))
    (λ name. c.set.ensures name
    ∙ ap (λ n. cond (pointwise nat_eq n name) (Some c.len-place.result) (place_in held name)) (sym c.in_ok-new.ensures)
    ∙ ap (λ n. cond (pointwise nat_eq label name) (Some n) (place_in held name)) (c.len-place.ensures ∙ c.self.inside.kept.ok.0)))
