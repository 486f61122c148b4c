use Rattle.std.proofs.Common.{◌≡◌, ◌++◌, [], ◌∷◌, nat_eq, cond, true, ◌∙◌, ap, subst, sym}
use Rattle.std.specs.Cmp.Lexicographic.{pointwise}
use Rattle.qt_const_rules.specs.Latest.{IsIndexed, is_marked, place_in}
use Rattle.qt_const_rules.proofs.Links.{indexed-pop, last-marked}
use Rattle.qt_const_rules.proofs.consts.Consts.take_back.Goals as goal

pub set-requires : goal.set-requires
set-requires c =
    let was = subst (λ kept. IsIndexed kept c.self.inside.latest) c.in-Some.ensures.items c.self.invariant in
    ap (λ name. is_marked c.self.inside.latest name) c.text.ensures ∙ last-marked c.pop.new.self.items c.self.inside.latest c.in-Some.last was

pub invariant_of-self : goal.invariant_of-self
invariant_of-self c =
    let was = subst (λ kept. IsIndexed kept c.self.inside.latest) c.in-Some.ensures.items c.self.invariant in
    let last = c.in-Some.last in
    indexed-pop c.pop.new.self.items c.self.inside.latest c.set.new.self last was
    (λ name. c.set.ensures name ∙ ap (λ n. cond (pointwise nat_eq n name) last.earlier (place_in c.self.inside.latest name)) c.text.ensures)

pub invariant_of-self-in-Some-2 : goal.invariant_of-self-in-Some-2
invariant_of-self-in-Some-2 c =
    let was = subst (λ kept. IsIndexed kept c.self.inside.latest) c.in-Some.ensures.items c.self.invariant in
    let last = c.in-Some.last in
    indexed-pop c.pop.new.self.items c.self.inside.latest c.set.new.self last was
    (λ name. c.set.ensures name ∙ ap (λ n. cond (pointwise nat_eq n name) last.earlier (place_in c.self.inside.latest name)) c.text.ensures)
