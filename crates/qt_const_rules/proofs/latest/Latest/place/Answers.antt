use Rattle.std.proofs.Common.{◌∙◌, sym, ap}
use Rattle.std.specs.Option.{option_copied}
use Rattle.qt_const_rules.specs.Latest.{place_in}
use Rattle.qt_const_rules.proofs.Marks.{lookup_place, said}
use Rattle.qt_const_rules.proofs.latest.Latest.place.Goals as goal

pub returns-in-Some : goal.returns-in-Some
unfolding said
returns-in-Some c =
    ap said (sym (ap option_copied c.in-Some.is) ∙ c.get.ensures.value)
    ∙ lookup_place c.args.name.now c.self.inside.places.entries
    ∙ ap (λ marks. place_in marks c.args.name.now) c.self.view_is

pub returns-in-None : goal.returns-in-None
unfolding said
returns-in-None c =
    ap said (sym (ap option_copied c.in-None.is) ∙ c.get.ensures.value)
    ∙ lookup_place c.args.name.now c.self.inside.places.entries
    ∙ ap (λ marks. place_in marks c.args.name.now) c.self.view_is
