use Rattle.std.proofs.Common.{◌≡◌, ◌∙◌, cond, nat_eq, true, is_some, true≢false, sym, ap}
use Rattle.std.specs.Cmp.Lexicographic.{pointwise}
use Rattle.std.specs.Option.{option_copied_mut}
use Rattle.qt_const_rules.specs.Latest.{is_marked, marks_of, place_in}
use Rattle.qt_const_rules.proofs.Marks.{lookup_marked, set_place}
use Rattle.qt_const_rules.proofs.latest.Latest.set.Goals as goal
use Rattle.qt_const_rules.proofs.latest.Latest.set.Goals.{in-Some, in_default}

pub returns : goal.returns
returns c other = elim c.match-get_mut.branch [
  | in-Some w ↦
      let map = c.self.inside.places in
      let name = c.args.name.now in
      let held : is_marked (marks_of map.entries) name ≡ true = ap (λ marks. is_marked marks name) c.self.view_is ∙ c.requires in
      let written = c.get_mut.follows.holds c.args.place in
      ap (λ inside. place_in (marks_of inside.places.entries) other) w.self-inside-is
      ∙ ap (λ entries. place_in (marks_of entries) other) written.0
      ∙ set_place name other c.args.place map.entries held
      ∙ ap (λ marks. cond (pointwise nat_eq name other) c.args.place (place_in marks other)) c.self.view_is
  | in_default w ↦
      let map = c.self.inside.places in
      let name = c.args.name.now in
      absurd (true≢false (sym c.requires ∙ ap (λ marks. is_marked marks name) (sym c.self.view_is) ∙ sym (lookup_marked name map.entries) ∙ ap is_some (sym c.get_mut.ensures.value ∙ ap option_copied_mut w.in_default.is)))
]
