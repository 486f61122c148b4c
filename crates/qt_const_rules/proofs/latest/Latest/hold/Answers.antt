use Rattle.std.proofs.Common.{◌≡◌, ◌∙◌, ◌++◌, [], ◌∷◌, None, Some, Option, true, false, true≢false, refl, is_some, nat_eq, string_bytes, sym, ap}
use Rattle.std.specs.Cmp.Lexicographic.{pointwise}
use Rattle.std.specs.Map.{lookup}
use Rattle.indexmap.proofs.CallerLemmas.{insert_entry-new}
use Rattle.qt_const_rules.specs.Latest.{is_marked, marks_of, place_in}
use Rattle.qt_const_rules.proofs.Marks.{lookup_marked, marks_of-push, place_in-new, is_marked-new}
use Rattle.qt_const_rules.proofs.latest.Latest.hold.Goals as goal

pub returns-then-contains_key-clause-held : goal.returns-then-contains_key-clause-held
returns-then-contains_key-clause-held c =
    ap (λ marks. is_marked marks c.args.name.now) (sym c.self.view_is)
    ∙ sym (lookup_marked c.args.name.now c.self.inside.places.entries)
    ∙ sym c.contains_key.ensures
    ∙ c.if-contains_key.true

nothing : {A : Type 0} (o : Option A) → is_some o ≡ false → o ≡ None
nothing None is = refl
nothing (Some x) is = absurd (true≢false is)

-- the map has one more mark at its end
added : (c : goal.In_ok-insert) → marks_of c.insert.new.self.entries ≡ c.args.self.now ++ (c.args.name.now, None) ∷ []
added c =
    let map = c.self.inside.places in
    let key = c.in_ok-name.name in
    let absent : lookup (λ k. pointwise nat_eq (string_bytes key) (string_bytes k)) map.entries ≡ None =
    ap (λ name. lookup (λ k. pointwise nat_eq name (string_bytes k)) map.entries) c.in_ok-name.ensures.ok
    ∙ nothing (lookup (λ k. pointwise nat_eq c.args.name.now (string_bytes k)) map.entries) (sym c.contains_key.ensures ∙ c.if-contains_key.false)
    in
    ap marks_of (c.in_ok-insert.ensures.entries ∙ insert_entry-new (λ a b. pointwise nat_eq (string_bytes a) (string_bytes b)) map key None absent)
    ∙ marks_of-push map.entries (key, None)
    ∙ ap (λ marks. marks ++ (string_bytes key, None) ∷ []) c.self.view_is
    ∙ ap (λ name. c.args.self.now ++ (name, None) ∷ []) c.in_ok-name.ensures.ok

pub returns-clause-places : goal.returns-clause-places
returns-clause-places c other =
    ap (λ marks. place_in marks other) (added c) ∙ place_in-new c.args.self.now c.args.name.now other

pub returns-clause-held : goal.returns-clause-held
returns-clause-held c =
    ap (λ marks. is_marked marks c.args.name.now) (added c) ∙ is_marked-new c.args.self.now c.args.name.now None
