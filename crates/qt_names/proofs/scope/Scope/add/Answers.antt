use Rattle.std.proofs.Common.{◌≡◌, ◌∙◌, ◌++◌, [], ◌∷◌, None, nat_eq, string_bytes, ap}
use Rattle.std.specs.Cmp.Lexicographic.{pointwise}
use Rattle.std.specs.Map.{lookup}
use Rattle.indexmap.proofs.CallerLemmas.{insert_entry-new}
use Rattle.qt_names.specs.Entries.{entries_of, entry_of}
use Rattle.qt_names.specs.Scopes.{found_in}
use Rattle.qt_names.proofs.Kept.{lookup_found, entries_of-push}
use Rattle.qt_names.proofs.scope.Scope.add.Goals as goal

pub returns-clause-ok : goal.returns-clause-ok
returns-clause-ok c =
    let map = c.self.inside.names in
    let key = c.in_ok-name.name in
    let value = c.args.named in
    let absent : lookup (λ k. pointwise nat_eq (string_bytes key) (string_bytes k)) map.entries ≡ None =
    lookup_found (string_bytes key) map.entries
    ∙ ap (λ scope. found_in scope (string_bytes key)) c.self.view_is
    ∙ ap (found_in c.args.self.now) c.in_ok-name.ensures.ok
    ∙ c.requires
    in
    ap entries_of (c.in_ok-insert.ensures.entries ∙ insert_entry-new (λ a b. pointwise nat_eq (string_bytes a) (string_bytes b)) map key value absent)
    ∙ entries_of-push map.entries (key, value)
    ∙ ap (λ scope. scope ++ entry_of (key, value) ∷ []) c.self.view_is
    ∙ ap (λ name. c.args.self.now ++ (record { name = name; named = value }) ∷ []) c.in_ok-name.ensures.ok
