use Rattle.std.proofs.Common.{◌≡◌, ap, subst, map, string_bytes, [], ◌∷◌}
use Rattle.qt_words.specs.Requests.{IsNoMode}
use Rattle.qt_words.proofs.Words.{two_items, no_service}
use Rattle.qt_words.proofs.request.request_of.Goals as goal

pub returns-in-None : goal.returns-in-None
returns-in-None c =
    let given = c.args.words.now in
    let mode = c.mode-item.result in
    let name = c.name-item.result in
    let two = two_items given mode name c.in-len2.len_at_least c.in-len2.len_below c.mode-item.is c.name-item.is in
    let words : map string_bytes given ≡ string_bytes mode ∷ string_bytes name ∷ [] = ap (map string_bytes) two in
    let none = subst IsNoMode c.as_str.ensures.value c.in-None.ensures in
    no_service (map string_bytes given) (string_bytes mode) (string_bytes name) words none
