use Rattle.std.proofs.Common.{rules, reverse, ◌≡◌, None, true, false, ap, ◌∙◌}
use Rattle.qt_includes.specs.Includes.{include_of, fits, too_many}
use Rattle.qt_includes.proofs.Placed.{stays_advanced, begun_stops, text_advanced, ended, stops_all}
use Rattle.qt_includes.proofs.placing.+placing.Goals as goal

pub place_item-returns-clause-placed : goal.place_item-returns-clause-placed
place_item-returns-clause-placed g t c = λ texts told.
    let none : include_of c.args.item ≡ None = search rules in
    stays_advanced texts c.args.depth c.args.item c.args.gathered.now _ none (ap (λ items. record c.args.gathered.now { items = items }) c.in_ok-push.ensures.ok)

pub place_items-returns-in_err-place_item-clause-placed : goal.place_items-returns-in_err-place_item-clause-placed
place_items-returns-in_err-place_item-clause-placed g t c = λ texts told.
    let here = c.in_err-place_item.ensures.placed texts (c.loop-item.invariant.0 ∙ told) in
    let all = stops_all texts c.args.depth (reverse c.args.waiting) c.loop-item.waiting c.loop-item.gathered c.args.gathered.now (c.loop-item.invariant.2 texts told) c.pop.new.self c.in-Some.item (search rules) c.in_err-place_item.field-0.0 c.place_item.new.gathered here in
    search (rules, all)

pub place_items-returns-clause-placed : goal.place_items-returns-clause-placed
place_items-returns-clause-placed g t c = λ texts told.
    ended texts c.args.depth (reverse c.args.waiting) c.loop-item.waiting c.loop-item.gathered c.args.gathered.now (c.loop-item.invariant.2 texts told) (search rules)

pub place_text-returns-then-not-fits-clause-placed : goal.place_text-returns-then-not-fits-clause-placed
place_text-returns-then-not-fits-clause-placed g t c = λ texts it told is rest.
    let no : fits c.args.depth c.args.gathered.now ≡ false = search rules in
    too_many c.args.depth it rest c.args.gathered.now c.args.place c.args.name.now is no

pub place_text-returns-in_err-waiting-clause-placed : goal.place_text-returns-in_err-waiting-clause-placed
place_text-returns-in_err-waiting-clause-placed g t c = λ texts it told is.
    let yes : fits c.args.depth c.args.gathered.now ≡ true = search rules in
    let all = begun_stops texts c.args.depth it c.args.gathered.now c.args.place c.args.name.now is yes c.in_err-waiting.field-0.0 c.begin.new.gathered (c.in_err-waiting.ensures.begun texts told) in
    search (rules, all)

pub place_text-returns-clause-placed : goal.place_text-returns-clause-placed
place_text-returns-clause-placed g t c = λ texts it told is.
    let yes : fits c.args.depth c.args.gathered.now ≡ true = search rules in
    text_advanced texts c.args.depth it c.args.gathered.now c.args.place c.args.name.now is yes c.in_ok-waiting.field-0 c.begin.new.gathered (c.in_ok-waiting.ensures.begun texts told)
    c.place_items.result c.place_items.new.gathered (c.place_items.ensures.placed texts (c.begin.ensures.holds ∙ told))
