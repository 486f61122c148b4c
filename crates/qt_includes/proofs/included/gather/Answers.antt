use Rattle.std.proofs.Common.{rules, ◌∙◌}
use Rattle.qt_includes.proofs.Placed.{main_unread, main_stopped, main_placed}
use Rattle.qt_includes.proofs.included.gather.Goals as goal

pub returns-in_err-waiting-clause-gathered : goal.returns-in_err-waiting-clause-gathered
returns-in_err-waiting-clause-gathered g c = λ texts told.
    let all = main_unread texts c.args.name.now c.args.gathered.now c.requires c.in_err-waiting.field-0.0 c.begin.new.gathered (c.in_err-waiting.ensures.begun texts told) in
    search (rules, all)

pub returns-in_err-place_items-clause-gathered : goal.returns-in_err-place_items-clause-gathered
returns-in_err-place_items-clause-gathered g c = λ texts told.
    let all = main_stopped texts c.args.name.now c.args.gathered.now c.requires c.in_ok-waiting.field-0 c.begin.new.gathered (c.in_ok-waiting.ensures.begun texts told)
    c.in_err-place_items.field-0.0 c.place_items.new.gathered (c.in_err-place_items.ensures.placed texts (c.begin.ensures.holds ∙ told)) in
    search (rules, all)

pub returns-clause-gathered : goal.returns-clause-gathered
returns-clause-gathered g c = λ texts told.
    main_placed texts c.args.name.now c.args.gathered.now c.requires c.in_ok-waiting.field-0 c.begin.new.gathered (c.in_ok-waiting.ensures.begun texts told)
    c.place_items.new.gathered (c.in_ok-place_items.ensures.placed texts (c.begin.ensures.holds ∙ told))
