use Rattle.std.proofs.Common.{rules, ◌≡◌, ◌∙◌, ap₂, codes}
use Rattle.clap.specs.Words.{app_of, with_rule}
use Rattle.qt_command.specs.Command.{qtree, option, flag, with_words}
use Rattle.qt_command.proofs.command.command.Goals as goal

pub returns : goal.returns
unfolding Rattle.qt_command.specs.Command.qtree
returns c =
    let workers = c.in_ok-with_workers.ensures.shape c.option.ensures.local ∙ ap₂ with_rule c.in_ok-with_words.ensures c.option.ensures.rule in
    let fuel = c.in_ok-with_fuel.ensures.shape c.option-2.ensures.local ∙ ap₂ with_rule workers c.option-2.ensures.rule in
    c.in_ok-with_json.ensures.shape c.flag.ensures.local ∙ ap₂ with_rule fuel c.flag.ensures.rule
