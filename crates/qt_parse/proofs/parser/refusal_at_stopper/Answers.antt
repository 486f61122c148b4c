use Rattle.std.proofs.Common.{◌≡◌, ◌∙◌, sym, subst}
use Rattle.qt_tree.specs.declared.refusal.Feature.TheVariants.{Annotation}
use Rattle.qt_lookahead.specs.declared.refusal.ParseRefusal.TheVariants.{NotInProfile}
use Rattle.qt_parse.specs.Promise.{Refused}
use Rattle.qt_parse.proofs.Promises.{annotation}
use Rattle.qt_parse.proofs.parser.refusal_at_stopper.Goals as goal

pub returns-in-Ok-true : goal.returns-in-Ok-true
returns-in-Ok-true c =
    subst (λ at. Refused c.args.tokens.now (NotInProfile at Annotation)) (sym c.place-place.ensures)
    (annotation c.args.tokens.now c.args.at c.requires (sym c.terminal.ensures.value ∙ c.in-At.is) (c.in-Ok-true.ensures.yes c.in-Ok-true.field-0-test))
