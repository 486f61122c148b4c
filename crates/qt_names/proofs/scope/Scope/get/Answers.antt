use Rattle.std.proofs.Common.{◌∙◌, ap}
use Rattle.qt_names.specs.Scopes.{found_in}
use Rattle.qt_names.proofs.Kept.{lookup_found}
use Rattle.qt_names.proofs.scope.Scope.get.Goals as goal

pub returns : goal.returns
returns c = c.get.ensures.value ∙ lookup_found c.args.name.now _ ∙ ap (λ scope. found_in scope c.args.name.now) c.self.view_is
