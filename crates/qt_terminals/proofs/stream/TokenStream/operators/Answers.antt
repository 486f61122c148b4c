use Rattle.std.proofs.Common.{rules}
use Rattle.qt_terminals.proofs.Lists.{operators_found}
use Rattle.qt_terminals.proofs.stream.TokenStream.operators.Goals as goal

pub returns-in-Some : goal.returns-in-Some
returns-in-Some c =
    let e = operators_found c.self.inside.text.now c.self.inside.tokens.now c.self.inside.terminals.items c.self.inside.operators.items c.args.at c.self.invariant.0 c.self.invariant.1 in
    rw (← c.self.view_is, e) (search rules)

pub returns-in-None : goal.returns-in-None
returns-in-None c =
    let e = operators_found c.self.inside.text.now c.self.inside.tokens.now c.self.inside.terminals.items c.self.inside.operators.items c.args.at c.self.invariant.0 c.self.invariant.1 in
    rw (← c.self.view_is, e) (search rules)
