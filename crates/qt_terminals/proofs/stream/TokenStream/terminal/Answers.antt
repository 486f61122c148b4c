use Rattle.std.proofs.Common.{rules, arith}
use Rattle.qt_terminals.proofs.Lists.{terminal_found, length-all_found}
use Rattle.qt_terminals.proofs.stream.TokenStream.terminal.Goals as goal

pub returns-in-Some-clause-value : goal.returns-in-Some-clause-value
returns-in-Some-clause-value c =
    let e = terminal_found c.self.inside.text.now c.self.inside.tokens.now c.self.inside.terminals.items c.self.inside.operators.items c.args.at c.self.invariant.0 c.self.invariant.1 in
    rw (← c.self.view_is, e) (search rules)

pub returns-in-None-clause-value : goal.returns-in-None-clause-value
returns-in-None-clause-value c =
    let e = terminal_found c.self.inside.text.now c.self.inside.tokens.now c.self.inside.terminals.items c.self.inside.operators.items c.args.at c.self.invariant.0 c.self.invariant.1 in
    rw (← c.self.view_is, e) (search rules)

pub returns-in-Some-clause-within : goal.returns-in-Some-clause-within
returns-in-Some-clause-within c = λ _.
    let e = length-all_found c.self.inside.text.now c.self.inside.tokens.now c.self.inside.terminals.items c.self.inside.operators.items c.self.invariant.0 c.self.invariant.1 in
    rw (← c.self.view_is) (omega (arith, e, c.self.invariant.0, c.in-Some.ensures.lookup.3.0))
