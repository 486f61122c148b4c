use Rattle.std.proofs.Common.{rules, arith}
use Rattle.qt_terminals.proofs.Lists.{place_found, nothing_found}
use Rattle.qt_terminals.proofs.stream.TokenStream.place.Goals as goal

pub returns-in-Some : goal.returns-in-Some
returns-in-Some c =
    let e = place_found c.self.inside.text.now c.self.inside.tokens.now c.self.inside.terminals.items c.self.inside.operators.items c.args.at c.in-Some.token.now (omega (arith, c.in-Some.ensures.lookup.3.0)) c.self.invariant.0 c.self.invariant.1 in
    rw (← c.self.view_is, e) (search rules)

pub returns-in-None : goal.returns-in-None
returns-in-None c =
    let e = nothing_found c.self.inside.text.now c.self.inside.tokens.now c.self.inside.terminals.items c.self.inside.operators.items c.args.at (omega (arith, c.in-None.ensures.lookup.3)) c.self.invariant.0 c.self.invariant.1 in
    rw (← c.self.view_is, e) (search rules)
