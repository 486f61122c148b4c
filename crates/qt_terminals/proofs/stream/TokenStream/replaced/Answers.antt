use Rattle.std.proofs.Common.{◌≤◌, arith, sym, length}
use Rattle.qt_terminals.proofs.Lists.{replaced_found, length-all_found, with_terminal_past}
use Rattle.qt_terminals.proofs.stream.TokenStream.replaced.Goals as goal

pub returns-then-at-len : goal.returns-then-at-len
returns-then-at-len c =
    rw (← c.self.view_is) (replaced_found c.self.inside.text.now c.self.inside.tokens.now c.self.inside.terminals.items c.self.inside.operators.items c.args.at c.args.terminal)

pub returns-else-at-len : goal.returns-else-at-len
returns-else-at-len c =
    let past : length c.args.self.now ≤ c.args.at =
    rw (← c.self.view_is) (let e = length-all_found c.self.inside.text.now c.self.inside.tokens.now c.self.inside.terminals.items c.self.inside.operators.items c.self.invariant.0 c.self.invariant.1 in omega arith) in
    sym (with_terminal_past c.args.self.now c.args.at c.args.terminal past)
