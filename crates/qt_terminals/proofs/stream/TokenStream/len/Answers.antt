use Rattle.std.proofs.Common.{sym}
use Rattle.qt_terminals.proofs.Lists.{length-all_found}
use Rattle.qt_terminals.proofs.stream.TokenStream.len.Goals as goal

pub returns : goal.returns
returns c =
    rw (← c.self.view_is) (sym (length-all_found c.self.inside.text.now c.self.inside.tokens.now c.self.inside.terminals.items c.self.inside.operators.items c.self.invariant.0 c.self.invariant.1))
