use Rattle.std.proofs.Common.{◌≡◌, ◌∙◌, length}
use Rattle.std.proofs.lemmas.List.{length-map}
use Rattle.qt_terminals.specs.Terminals.{terminal_at, terminals}
use Rattle.qt_terminals.proofs.Lists.{all_found_all, length-counts_behind}
use Rattle.qt_terminals.proofs.stream.TokenStream.new.Goals as goal

pub invariant_of-result : goal.invariant_of-result
invariant_of-result c =
    let terminals : length c.in_ok-terminals.terminals.items ≡ length c.args.tokens.now = rw c.in_ok-terminals.ensures (length-map c.args.tokens.now (terminal_at c.args.text.now)) in
    let counts : length c.in_ok-operators.operators.items ≡ length c.in_ok-terminals.terminals.items =
    rw (c.in_ok-operators.ensures, c.deref.ensures.value) (length-counts_behind 0 c.in_ok-terminals.terminals.items) in
    (terminals, counts ∙ terminals)

pub returns : goal.returns
unfolding terminals
returns c =
    rw (c.in_ok-operators.ensures, c.deref.ensures.value, c.in_ok-terminals.ensures) (all_found_all c.args.text.now 0 c.args.tokens.now)
