use Rattle.std.proofs.Common.{◌∙◌, Ok, sym, subst, refl}
use Rattle.qt_expr.specs.Parser.{read_sized}
use Rattle.qt_expr.specs.HandedOn.{sized_scalar}
use Rattle.qt_expr.proofs.Alternatives.{DiffersFrom}
use Rattle.qt_expr.proofs.Forms.{scalar_terminals, bool_is, sized_is, no_scalar}
use Rattle.qt_expr.proofs.HandedOn.{says_then}
use Rattle.qt_expr.proofs.reader.Reader.scalar.Goals as goal

pub returns-in-Bool : goal.returns-in-Bool
returns-in-Bool g c = rw (bool_is c.args.tokens.now c.args.nesting.levels c.args.nesting.outer c.args.at (sym c.terminal-terminal.ensures.value ∙ c.in-Bool.is), c.behind.ensures) refl

pub returns-in-Bit : goal.returns-in-Bit
returns-in-Bit g c =
    let ts = c.args.tokens.now in
    let d = c.args.nesting.levels in
    let outer = c.args.nesting.outer in
    let k = c.terminal-terminal.result in
    rw (sized_is ts d outer c.args.at k (sym c.terminal-terminal.ensures.value) c.in-Bit.is, c.sized.ensures, ← c.behind-in-Bit.ensures)
    (says_then (read_sized ts d outer c.behind-in-Bit.result) c.size_or_none.result (λ x j. Ok (sized_scalar k x, j)) c.size_or_none.ensures)

pub returns-in_default : goal.returns-in_default
returns-in_default g c =
    let d = c.in_default in
    let apart : DiffersFrom c.terminal-terminal.result scalar_terminals = (d.not-Bool, (d.not-Bit, (d.not-Int, (d.not-Uint, (d.not-Angle, tt))))) in
    rw (no_scalar c.args.tokens.now c.args.nesting.levels c.args.nesting.outer c.args.at (subst (λ x. DiffersFrom x scalar_terminals) c.terminal-terminal.ensures.value apart)) (λ n. refl)
