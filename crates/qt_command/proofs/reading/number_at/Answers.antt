use Rattle.std.proofs.Common.{◌≡◌, ◌∙◌, ap, sym, List, ℕ, Option, option_map}
use Rattle.std.specs.Borrow.{Bor}
use Rattle.clap.specs.Words.{found_of}
use Rattle.clap.proofs.WalkLemmas.{first_value-rows}
use Rattle.clap.specs.Walk.{first_of}
use Rattle.clap.specs.Words.{rows_of}
use Rattle.qt_command.specs.Arguments.{Gives, number_given, option_name}
use Rattle.qt_command.proofs.reading.number_at.Goals as goal

pub returns : goal.returns
returns c =
    let named : option_map (λ (s : Bor (List ℕ)). s.now) c.get_str.result ≡ first_of (option_name c.args.option) (rows_of (found_of c.args.found.now)) =
    c.get_str.ensures ∙ first_value-rows (found_of c.args.found.now) c.name.result.now ∙ ap (λ id. first_of id (rows_of (found_of c.args.found.now))) c.name.ensures in
    rw (← named) c.number_given.ensures
