use Rattle.std.proofs.Common.{◌≡◌, ◌∙◌, ap, sym, List, ℕ, Some, None, option_map}
use Rattle.std.specs.Borrow.{Bor}
use Rattle.clap.specs.Words.{found_of}
use Rattle.qt_command.proofs.Found.{word}
use Rattle.qt_command.proofs.reading.word_of.Goals as goal

pub returns-in-Some : goal.returns-in-Some
returns-in-Some c =
    word (found_of c.args.found.now) c.args.id.now (Some c.in-Some.word.now) (ap (option_map (λ (s : Bor (List ℕ)). s.now)) (sym c.in-Some.is) ∙ c.get_str.ensures)

pub returns-in-None : goal.returns-in-None
returns-in-None c =
    word (found_of c.args.found.now) c.args.id.now None (ap (option_map (λ (s : Bor (List ℕ)). s.now)) (sym c.in-None.is) ∙ c.get_str.ensures)
