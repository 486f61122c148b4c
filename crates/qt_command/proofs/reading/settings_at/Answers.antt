use Rattle.std.proofs.Common.{◌≡◌, ◌∙◌, ap, sym, List, [], ℕ, Some, None, map, codes, option_map}
use Rattle.std.specs.Borrow.{Bor}
use Rattle.clap.specs.Words.{found_of}
use Rattle.qt_command.proofs.Found.{words}
use Rattle.qt_command.proofs.reading.settings_at.Goals as goal

abbrev texts : List (Bor (List ℕ)) → List (List ℕ)
texts = map (λ (v : Bor (List ℕ)). v.now)

pub returns-in-Some : goal.returns-in-Some
returns-in-Some c =
    rw (← words (found_of c.args.found.now) (codes "setting") (Some (texts c.in-Some.words.now))
    (ap (option_map (λ (s : Bor (List (Bor (List ℕ)))). texts s.now)) (sym c.in-Some.is) ∙ c.get_strs.ensures)) c.settings_of.ensures

pub returns-in-None : goal.returns-in-None
returns-in-None c =
    rw (← words (found_of c.args.found.now) (codes "setting") None
    (ap (option_map (λ (s : Bor (List (Bor (List ℕ)))). texts s.now)) (sym c.in-None.is) ∙ c.get_strs.ensures)) c.settings_of-in-None.ensures
