-- What the command has found, by its rows.
use Rattle.std.proofs.Common.{◌≡◌, ◌≢◌, ◌∙◌, ap, refl, List, [], ◌∷◌, ℕ, Option, Some, None, Err, option_map, unwrap_or, inl, inr}
use Rattle.clap.specs.Walk.{Row, Text, first_of, all_of}
use Rattle.clap.specs.Words.{HasKind, kind_of, rows_of, first_value, matched_of}
use Rattle.clap.specs.Matches.{raw_values}
use Rattle.clap.specs.declared.parser.matches.Found.{Found}
use Rattle.clap.specs.declared.error.Error.{Error}
use Rattle.clap.specs.declared.error.kind.ErrorKind.{ErrorKind}
use Rattle.clap.specs.declared.error.kind.ErrorKind.TheVariants as kind
use Rattle.clap.proofs.WalkLemmas.{first_value-rows, raw_values-rows}
use Rattle.qt_command.specs.Arguments.{heard, word_of, words_of}
use Rattle.qt_command.specs.declared.arguments.WordsRefusal.TheVariants as refusal

pub word : (found : Found) (id : Text) (given : Option Text) → given ≡ first_value found id → unwrap_or given [] ≡ word_of id (rows_of found)
word found id given h = ap (λ t. unwrap_or t []) (h ∙ first_value-rows found id)

pub words : (found : Found) (id : Text) (given : Option (List Text)) → given ≡ option_map raw_values (matched_of found id)
    → unwrap_or given [] ≡ words_of id (rows_of found)
words found id given h = ap (λ t. unwrap_or t []) (h ∙ raw_values-rows found id)

pub refused : (faults : List ErrorKind) (rows : List Row) (e : Error) → HasKind faults e → kind_of e ≢ kind.OutOfMemory
    → heard faults rows ≡ Err refusal.Words
refused faults rows e (inl memory) other = absurd (other memory)
refused [] rows e (inr among) other = absurd among
refused (fault ∷ faults) rows e (inr among) other = refl
