-- What printing keeps of the tokens of a text.
use Rattle.std.specs.Prelude.{ℕ, ◌≤◌, List, length}
use Rattle.qt_lex.specs.declared.tokens.Token.{Token}
use Rattle.qt_lex.specs.Tokens.{GivesTokens}
use Rattle.qt_terminals.specs.Terminals.{terminals, stream}
use Rattle.qt_round_trip.proofs.literals.Kept.{IsFaithful, AreNumbersAgain, total_length}

-- each token of a text is kept by printing
abbrev pub AreFaithful : Type 0
AreFaithful = (text : List ℕ) (file : ℕ) (tokens : List Token) → GivesTokens text file tokens
    → (i : ℕ) → IsFaithful (stream (terminals text tokens) i)

-- the tokens of a text have no more bytes together than the text
abbrev pub AreWithinTheText : Type 0
AreWithinTheText = (text : List ℕ) (file : ℕ) (tokens : List Token) → GivesTokens text file tokens
    → (n : ℕ) → total_length (stream (terminals text tokens)) n ≤ length text

-- each whole number below 2^64 is read again
abbrev pub NumbersAgain : Type 0
NumbersAgain = AreNumbersAgain
