-- What stands from one step of reading on stands from the place before it on.
use Rattle.std.proofs.Common.{ℕ, ◌<◌, inl, inr, List, ◌∷◌, length}
use Rattle.qt_lex.specs.declared.tokens.Token.{Token}
use Rattle.qt_lex.specs.Bytes.{byte}
use Rattle.qt_lex.specs.Tokens.{Lexes, gap, token, Fails, open_comment, no_token, behind_gap, behind_token, token_of}
use Rattle.qt_lex.specs.Answers.{GoesOnAt, IsToBlame}

pub tokens_before : (text : List ℕ) (file i j : ℕ) (rest : List Token) → i < length text → GoesOnAt text i j → Lexes (byte text) file (length text) j rest
    → (all : List Token) × Lexes (byte text) file (length text) i all
tokens_before text file i j rest lt (inl blank) h = (rest, gap j lt blank h)
tokens_before text file i j rest lt (inr (solid, (k, longest))) h = (token_of (byte text) file k i j ∷ rest, token k j lt solid longest h)

pub fault_before : (text : List ℕ) (i j p : ℕ) → i < length text → GoesOnAt text i j → Fails (byte text) (length text) j p → Fails (byte text) (length text) i p
fault_before text i j p lt (inl blank) h = behind_gap j lt blank h
fault_before text i j p lt (inr (solid, (k, longest))) h = behind_token k j lt solid longest h

pub fault_here : (text : List ℕ) (i : ℕ) → i < length text → IsToBlame (byte text) i → Fails (byte text) (length text) i i
fault_here text i lt (inl unclosed) = open_comment lt unclosed
fault_here text i lt (inr (solid, none)) = no_token lt solid none
