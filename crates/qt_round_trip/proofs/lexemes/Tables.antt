-- The texts of each role that has few, and a test of whether a text is one of a table.
use Rattle.std.proofs.Common.{◌≡◌, ℕ, ◌||◌, inl, inr, Bool, true, false, bytes_eq, List, [], ◌∷◌, codes}
use Rattle.std.proofs.lemmas.Slice.Eq.{bytes_eq-Decides}
use Rattle.qt_lex.specs.Bytes.{reserved_words, symbols}
use Rattle.qt_lex.proofs.Tables.{or_cases}
use Rattle.qt_lexemes.specs.declared.role.Role.{Role}
use Rattle.qt_lexemes.specs.declared.role.Role.TheVariants as r
use Rattle.qt_round_trip.proofs.lexemes.Spelling.{IsAmong, IsSpelledAs}

abbrev pub among : List (List ℕ) → List ℕ → Bool
among [] text = false
among (first ∷ others) text = bytes_eq text first || among others text

pub same_is : (xs ys : List ℕ) → bytes_eq xs ys ≡ true → xs ≡ ys
same_is xs ys h = (bytes_eq-Decides xs ys).0 h

among_is : (all : List (List ℕ)) (text : List ℕ) → among all text ≡ true → IsAmong all text
among_is [] text h = cc h
among_is (x ∷ xs) text h = elim (or_cases (bytes_eq text x) (among xs text) h) [ inl e ↦ inl (same_is text x e) | inr e ↦ inr (among_is xs text e) ]

-- the texts of a role that has few
abbrev pub texts_of : Role → List (List ℕ)
texts_of r.Constant = codes "pi" ∷ codes "tau" ∷ []
texts_of r.Keyword = reserved_words
texts_of r.Head = reserved_words
texts_of r.Else = reserved_words
texts_of r.In = reserved_words
texts_of r.Operator = symbols
texts_of r.Sign = codes "!" ∷ codes "~" ∷ codes "-" ∷ []
texts_of r.Comma = codes "," ∷ []
texts_of r.Colon = codes ":" ∷ []
texts_of r.Semicolon = codes ";" ∷ []
texts_of r.Opening = codes "(" ∷ codes "[" ∷ codes "{" ∷ []
texts_of r.ClosingParenthesis = codes ")" ∷ []
texts_of r.ClosingBracket = codes "]" ∷ []
texts_of r.ClosingBrace = codes "}" ∷ []
texts_of r.BodyStart = codes "{" ∷ []
texts_of r.BodyEnd = codes "}" ∷ []
texts_of _ = []

pub text_spelled : (role : Role) (text : List ℕ) → among (texts_of role) text ≡ true → IsSpelledAs role text
text_spelled r.Name text h = cc h
text_spelled r.Integer text h = cc h
text_spelled r.Decimal text h = cc h
text_spelled r.Text text h = cc h
text_spelled role text h = among_is (texts_of role) text h
