-- The canonical layout of this product: where the one space stands between two lexemes of a line. The OpenQASM 3.0 live
-- specification, "Comments", gives no meaning to white space between tokens, so a layout is free to choose it.
--
-- One space stands in these places, and no other space is printed within a line:
-- on both sides of a binary operator, `=`, a compound assignment, `->`, `++`, `in` and `@`; before a `{` that ends its line;
-- after a comma; after `if`, `while` and `for`; after a keyword or type that a name, number, text or keyword follows; after a
-- name or a closing parenthesis that a name follows; between `}` and `else`.
use Rattle.std.specs.Prelude.{ℕ, Bool, true, false, ◌||◌, if◌then◌else◌, List, [], ◌∷◌, Option, Some, None}
use Rattle.qt_lexemes.specs.declared.role.Role.{Role}
use Rattle.qt_lexemes.specs.declared.role.Role.TheVariants.{Name, Integer, Decimal, Text, Constant, Keyword, Head, Else, In, Operator, Comma, ClosingParenthesis, ClosingBracket, BodyStart, BodyEnd}

-- a space on both sides
abbrev pub is_spaced : Role → Bool
is_spaced In = true
is_spaced Operator = true
is_spaced _ = false

-- a name, a number, a text or a keyword
abbrev pub is_item : Role → Bool
is_item Name = true
is_item Integer = true
is_item Decimal = true
is_item Text = true
is_item Constant = true
is_item Keyword = true
is_item Head = true
is_item Else = true
is_item _ = false

abbrev pub is_name : Role → Bool
is_name Name = true
is_name _ = false

abbrev pub is_else : Role → Bool
is_else Else = true
is_else _ = false

abbrev pub is_body_start : Role → Bool
is_body_start BodyStart = true
is_body_start _ = false

-- A name follows the closing bracket of a type and of nothing else. No number, text or keyword but `in` follows a name,
-- and nothing of these follows a number: the rows of names and numbers say what they say of a name that follows a name.
abbrev pub has_space_behind : Role → Role → Bool
has_space_behind Comma _ = true
has_space_behind Head _ = true
has_space_behind Constant following = is_item following
has_space_behind Keyword following = is_item following
has_space_behind Else following = is_item following
has_space_behind ClosingBracket following = is_item following
has_space_behind Name following = is_item following
has_space_behind Integer following = is_item following
has_space_behind Decimal following = is_item following
has_space_behind ClosingParenthesis following = is_name following
has_space_behind BodyEnd following = is_else following
has_space_behind _ _ = false

-- does the space stand between two neighbouring lexemes of a line?
abbrev pub has_space : Role → Role → Bool
has_space last following = is_spaced last || (is_spaced following || (is_body_start following || has_space_behind last following))

-- what stands before a lexeme: nothing at the beginning of a line
abbrev pub gap : Option Role → Role → List ℕ
gap None following = []
gap (Some last) following = if has_space last following then 32 ∷ [] else []
