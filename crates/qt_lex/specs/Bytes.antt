-- The tables of words and signs, beside the bytes of a text by their places. OpenQASM 3.0 live specification, "Identifiers" and
-- "Built-in constants", and the lexical grammar in its appendix. Characters outside ASCII stand as their bytes in UTF-8.
use Rattle.std.specs.Prelude.{ℕ, List, [], ◌∷◌, codes}
pub use Rattle.qt_scan.specs.Bytes.{byte, is_digit, is_letter, is_name_start, is_name_byte, is_blank, is_quote, has_no_nul, have_no_nul}
pub use Rattle.qt_scan.specs.Bytes.{stands, IsOneOf, longest_in, EachFrom}

abbrev pub reserved_words : List (List ℕ)
reserved_words =
    codes "OPENQASM" ∷ codes "include" ∷ codes "qubit" ∷ codes "qreg" ∷ codes "bit" ∷ codes "creg" ∷ codes "bool" ∷ codes "int" ∷ codes "uint"
    ∷ codes "angle" ∷ codes "array" ∷ codes "const" ∷ codes "let" ∷ codes "input" ∷ codes "output" ∷ codes "gate" ∷ codes "def" ∷ codes "return"
    ∷ codes "measure" ∷ codes "reset" ∷ codes "barrier" ∷ codes "if" ∷ codes "else" ∷ codes "while" ∷ codes "for" ∷ codes "in" ∷ codes "break"
    ∷ codes "continue" ∷ codes "end" ∷ codes "ctrl" ∷ codes "negctrl" ∷ codes "inv" ∷ codes "pow" ∷ codes "gphase" ∷ codes "true" ∷ codes "false"
    ∷ codes "sizeof" ∷ codes "float" ∷ codes "complex" ∷ codes "duration" ∷ codes "stretch" ∷ codes "delay" ∷ codes "box" ∷ codes "durationof"
    ∷ codes "cal" ∷ codes "defcal" ∷ codes "defcalgrammar" ∷ codes "extern" ∷ codes "pragma" ∷ codes "euler" ∷ codes "switch" ∷ codes "case"
    ∷ codes "default" ∷ []

-- `pi`, `tau`, `π`, `τ`
abbrev pub constants : List (List ℕ)
constants = codes "pi" ∷ codes "tau" ∷ (207 ∷ 128 ∷ []) ∷ (207 ∷ 132 ∷ []) ∷ []

-- `ℇ`
abbrev pub euler_signs : List (List ℕ)
euler_signs = (226 ∷ 132 ∷ 135 ∷ []) ∷ []

abbrev pub symbols : List (List ℕ)
symbols =
    codes "(" ∷ codes ")" ∷ codes "[" ∷ codes "]" ∷ codes "{" ∷ codes "}" ∷ codes ";" ∷ codes "," ∷ codes ":" ∷ codes "@" ∷ codes "->" ∷ codes "="
    ∷ codes "==" ∷ codes "!=" ∷ codes "<" ∷ codes "<=" ∷ codes ">" ∷ codes ">=" ∷ codes "<<" ∷ codes ">>" ∷ codes "+" ∷ codes "-" ∷ codes "*"
    ∷ codes "/" ∷ codes "%" ∷ codes "**" ∷ codes "++" ∷ codes "&" ∷ codes "&&" ∷ codes "|" ∷ codes "||" ∷ codes "^" ∷ codes "!" ∷ codes "~"
    ∷ codes "+=" ∷ codes "-=" ∷ codes "*=" ∷ codes "/=" ∷ codes "%=" ∷ codes "**=" ∷ codes "&=" ∷ codes "|=" ∷ codes "^=" ∷ codes "<<="
    ∷ codes ">>=" ∷ []

-- `dt`, `ns`, `us`, `µs`, `ms`, `s`
abbrev pub time_units : List (List ℕ)
time_units = codes "dt" ∷ codes "ns" ∷ codes "us" ∷ (194 ∷ 181 ∷ 115 ∷ []) ∷ codes "ms" ∷ codes "s" ∷ []

abbrev pub imaginary_units : List (List ℕ)
imaginary_units = codes "im" ∷ []
