-- The terminal of a token: what the grammar sees of it. A token of a fixed spelling has a terminal of its own, and so has each kind
-- of literal. OpenQASM 3.0 live specification, "Identifiers", "Literals", "Built-in constants" and "Classical instructions",
-- and the lexical grammar in its appendix.
use Rattle.std.specs.Prelude.{ℕ, Bool, true, false, if◌then◌else◌, List, [], ◌∷◌, codes, Option, Some, None}
use Rattle.std.specs.List.{zip}
use Rattle.std.specs.Str.{bytes_eq}
use Rattle.qt_lex.specs.Bytes as lexer
use Rattle.qt_lex.specs.declared.tokens.Kind.{Kind}
use Rattle.qt_lex.specs.declared.tokens.Kind.TheVariants as kind
use Rattle.qt_tree.specs.declared.refusal.Feature.{Feature}
use Rattle.qt_tree.specs.declared.refusal.Feature.TheVariants as feature
use Rattle.qt_terminals.specs.declared.terminal.Terminal.{Terminal}
use Rattle.qt_terminals.specs.declared.terminal.Terminal.TheVariants as w
use Rattle.qt_terminals.specs.Literals.{is_bit_text}

-- the terminals of the reserved words, in the order in which the lexer's list has the words
abbrev pub reserved_terminals : List Terminal
reserved_terminals =
    w.OpenQasm ∷ w.Include ∷ w.Qubit ∷ w.Qreg ∷ w.Bit ∷ w.Creg ∷ w.Bool ∷ w.Int ∷ w.Uint ∷ w.Angle ∷ w.Array ∷
    w.Const ∷ w.Let ∷ w.Input ∷ w.Output ∷ w.Gate ∷ w.Def ∷ w.Return ∷ w.Measure ∷ w.Reset ∷ w.Barrier ∷ w.If ∷
    w.Else ∷ w.While ∷ w.For ∷ w.In ∷ w.Break ∷ w.Continue ∷ w.EndWord ∷ w.Ctrl ∷ w.NegCtrl ∷ w.Inv ∷ w.Pow ∷
    w.GPhase ∷ w.True ∷ w.False ∷ w.SizeOf ∷ w.Float ∷ w.Complex ∷ w.Duration ∷ w.Stretch ∷ w.Delay ∷ w.Box ∷
    w.DurationOf ∷ w.Cal ∷ w.DefCal ∷ w.DefCalGrammar ∷ w.Extern ∷ w.Pragma ∷ w.Euler ∷ w.Switch ∷ w.Case ∷
    w.Default ∷ []

unfoldable pub reserved_words : List (List ℕ × Terminal)
reserved_words = zip lexer.reserved_words reserved_terminals

-- the same for the symbols
abbrev pub symbol_terminals : List Terminal
symbol_terminals =
    w.LeftParen ∷ w.RightParen ∷ w.LeftBracket ∷ w.RightBracket ∷ w.LeftBrace ∷ w.RightBrace ∷ w.Semicolon ∷
    w.Comma ∷ w.Colon ∷ w.At ∷ w.Arrow ∷ w.Assign ∷ w.EqualEqual ∷ w.NotEqual ∷ w.Less ∷ w.LessEqual ∷ w.Greater ∷
    w.GreaterEqual ∷ w.ShiftLeft ∷ w.ShiftRight ∷ w.Plus ∷ w.Minus ∷ w.Star ∷ w.Slash ∷ w.Percent ∷ w.StarStar ∷
    w.PlusPlus ∷ w.And ∷ w.AndAnd ∷ w.Or ∷ w.OrOr ∷ w.Caret ∷ w.Bang ∷ w.Tilde ∷ w.PlusAssign ∷ w.MinusAssign ∷
    w.StarAssign ∷ w.SlashAssign ∷ w.PercentAssign ∷ w.StarStarAssign ∷ w.AndAssign ∷ w.OrAssign ∷ w.CaretAssign ∷
    w.ShiftLeftAssign ∷ w.ShiftRightAssign ∷ []

unfoldable pub symbols : List (List ℕ × Terminal)
symbols = zip lexer.symbols symbol_terminals

-- `pi`, `tau`, `π`, `τ`
unfoldable pub constants : List (List ℕ × Terminal)
constants = zip lexer.constants (w.Pi ∷ w.Tau ∷ w.Pi ∷ w.Tau ∷ [])

unfoldable pub hashes : List (List ℕ × Terminal)
hashes = (codes "#pragma", w.HashPragma) ∷ (codes "#dim", w.HashDim) ∷ []

-- the terminal of a spelling in a table, and another terminal where it isn't there
abbrev pub terminal_in : List (List ℕ × Terminal) → Terminal → List ℕ → Terminal
terminal_in [] other s = other
terminal_in ((t, terminal) ∷ rest) other s = if bytes_eq s t then terminal else terminal_in rest other s

-- the terminal of a token, by its kind and its spelling; a spelling that no token of its kind has counts as a name
unfoldable pub terminal_of : Kind → List ℕ → Terminal
terminal_of kind.Name s = w.Name
terminal_of kind.Reserved s = terminal_in reserved_words w.Name s
terminal_of kind.Integer s = w.Integer
terminal_of kind.Wide s = w.Wide
terminal_of kind.Decimal s = w.Decimal
terminal_of kind.Timing s = w.Timing
terminal_of kind.Imaginary s = w.Imaginary
terminal_of kind.Text s = if is_bit_text s then w.BitText else w.Text
terminal_of kind.Hardware s = w.Hardware
terminal_of kind.Hash s = terminal_in hashes w.Hash s
terminal_of kind.Symbol s = terminal_in symbols w.Name s
terminal_of kind.Constant s = terminal_in constants w.Name s
terminal_of kind.Euler s = w.Euler
terminal_of kind.End s = w.End

-- inside an expression each of these terminals is an operator
abbrev pub is_operator : Terminal → Bool
is_operator w.OrOr = true
is_operator w.AndAnd = true
is_operator w.Or = true
is_operator w.Caret = true
is_operator w.And = true
is_operator w.EqualEqual = true
is_operator w.NotEqual = true
is_operator w.Less = true
is_operator w.LessEqual = true
is_operator w.Greater = true
is_operator w.GreaterEqual = true
is_operator w.ShiftLeft = true
is_operator w.ShiftRight = true
is_operator w.Plus = true
is_operator w.Minus = true
is_operator w.Star = true
is_operator w.Slash = true
is_operator w.Percent = true
is_operator w.StarStar = true
is_operator w.Bang = true
is_operator w.Tilde = true
is_operator terminal = false

-- the tokens that are refused by name; `@` is refused so only where a statement could begin
abbrev pub feature_of : Terminal → Option Feature
feature_of w.Float = Some feature.Float
feature_of w.Complex = Some feature.Complex
feature_of w.Duration = Some feature.Duration
feature_of w.Stretch = Some feature.Stretch
feature_of w.Delay = Some feature.Delay
feature_of w.Box = Some feature.Box
feature_of w.DurationOf = Some feature.DurationOf
feature_of w.Cal = Some feature.Cal
feature_of w.DefCal = Some feature.DefCal
feature_of w.DefCalGrammar = Some feature.DefCalGrammar
feature_of w.Extern = Some feature.Extern
feature_of w.Pragma = Some feature.Pragma
feature_of w.Euler = Some feature.Euler
feature_of w.Switch = Some feature.Switch
feature_of w.Case = Some feature.Case
feature_of w.Default = Some feature.Default
feature_of w.Decimal = Some feature.Decimal
feature_of w.Timing = Some feature.Timing
feature_of w.Imaginary = Some feature.Imaginary
feature_of w.Hardware = Some feature.Hardware
feature_of w.Wide = Some feature.Wide
feature_of w.HashPragma = Some feature.Pragma
feature_of w.HashDim = Some feature.Dim
feature_of w.Hash = Some feature.Hash
feature_of terminal = None

-- the number of a terminal; End has 0
abbrev pub code : Terminal → ℕ
code w.End = 0
code w.Name = 1
code w.Integer = 2
code w.Decimal = 3
code w.BitText = 4
code w.Text = 5
code w.Pi = 6
code w.Tau = 7
code w.Euler = 8
code w.Wide = 9
code w.Timing = 10
code w.Imaginary = 11
code w.Hardware = 12
code w.HashPragma = 13
code w.HashDim = 14
code w.Hash = 15
code w.OpenQasm = 16
code w.Include = 17
code w.Qubit = 18
code w.Qreg = 19
code w.Bit = 20
code w.Creg = 21
code w.Bool = 22
code w.Int = 23
code w.Uint = 24
code w.Angle = 25
code w.Array = 26
code w.Const = 27
code w.Let = 28
code w.Input = 29
code w.Output = 30
code w.Gate = 31
code w.Def = 32
code w.Return = 33
code w.Measure = 34
code w.Reset = 35
code w.Barrier = 36
code w.If = 37
code w.Else = 38
code w.While = 39
code w.For = 40
code w.In = 41
code w.Break = 42
code w.Continue = 43
code w.EndWord = 44
code w.Ctrl = 45
code w.NegCtrl = 46
code w.Inv = 47
code w.Pow = 48
code w.GPhase = 49
code w.True = 50
code w.False = 51
code w.SizeOf = 52
code w.Float = 53
code w.Complex = 54
code w.Duration = 55
code w.Stretch = 56
code w.Delay = 57
code w.Box = 58
code w.DurationOf = 59
code w.Cal = 60
code w.DefCal = 61
code w.DefCalGrammar = 62
code w.Extern = 63
code w.Pragma = 64
code w.Switch = 65
code w.Case = 66
code w.Default = 67
code w.LeftParen = 68
code w.RightParen = 69
code w.LeftBracket = 70
code w.RightBracket = 71
code w.LeftBrace = 72
code w.RightBrace = 73
code w.Semicolon = 74
code w.Comma = 75
code w.Colon = 76
code w.At = 77
code w.Arrow = 78
code w.Assign = 79
code w.EqualEqual = 80
code w.NotEqual = 81
code w.Less = 82
code w.LessEqual = 83
code w.Greater = 84
code w.GreaterEqual = 85
code w.ShiftLeft = 86
code w.ShiftRight = 87
code w.Plus = 88
code w.Minus = 89
code w.Star = 90
code w.Slash = 91
code w.Percent = 92
code w.StarStar = 93
code w.PlusPlus = 94
code w.And = 95
code w.AndAnd = 96
code w.Or = 97
code w.OrOr = 98
code w.Caret = 99
code w.Bang = 100
code w.Tilde = 101
code w.PlusAssign = 102
code w.MinusAssign = 103
code w.StarAssign = 104
code w.SlashAssign = 105
code w.PercentAssign = 106
code w.StarStarAssign = 107
code w.AndAssign = 108
code w.OrAssign = 109
code w.CaretAssign = 110
code w.ShiftLeftAssign = 111
code w.ShiftRightAssign = 112
