-- What statements see and change (OpenQASM 3.0 live specification, "Scoping of variables"; Cross et al. 2022): the names in scope, what is
-- known of them where a constant is wanted, the slots and qubits that are taken, and the subroutines so far.
use Rattle.std.specs.Prelude.{ℕ, ◌+◌, ◌-◌, Bool, true, false, if◌then◌else◌, List, [], ◌∷◌, ◌++◌, length, take, Option, Some, None, Ok, Err}
use Rattle.qt_const_rules.specs.Answers.{whole_number}
use Rattle.qt_const_rules.specs.declared.consts.Known.{Known}
use Rattle.qt_const_rules.specs.declared.modes.Mode.{Mode}
use Rattle.qt_const.specs.Value.{value_of, type_reading}
use Rattle.qt_names.specs.Entries.{Entry, Name}
use Rattle.qt_names.specs.Scopes.{declaration, entered, is_outermost, left}
use Rattle.qt_names.specs.declared.named.Named.{Named}
use Rattle.qt_tree.specs.declared.expression.Expr.{Expr}
use Rattle.qt_tree.specs.declared.expression.Scalar.{Scalar}
use Rattle.qt_tree.specs.declared.place.Place.{Place}
use Rattle.qt_typed.specs.declared.call.Span.{Span}
use Rattle.qt_value.specs.declared.constant.ConstValue.{ConstValue}
use Rattle.qt_value.specs.declared.types.ValueType.{ValueType}
use Rattle.qt_typing.specs.declared.names.Names.{Names}
use Rattle.qt_typing.specs.declared.state.State.{State}
use Rattle.qt_typing.specs.Checked.{Checked, and_then, answer_at, told}
use Rattle.std.specs.Prelude.{ℤ}

-- ---- constants

-- a constant expression, reckoned from left to right with the names in it
unfoldable pub constant_at : Names → Mode → Place → Expr → Checked ConstValue
constant_at names m place expr = answer_at place (value_of names.consts m expr)

-- its whole number
unfoldable pub number_at : Names → Mode → Place → Expr → Checked ℤ
number_at names m place expr = and_then (constant_at names m place expr) (λ c. answer_at place (whole_number c))

-- a type as it is written, with its size
unfoldable pub type_at : Names → Mode → Place → Scalar → Checked ValueType
type_at names m place scalar = answer_at place ((type_reading names.consts scalar).kind m)

-- ---- judgements that change what is seen

abbrev pub Typing : Type 0 → Type 0
Typing A = State → Checked (A × State)

infixl 10 ◌>>=◌
abbrev pub ◌>>=◌ : {A B : Type 0} → Typing A → (A → Typing B) → Typing B
p >>= f = λ s. and_then (p s) (λ r. f r.0 r.1)

abbrev pub pure : {A : Type 0} → A → Typing A
pure a = λ s. Ok (a, s)

-- a judgement on the names in scope
abbrev pub seen : {A : Type 0} → (Names → Checked A) → Typing A
seen judgement = λ s. and_then (judgement s.names) (λ a. Ok (a, s))

-- ---- slots and qubits

-- so many slots: their first. Slots are counted up to the last number that is told
unfoldable pub take_slots : ℕ → Typing ℕ
take_slots n = λ s. Ok (s.slots, record s { slots = told (s.slots + n) })

-- so many qubits: the first
unfoldable pub take_qubits : ℕ → Typing ℕ
take_qubits n = λ s. Ok (s.qubits, record s { qubits = s.qubits + n })

-- the slots from the first on, up to the next free one
unfoldable pub span_from : ℕ → ℕ → Span
span_from first next = record { first = first; count = next - first }

-- ---- scopes and names

-- a name that is added to the innermost scope, with what is known of it: E9 where it stands there already
unfoldable pub named_in : Place → Name → Named → Known → Names → Checked Names
named_in place name named known names =
    and_then (declaration names.scopes name named place) (λ scopes.
    Ok (record { scopes = scopes; consts = names.consts ++ (record { name = name; known = known }) ∷ [] }))

unfoldable pub declare : Place → Name → Named → Known → Typing (Unit {0})
declare place name named known = λ s. and_then (named_in place name named known s.names) (λ names. Ok (tt, record s { names = names }))

-- one that the bodies of subroutines and gates see too
unfoldable pub declare_in_both : Place → Name → Named → Known → Typing (Unit {0})
declare_in_both place name named known = λ s.
    and_then (named_in place name named known s.names) (λ names.
    and_then (named_in place name named known s.inside) (λ inside. Ok (tt, record s { names = names; inside = inside })))

-- the innermost scope is the global one of the program. The scope of a subroutine's body stands in another one
unfoldable pub is_global : State → Bool
is_global s = is_outermost s.names.scopes

unfoldable pub enter : Typing (Unit {0})
enter = λ s. Ok (tt, record s { names = record { scopes = entered s.names.scopes; consts = s.names.consts } })

-- so many entries stay known
unfoldable pub leave : ℕ → Typing (Unit {0})
leave known = λ s. Ok (tt, record s { names = record { scopes = left s.names.scopes; consts = take known s.names.consts } })
