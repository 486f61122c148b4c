-- Which qubits an operand names (OpenQASM 3.0 live specification, "Quantum types" and "Index sets and slicing"; Cross et al. 2022): a
-- single qubit, or a register in the order of its places. Ranges and sets are constant; a single index may be known in the run alone.
use Rattle.std.specs.Prelude.{ℕ, nat_eq, ◌&&◌, ◌||◌, Bool, true, false, not, if◌then◌else◌, List, [], ◌∷◌, ◌++◌, length, slice_get, Option, Some, None, Ok, Err}
use Rattle.qt_const_rules.specs.declared.modes.Mode.TheVariants as mode
use Rattle.qt_names.specs.Entries.{Name}
use Rattle.qt_names.specs.Scopes.{finding}
use Rattle.qt_names.specs.declared.named.Named.{Named}
use Rattle.qt_names.specs.declared.named.Places.{Places}
use Rattle.qt_names.specs.declared.named.Places.TheVariants as places
use Rattle.qt_names.specs.declared.named.What.{What}
use Rattle.qt_names.specs.declared.named.What.TheVariants as what
use Rattle.qt_registers.specs.Registers.{stepped}
use Rattle.qt_registers.specs.declared.fixed.FixedQubit.{FixedQubit}
use Rattle.qt_registers.specs.declared.fixed.FixedQubit.TheVariants as fixed
use Rattle.qt_tree.specs.declared.expression.Expr.{Expr}
use Rattle.qt_tree.specs.declared.expression.Expr.TheOpen as e
use Rattle.qt_tree.specs.declared.expression.Expr.TheOpen.{Index-F}
use Rattle.qt_tree.specs.declared.expression.Index.{Index, out-Index}
use Rattle.qt_tree.specs.declared.expression.Range.{Range}
use Rattle.qt_tree.specs.declared.expression.Scalar.{Scalar}
use Rattle.qt_tree.specs.declared.place.Place.{Place}
use Rattle.qt_tree.specs.declared.refusal.Cause.TheVariants as cause
use Rattle.qt_tree.specs.declared.refusal.TextRefusal.TheVariants as refusal
use Rattle.qt_tree.specs.declared.statement.Operand.{Operand}
use Rattle.qt_typed.specs.Choices.{qubit_count}
use Rattle.qt_typed.specs.declared.call.TypedQubit.{TypedQubit}
use Rattle.qt_typed.specs.declared.call.TypedQubit.TheVariants as qubit
use Rattle.qt_typed.specs.declared.call.TypedQubits.{TypedQubits}
use Rattle.qt_typed.specs.declared.call.TypedQubits.TheVariants as qubits
use Rattle.qt_typed.specs.declared.expression.TypedExpr.{TypedExpr}
use Rattle.qt_value.specs.declared.types.ValueType.{ValueType}
use Rattle.qt_typing.specs.declared.indexes.Slice.{Slice}
use Rattle.qt_typing.specs.declared.names.Names.{Names}
use Rattle.qt_typing.specs.Checked.{Checked, and_then, unless, or_refuse, told}
use Rattle.qt_typing.specs.Sorts.{is_fixed}
use Rattle.qt_typing.specs.Indexes.{whole_index, fixed_place, range_places}
use Rattle.qt_typing.specs.Expressions.{or_unfit, typed_of}

-- ---- what names stand for qubits

abbrev pub single_or_register : List ℕ → List FixedQubit → Option TypedQubits
single_or_register [] (q ∷ register) = Some (qubits.Single (qubit.Fixed q))
single_or_register [] [] = None
single_or_register (size ∷ rest) register = Some (qubits.Register register)

-- a subroutine's single qubit is known by its slot
abbrev pub qubits_kept : List ℕ → Places → Option TypedQubits
qubits_kept lengths (places.Qubits register) = single_or_register lengths register
qubits_kept [] (places.Number slot) = Some (qubits.Single (qubit.Slot slot))
qubits_kept _ _ = None

abbrev pub qubits_without_type : Option ValueType → Named → Option TypedQubits
qubits_without_type None it = qubits_kept it.lengths it.places
qubits_without_type (Some kind) it = None

abbrev pub qubits_of_kind : What → Named → Option TypedQubits
qubits_of_kind what.Qubits it = qubits_kept it.lengths it.places
qubits_of_kind what.Alias it = qubits_kept it.lengths it.places
qubits_of_kind what.Parameter it = qubits_without_type it.of it
qubits_of_kind _ it = None

unfoldable pub qubits_of : Named → Option TypedQubits
qubits_of it = qubits_of_kind it.what it

unfoldable pub qubits_named : Names → Place → Name → Checked TypedQubits
qubits_named names place name = and_then (finding names.scopes name place) (λ it. or_unfit place name (qubits_of it))

-- ---- one qubit twice

unfoldable pub is_same_qubit : FixedQubit → FixedQubit → Bool
is_same_qubit (fixed.Number a) (fixed.Number b) = nat_eq a b
is_same_qubit (fixed.OfParameter p a) (fixed.OfParameter q b) = nat_eq p q && nat_eq a b
is_same_qubit _ _ = false

abbrev pub contains : List FixedQubit → FixedQubit → Bool
contains [] q = false
contains (a ∷ register) q = is_same_qubit a q || contains register q

unfoldable pub overlaps : List FixedQubit → List FixedQubit → Bool
overlaps register [] = false
overlaps register (q ∷ others) = contains register q || overlaps register others

abbrev pub fixed_qubits : TypedQubits → List FixedQubit
fixed_qubits (qubits.Single (qubit.Fixed q)) = q ∷ []
fixed_qubits (qubits.Single _) = []
fixed_qubits (qubits.Register register) = register

abbrev pub is_same_slot : TypedQubits → TypedQubits → Bool
is_same_slot (qubits.Single (qubit.Slot a)) (qubits.Single (qubit.Slot b)) = nat_eq a b
is_same_slot _ _ = false

-- a fixed qubit, or one name of a single qubit, that stands there already
unfoldable pub repeats : List TypedQubits → TypedQubits → Bool
repeats [] q = false
repeats (a ∷ done) q = (overlaps (fixed_qubits a) (fixed_qubits q) || is_same_slot a q) || repeats done q

-- ---- indexes

abbrev pub register_of : Place → TypedQubits → Checked (List FixedQubit)
register_of place (qubits.Register register) = Ok register
register_of place (qubits.Single q) = Err (refusal.E10 place)

abbrev pub is_register : TypedQubits → Bool
is_register (qubits.Register register) = true
is_register (qubits.Single q) = false

-- the qubit at a constant index
unfoldable pub fixed_in : Names → Place → List FixedQubit → Expr → Checked FixedQubit
fixed_in names place register expr =
    and_then (fixed_place names mode.Plain place (length register) expr) (λ n.
    or_refuse (refusal.E12 place cause.Range) (slice_get register n))

unfoldable pub indexed_in : Names → Place → List FixedQubit → Expr → TypedExpr → Checked TypedQubits
indexed_in names place register expr form =
    if is_fixed names expr
    then and_then (fixed_in names place register expr) (λ q. Ok (qubits.Single (qubit.Fixed q)))
    else Ok (qubits.Single (qubit.Indexed register form))

-- an index is typed first
unfoldable pub qubit_in : Names → Place → TypedQubits → Expr → Checked TypedQubits
qubit_in names place of expr =
    and_then (typed_of names mode.Plain place expr) (λ x.
    and_then (whole_index place true x) (λ form.
    and_then (register_of place of) (λ register. indexed_in names place register expr form)))

unfoldable pub qubits_in_range : Names → Place → TypedQubits → Range → Checked TypedQubits
qubits_in_range names place of range =
    and_then (range_places names mode.Plain place (is_register of) (qubit_count of) range) (λ (s : Slice).
    Ok (qubits.Register (stepped (fixed_qubits of) s.start s.step s.count)))

-- the qubits of a set, in its order: none stands there twice
unfoldable pub set_from : Names → Place → List FixedQubit → List FixedQubit → List Expr → Checked (List FixedQubit)
set_from names place register done [] = Ok done
set_from names place register done (expr ∷ rest) =
    and_then (fixed_in names place register expr) (λ q.
    and_then (unless (contains done q) (refusal.E11 place cause.Qubit)) (λ _. set_from names place register (done ++ q ∷ []) rest))

unfoldable pub qubits_in_set : Names → Place → TypedQubits → List Expr → Checked TypedQubits
qubits_in_set names place of exprs =
    and_then (register_of place of) (λ register.
    and_then (set_from names place register [] exprs) (λ chosen. Ok (qubits.Register chosen)))

abbrev pub qubits_by : Names → Place → TypedQubits → Index-F Expr Index Scalar Range → Checked TypedQubits
qubits_by names place of (e.At expr) = qubit_in names place of expr
qubits_by names place of (e.Range range) = qubits_in_range names place of range
qubits_by names place of (e.Set exprs) = qubits_in_set names place of exprs

unfoldable pub qubits_indexed : Names → Place → TypedQubits → Option Index → Checked TypedQubits
qubits_indexed names place of None = Ok of
qubits_indexed names place of (Some index) = qubits_by names place of (out-Index index)

-- ---- operands

unfoldable pub qubits_at : Names → Place → Name → Option Index → Checked TypedQubits
qubits_at names place name index = and_then (qubits_named names place name) (λ of. qubits_indexed names place of index)

unfoldable pub operand_qubits : Names → Place → Operand → Checked TypedQubits
operand_qubits names place operand = qubits_at names place operand.name operand.index

-- qubits whose places are known before the run
unfoldable pub known_places : Place → TypedQubits → Checked (List FixedQubit)
known_places place (qubits.Register register) = Ok register
known_places place (qubits.Single (qubit.Fixed q)) = Ok (q ∷ [])
known_places place (qubits.Single _) = Err (refusal.E11 place cause.Register)

-- so many bits take the outcomes of so many qubits
unfoldable pub outcomes_fit : Place → ℕ → TypedQubits → Checked (Unit {0})
outcomes_fit place width of = unless (not (nat_eq width (qubit_count of))) (refusal.E14 place width (told (qubit_count of)))
