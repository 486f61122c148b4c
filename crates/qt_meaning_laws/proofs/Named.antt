-- The qubits that a well formed program names at a site are the program's, and as many as it says.
use Rattle.std.proofs.Common.{◌≡◌, ℕ, zero, suc, ◌+◌, ◌-◌, ◌<◌, nat_eq, nat_lt, Bool, true, false, ◌||◌, ℤ, pos, negsuc, List, [], ◌∷◌, ◌++◌, length, map, slice_index_or, Ok, Err, refl, sym, ap, subst, ◌∙◌, arith, eq-eqb}
use Rattle.std.specs.Prelude.{if◌then◌else◌}
use Rattle.std.specs.List.{All}
use borrow.Author.Tests.{ltb-true}
use Rattle.qt_ring.specs.Places.{Free, AreQubits}
use Rattle.qt_registers.specs.declared.fixed.FixedQubit.{FixedQubit}
use Rattle.qt_registers.specs.declared.fixed.FixedQubit.TheVariants as fixed
use Rattle.qt_gate_calls.specs.Numbered.{if_number}
use Rattle.qt_gate_calls.specs.Primitives.{nth_or}
use Rattle.qt_typed.specs.declared.call.TypedQubit.{TypedQubit}
use Rattle.qt_typed.specs.declared.call.TypedQubit.TheVariants as qubit
use Rattle.qt_typed.specs.declared.call.TypedQubits.{TypedQubits}
use Rattle.qt_typed.specs.declared.call.TypedQubits.TheVariants as qubits
use Rattle.qt_typed.specs.declared.expression.TypedExpr.{TypedExpr}
use Rattle.qt_typed.specs.declared.program.TypedParameter.{TypedParameter}
use Rattle.qt_typed.specs.declared.program.TypedParameter.TheVariants as parameter
use Rattle.qt_typed.specs.Choices.{qubit_count}
use Rattle.qt_typed.specs.Types.{type_of}
use Rattle.qt_value.specs.Places.{place_of}
use Rattle.qt_value.specs.declared.fault.ValueFault.TheVariants as value_fault
use Rattle.qt_value.specs.declared.types.ValueType.{ValueType}
use Rattle.qt_meaning.specs.Values.{Evaluated, Index, SameQubit, and_then, evaluated, number_of, place_in}
use Rattle.qt_meaning.specs.Expressions.{eval}
use Rattle.qt_meaning.specs.Places.{Site, fixed_number, register_number, number_named, qubit_tested, numbers_named, all_tested, register_named, register_tested, registers_named, registers_tested}
use Rattle.qt_meaning.specs.Applying.{is_among, some_twice, different, fixed_at, operands_at}
use Rattle.qt_meaning.specs.Statements.{registers_from}
use Rattle.qt_meaning.specs.WellFormed.{Scope, FixedFits, GivenFits, QubitFits, QubitsFit, OperandFits, sizes_from}
use Rattle.qt_meaning_laws.proofs.Runs.{all_first, all_later}

abbrev pub IsQubit : Scope → ℕ → Type 0
IsQubit z q = q < z.qubits

-- the site has the program's number of qubits, and registers of the parameters' sizes
pub record SiteFits (z : Scope) (at : Site) : Type 0 where
  pub same_qubits : at.qubits ≡ z.qubits
  pub sizes : (i : ℕ) → length (at.registers i) ≡ z.own i
  pub members : (i : ℕ) → All (IsQubit z) (at.registers i)

-- ---- lists

pub all_none : {A : Type 0} (Q : A → Type 0) → All Q []
all_none Q = λ k d l. absurd (omega arith)

pub all_more : {A : Type 0} (Q : A → Type 0) (a : A) (as' : List A) → Q a → All Q as' → All Q (a ∷ as')
all_more Q a as' h g = λ k d l. at k d l
  where
    at : (k : ℕ) (d : _) → k < length (a ∷ as') → Q (slice_index_or (a ∷ as') k d)
    at zero d l = h
    at (suc k) d l = g k d (omega arith)

nth_has : (Q : ℕ → Type 0) (any i : ℕ) (xs : List ℕ) → All Q xs → i < length xs → Q (nth_or any i xs)
nth_has Q any i [] h l = absurd (omega arith)
nth_has Q any zero (x ∷ xs) h l = all_first Q x xs h
nth_has Q any (suc i) (x ∷ xs) h l = nth_has Q any i xs (all_later Q x xs h) (omega arith)

length_map : {A B : Type 0} (f : A → B) (xs : List A) → length (map f xs) ≡ length xs
length_map f [] = refl
length_map f (x ∷ xs) = ap suc (length_map f xs)

-- ---- results

then_ok : {A B : Type 0} (e : Evaluated A) (rest : A → Evaluated B) (b : B) → and_then e rest ≡ Ok b → (a : A) × ((e ≡ Ok a) × (rest a ≡ Ok b))
then_ok (Ok a) rest b h = (a, (refl, h))
then_ok (Err fault) rest b h = absurd (cc)

inside : (t : Bool) (n f place : ℕ) → (t ≡ true → f < n) → evaluated (if t then Ok f else Err value_fault.Index) ≡ Ok place → place < n
inside true n f place l h = let s : f ≡ place = cc in subst (λ (k : ℕ). k < n) s (l refl)
inside false n f place l h = absurd (cc)

place_below : (i : ℤ) (n place : ℕ) → evaluated (place_of i n) ≡ Ok place → place < n
place_below (pos i) n place h = inside (nat_lt i n) n i place (λ e. ltb-true i n e) h
place_below (negsuc i) n place h = inside (nat_lt i n) n (n - suc i) place (λ e. let l = ltb-true i n e in omega arith) h

index_below : (kind : ValueType) (n i place : ℕ) → place_in n kind i ≡ Ok place → place < n
unfolding place_in
index_below kind n i place h = place_below (number_of kind i) n place h

-- ---- a qubit

module _ (z : Scope) (at : Site) (fits : SiteFits z at) where
  fixed_is : (q : FixedQubit) → FixedFits z q → IsQubit z (fixed_number at q)
  fixed_is (fixed.Number number) h = h
  fixed_is (fixed.OfParameter parameter place) h =
      nth_has (IsQubit z) 0 place (at.registers parameter) (fits.members parameter) (subst (λ (k : ℕ). place < k) (sym (fits.sizes parameter)) h)

  all_fixed : (register : List FixedQubit) → All (FixedFits z) register → All (IsQubit z) (map (fixed_number at) register)
  all_fixed [] h = all_none (IsQubit z)
  all_fixed (q ∷ qs) h = all_more (IsQubit z) (fixed_number at q) (map (fixed_number at) qs) (fixed_is q (all_first (FixedFits z) q qs h)) (all_fixed qs (all_later (FixedFits z) q qs h))

  tested_below : (t : Bool) (number m : ℕ) → nat_lt number at.qubits ≡ t → (if t then Ok number else Err Index) ≡ Ok m → IsQubit z m
  tested_below true number m e h =
      let s : number ≡ m = cc in
      subst (λ (k : ℕ). m < k) fits.same_qubits (subst (λ (k : ℕ). k < at.qubits) s (ltb-true number at.qubits e))
  tested_below false number m e h = absurd (cc)

  qubit_is : (q : TypedQubit) (store : List ℕ) (number m : ℕ) → QubitFits z q → number_named at q store ≡ Ok number → qubit_tested at q number ≡ Ok m → IsQubit z m
  qubit_is (qubit.Fixed q) store number m fit e f = let s : fixed_number at q ≡ m = cc in subst (IsQubit z) s (fixed_is q fit)
  qubit_is (qubit.Slot slot) store number m fit e f = tested_below (nat_lt number at.qubits) number m refl f
  qubit_is (qubit.Indexed register index) store number m fit e f =
      let (i, (a, b)) = then_ok (eval index at.base store) _ number e in
      let (place, (c, d)) = then_ok (place_in (length register) (type_of index) i) _ number b in
      let s : register_number at register place ≡ m = cc in
      subst (IsQubit z) s (nth_has (IsQubit z) 0 place (map (fixed_number at) register) (all_fixed register fit) (rw length_map (index_below (type_of index) (length register) i place c)))

  -- ---- qubits in a row

  -- as many as were named, each one of the program's
  pub qubits_are : (operands : List TypedQubit) (store ns ms : List ℕ) → All (QubitFits z) operands → numbers_named at operands store ≡ Ok ns → all_tested at operands ns ≡ Ok ms → All (IsQubit z) ms × (length ms ≡ length operands)
  qubits_are [] store ns [] fit e f = (all_none (IsQubit z), refl)
  qubits_are [] store ns (m ∷ ms) fit e f = absurd (cc)
  qubits_are (q ∷ qs) store [] ms fit e f =
      let (n, (a, b)) = then_ok (number_named at q store) _ [] e in
      let (ns, (c, d)) = then_ok (numbers_named at qs store) _ [] b in
      absurd (cc)
  qubits_are (q ∷ qs) store (n ∷ ns) [] fit e f =
      let (m, (a, b)) = then_ok (qubit_tested at q n) _ [] f in
      let (ms, (c, d)) = then_ok (all_tested at qs ns) _ [] b in
      absurd (cc)
  qubits_are (q ∷ qs) store (n ∷ ns) (m ∷ ms) fit e f =
      let (n', (a, b)) = then_ok (number_named at q store) _ (n ∷ ns) e in
      let (ns', (c, d)) = then_ok (numbers_named at qs store) _ (n ∷ ns) b in
      let (m', (g, h)) = then_ok (qubit_tested at q n) _ (m ∷ ms) f in
      let (ms', (i, j)) = then_ok (all_tested at qs ns) _ (m ∷ ms) h in
      let named : number_named at q store ≡ Ok n = cc in
      let others : numbers_named at qs store ≡ Ok ns = cc in
      let tested : qubit_tested at q n ≡ Ok m = cc in
      let all : all_tested at qs ns ≡ Ok ms = cc in
      let rest = qubits_are qs store ns ms (all_later (QubitFits z) q qs fit) others all in
      (all_more (IsQubit z) m ms (qubit_is q store n m (all_first (QubitFits z) q qs fit) named tested) rest.0, ap suc rest.1)

  pub register_is : (qs : TypedQubits) (store ns ms : List ℕ) → QubitsFit z qs → register_named at qs store ≡ Ok ns → register_tested at qs ns ≡ Ok ms → All (IsQubit z) ms × (length ms ≡ qubit_count qs)
  register_is (qubits.Single q) store ns ms fit e f = qubits_are (q ∷ []) store ns ms (all_more (QubitFits z) q [] fit (all_none (QubitFits z))) e f
  register_is (qubits.Register register) store ns ms fit e f =
      let s : map (fixed_number at) register ≡ ms = cc in
      (subst (All (IsQubit z)) s (all_fixed register fit), ap length (sym s) ∙ length_map (fixed_number at) register)

  -- ---- registers that are handed over

  pub registers_are : (given : List TypedQubits) (store : List ℕ) (ns ms : List (List ℕ)) → All (QubitsFit z) given → registers_named at given store ≡ Ok ns → registers_tested at given ns ≡ Ok ms → All (All (IsQubit z)) ms × (map length ms ≡ map qubit_count given)
  registers_are [] store ns [] fit e f = (all_none (All (IsQubit z)), refl)
  registers_are [] store ns (m ∷ ms) fit e f = absurd (cc)
  registers_are (q ∷ qs) store [] ms fit e f =
      let (n, (a, b)) = then_ok (register_named at q store) _ [] e in
      let (ns, (c, d)) = then_ok (registers_named at qs store) _ [] b in
      absurd (cc)
  registers_are (q ∷ qs) store (n ∷ ns) [] fit e f =
      let (m, (a, b)) = then_ok (register_tested at q n) _ [] f in
      let (ms, (c, d)) = then_ok (registers_tested at qs ns) _ [] b in
      absurd (cc)
  registers_are (q ∷ qs) store (n ∷ ns) (m ∷ ms) fit e f =
      let (n', (a, b)) = then_ok (register_named at q store) _ (n ∷ ns) e in
      let (ns', (c, d)) = then_ok (registers_named at qs store) _ (n ∷ ns) b in
      let (m', (g, h)) = then_ok (register_tested at q n) _ (m ∷ ms) f in
      let (ms', (i, j)) = then_ok (registers_tested at qs ns) _ (m ∷ ms) h in
      let named : register_named at q store ≡ Ok n = cc in
      let others : registers_named at qs store ≡ Ok ns = cc in
      let tested : register_tested at q n ≡ Ok m = cc in
      let all : registers_tested at qs ns ≡ Ok ms = cc in
      let one = register_is q store n m (all_first (QubitsFit z) q qs fit) named tested in
      let rest = registers_are qs store ns ms (all_later (QubitsFit z) q qs fit) others all in
      (all_more (All (IsQubit z)) m ms one.0 rest.0, ap (λ k. k ∷ map length ms) one.1 ∙ ap (λ ks. qubit_count q ∷ ks) rest.1)

-- ---- the registers of a subroutine's parameters

length-if_number : (n i k : ℕ) (a b : List ℕ) (s : ℕ) → length a ≡ k → length b ≡ s → length (if_number n i a b) ≡ if_number n i k s
length-if_number zero zero k a b s e f = e
length-if_number (suc n) (suc i) k a b s e f = length-if_number n i k a b s e f
length-if_number zero (suc i) k a b s e f = f
length-if_number (suc n) zero k a b s e f = f

pub if_number_is : {A : Type 0} (Q : A → Type 0) (n i : ℕ) (a b : A) → Q a → Q b → Q (if_number n i a b)
if_number_is Q zero zero a b h g = h
if_number_is Q (suc n) (suc i) a b h g = if_number_is Q n i a b h g
if_number_is Q zero (suc i) a b h g = g
if_number_is Q (suc n) zero a b h g = g

-- the sizes of what the parameters take, in order
abbrev pub sizes_taken : List TypedParameter → List ℕ
sizes_taken [] = []
sizes_taken (parameter.Value kind slot ∷ ps) = sizes_taken ps
sizes_taken (parameter.Qubit slot ∷ ps) = 1 ∷ sizes_taken ps
sizes_taken (parameter.Register slot size ∷ ps) = size ∷ sizes_taken ps

pub given_sizes : (ps : List TypedParameter) (vs : List TypedExpr) (qs : List TypedQubits) → GivenFits ps vs qs → map qubit_count qs ≡ sizes_taken ps
given_sizes [] [] [] h = refl
given_sizes [] [] (q ∷ qs) h = absurd h
given_sizes [] (v ∷ vs) qs h = absurd h
given_sizes (parameter.Value kind slot ∷ ps) [] qs h = absurd h
given_sizes (parameter.Value kind slot ∷ ps) (v ∷ vs) qs h = given_sizes ps vs qs h
given_sizes (parameter.Qubit slot ∷ ps) vs [] h = absurd h
given_sizes (parameter.Qubit slot ∷ ps) vs (qubits.Single q ∷ qs) h = ap (λ ns. 1 ∷ ns) (given_sizes ps vs qs h)
given_sizes (parameter.Qubit slot ∷ ps) vs (qubits.Register register ∷ qs) h = absurd h
given_sizes (parameter.Register slot size ∷ ps) vs [] h = absurd h
given_sizes (parameter.Register slot size ∷ ps) vs (qubits.Single q ∷ qs) h = absurd h
given_sizes (parameter.Register slot size ∷ ps) vs (qubits.Register register ∷ qs) h = let e = h.0 in let f = given_sizes ps vs qs h.1 in cc

pub own_sizes : (n : ℕ) (ps : List TypedParameter) (given : List (List ℕ)) (i : ℕ) → map length given ≡ sizes_taken ps → length (registers_from n ps given i) ≡ sizes_from n ps i
own_sizes n [] given i e = refl
own_sizes n (parameter.Value kind slot ∷ ps) given i e = own_sizes (suc n) ps given i e
own_sizes n (parameter.Qubit slot ∷ ps) [] i e = absurd (cc)
own_sizes n (parameter.Qubit slot ∷ ps) (q ∷ given) i e = own_sizes (suc n) ps given i (cc)
own_sizes n (parameter.Register slot size ∷ ps) [] i e = absurd (cc)
own_sizes n (parameter.Register slot size ∷ ps) (q ∷ given) i e = length-if_number n i size q (registers_from (suc n) ps given i) (sizes_from (suc n) ps i) (cc) (own_sizes (suc n) ps given i (cc))

pub own_members : (Q : ℕ → Type 0) (n : ℕ) (ps : List TypedParameter) (given : List (List ℕ)) (i : ℕ) → All (All Q) given → All Q (registers_from n ps given i)
own_members Q n [] given i h = all_none Q
own_members Q n (parameter.Value kind slot ∷ ps) given i h = own_members Q (suc n) ps given i h
own_members Q n (parameter.Qubit slot ∷ ps) [] i h = all_none Q
own_members Q n (parameter.Qubit slot ∷ ps) (q ∷ given) i h = own_members Q (suc n) ps given i (all_later (All Q) q given h)
own_members Q n (parameter.Register slot size ∷ ps) [] i h = all_none Q
own_members Q n (parameter.Register slot size ∷ ps) (q ∷ given) i h = if_number_is (All Q) n i q (registers_from (suc n) ps given i) (all_first (All Q) q given h) (own_members Q (suc n) ps given i (all_later (All Q) q given h))

-- ---- different qubits

neither : (a b : Bool) → (a || b) ≡ false → (a ≡ false) × (b ≡ false)
neither true b e = absurd (cc)
neither false b e = (refl, e)

pub free_of : (q : ℕ) (qs : List ℕ) → is_among q qs ≡ false → Free q qs
free_of q [] e = tt
free_of q (r ∷ rs) e =
    let both = neither (nat_eq q r) (is_among q rs) e in
    ((λ s. let t : nat_eq q r ≡ true = eq-eqb q r s in absurd (cc)), free_of q rs both.1)

qubits_of : (z : Scope) (qs : List ℕ) → All (IsQubit z) qs → some_twice qs ≡ false → AreQubits z.qubits qs
qubits_of z [] h e = tt
qubits_of z (q ∷ qs) h e =
    let both = neither (is_among q qs) (some_twice qs) e in
    (all_first (IsQubit z) q qs h, free_of q qs both.0, qubits_of z qs (all_later (IsQubit z) q qs h) both.1)

different_by : (t : Bool) (ms qs : List ℕ) → (if t then Err SameQubit else Ok ms) ≡ Ok qs → (t ≡ false) × (ms ≡ qs)
different_by true ms qs e = absurd (cc)
different_by false ms qs e = (refl, cc)

pub different_qubits : (z : Scope) (ms qs : List ℕ) → All (IsQubit z) ms → different ms ≡ Ok qs → (ms ≡ qs) × AreQubits z.qubits qs
different_qubits z ms qs h e =
    let d = different_by (some_twice ms) ms qs e in
    (d.1, subst (AreQubits z.qubits) d.1 (qubits_of z ms h d.0))

-- ---- the operands at a place of a broadcast

fixed_here : (z : Scope) (place : ℕ) (register : List FixedQubit) → place < length register → All (FixedFits z) register → (length (fixed_at place register) ≡ 1) × All (QubitFits z) (fixed_at place register)
fixed_here z place [] l h = absurd (omega arith)
fixed_here z zero (q ∷ qs) l h = (refl, all_more (QubitFits z) (qubit.Fixed q) [] (all_first (FixedFits z) q qs h) (all_none (QubitFits z)))
fixed_here z (suc place) (q ∷ qs) l h = fixed_here z place qs (omega arith) (all_later (FixedFits z) q qs h)

all_both : {A : Type 0} (Q : A → Type 0) (xs ys : List A) → All Q xs → All Q ys → All Q (xs ++ ys)
all_both Q [] ys h g = g
all_both Q (x ∷ xs) ys h g = all_more Q x (xs ++ ys) (all_first Q x xs h) (all_both Q xs ys (all_later Q x xs h) g)

length-both : {A : Type 0} (xs ys : List A) → length (xs ++ ys) ≡ length xs + length ys
length-both [] ys = omega arith
length-both (x ∷ xs) ys = let e = length-both xs ys in omega arith

pub operands_are : (z : Scope) (size place : ℕ) (operands : List TypedQubits) → place < size → All (OperandFits z size) operands → (length (operands_at place operands) ≡ length operands) × All (QubitFits z) (operands_at place operands)
operands_are z size place [] l h = (refl, all_none (QubitFits z))
operands_are z size place (qubits.Single q ∷ rest) l h =
    let later = operands_are z size place rest l (all_later (OperandFits z size) (qubits.Single q) rest h) in
    (ap suc later.0, all_more (QubitFits z) q (operands_at place rest) (all_first (OperandFits z size) (qubits.Single q) rest h) later.1)
operands_are z size place (qubits.Register register ∷ rest) l h =
    let fit = all_first (OperandFits z size) (qubits.Register register) rest h in
    let later = operands_are z size place rest l (all_later (OperandFits z size) (qubits.Register register) rest h) in
    let one = fixed_here z place register (subst (λ (k : ℕ). place < k) (sym fit.0) l) fit.1 in
    let e : length (operands_at place rest) ≡ length rest = later.0 in
    let f : length (fixed_at place register) ≡ 1 = one.0 in
    (length-both (fixed_at place register) (operands_at place rest) ∙ omega (arith, e, f), all_both (QubitFits z) (fixed_at place register) (operands_at place rest) one.1 later.1)
