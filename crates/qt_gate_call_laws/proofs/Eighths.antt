-- A primitive whose angles are multiples of π/4 has the matrix of these.
use Rattle.std.proofs.Common.{◌≡◌, ℕ, List, refl, sym, ap, subst, ◌∙◌, Option, Some, None}
use Rattle.qt_ring.specs.Matrix.{Operator, twice_u}
use Rattle.qt_gate_calls.specs.Faults.{EighthPrimitive, turned_by, phased_by, with_eighths}
use Rattle.qt_gate_calls.specs.Primitives.{Turned, Phased, Primitive}
use Rattle.qt_gate_calls.specs.Units.{KnownUnits, eighth_known, root_at}
use Rattle.qt_code.specs.Tail.{under_ones, under_zeros, operands_of}
use Rattle.qt_code.specs.Tail as code
use Rattle.qt_gate_laws.specs.Primitives.{operator_of, qubits_of}

some_is : (a b : EighthPrimitive) → Some a ≡ Some b → a ≡ b
some_is a b e = cc

no_some : {A : Type 0} (b : EighthPrimitive) → None ≡ Some b → A
no_some b e = absurd (cc)

-- the same operator on the same qubits
pub record Means (x : Primitive) (e : EighthPrimitive) : Type 0 where
  pub operator : code.operator_of e ≡ operator_of x
  pub qubits : operands_of e ≡ qubits_of x

abbrev u_by : List ℕ → List ℕ → Option ℕ → Option ℕ → Option ℕ → Operator
u_by ones zeros i j k =
    under_ones ones (under_zeros zeros (record { size = 1; halvings = 1; entries = twice_u (root_at i) (root_at j) (root_at k) }))

turned_means : (ones zeros : List ℕ) (q : ℕ) (a b c : KnownUnits) (e : EighthPrimitive) (i j k : Option ℕ) → eighth_known a ≡ i
    → eighth_known b ≡ j → eighth_known c ≡ k → turned_by ones zeros q i j k ≡ Some e → Means (Turned ones zeros q a b c) e
turned_means ones zeros q a b c e None j k f g h s = no_some e s
turned_means ones zeros q a b c e (Some i) None k f g h s = no_some e s
turned_means ones zeros q a b c e (Some i) (Some j) None f g h s = no_some e s
turned_means ones zeros q a b c e (Some i) (Some j) (Some k) f g h s =
    subst (Means (Turned ones zeros q a b c)) (some_is (Turned ones zeros q i j k) e s) (record {
      operator = sym (ap (λ t. u_by ones zeros t (eighth_known b) (eighth_known c)) f
          ∙ ap (λ t. u_by ones zeros (Some i) t (eighth_known c)) g ∙ ap (u_by ones zeros (Some i) (Some j)) h);
      qubits = refl;
    })

phased_means : (ones zeros : List ℕ) (a : KnownUnits) (e : EighthPrimitive) (i : Option ℕ) → eighth_known a ≡ i
    → phased_by ones zeros i ≡ Some e → Means (Phased ones zeros a) e
phased_means ones zeros a e None f s = no_some e s
phased_means ones zeros a e (Some i) f s =
    subst (Means (Phased ones zeros a)) (some_is (Phased ones zeros i) e s) (record {
      operator = sym (ap (λ t. under_ones ones (under_zeros zeros (record { size = 0; halvings = 0; entries = λ x y. root_at t }))) f);
      qubits = refl;
    })

pub eighths_mean : (x : Primitive) (e : EighthPrimitive) → with_eighths x ≡ Some e → Means x e
eighths_mean (Turned ones zeros q a b c) e s = turned_means ones zeros q a b c e (eighth_known a) (eighth_known b) (eighth_known c) refl refl refl s
eighths_mean (Phased ones zeros a) e s = phased_means ones zeros a e (eighth_known a) refl s
