-- The references of a primitive, list by list: tests of all of them, of some of them, and that fixed qubits differ.
use Rattle.std.proofs.Common.{◌≡◌, refl, sym, ◌∙◌, ap, Bool, true, false, not, ◌&&◌, ◌||◌, List, [], ◌∷◌, ◌++◌}
use Rattle.std.proofs.lemmas.List.{append_assoc}
use Rattle.std.proofs.lemmas.List.Folds.{list_all-append, list_any-append}
use Rattle.std.specs.List.{list_all, list_any}
use Rattle.qt_instructions.specs.declared.reference.QubitRef.{QubitRef}
use Rattle.qt_instructions.specs.declared.reference.QubitRef.TheVariants as qubit
use Rattle.qt_code.specs.Different.{differ, is_fixed_at, is_new}

-- ---- tests

pub not_or : (a b : Bool) → not (a || b) ≡ (not a && not b)
not_or true b = refl
not_or false b = refl

pub last_and : (a b c : Bool) → (a && (b && (c && true))) ≡ (a && b && c)
last_and false b c = refl
last_and true false c = refl
last_and true true false = refl
last_and true true true = refl

pub last_or : (a b c : Bool) → (a || (b || (c || false))) ≡ (a || b || c)
last_or true b c = refl
last_or false true c = refl
last_or false false true = refl
last_or false false false = refl

-- ---- of all references, of some

pub all_turned : (test : QubitRef → Bool) (ones zeros : List QubitRef) (q : QubitRef)
    → list_all test (ones ++ (zeros ++ (q ∷ []))) ≡ (list_all test ones && list_all test zeros && test q)
all_turned test ones zeros q =
    list_all-append test ones (zeros ++ (q ∷ []))
    ∙ ap (λ b. list_all test ones && b) (list_all-append test zeros (q ∷ []))
    ∙ last_and (list_all test ones) (list_all test zeros) (test q)

pub all_phased : (test : QubitRef → Bool) (ones zeros : List QubitRef)
    → list_all test (ones ++ zeros) ≡ (list_all test ones && list_all test zeros)
all_phased test ones zeros = list_all-append test ones zeros

pub some_turned : (test : QubitRef → Bool) (ones zeros : List QubitRef) (q : QubitRef)
    → list_any test (ones ++ (zeros ++ (q ∷ []))) ≡ (list_any test ones || list_any test zeros || test q)
some_turned test ones zeros q =
    list_any-append test ones (zeros ++ (q ∷ []))
    ∙ ap (λ b. list_any test ones || b) (list_any-append test zeros (q ∷ []))
    ∙ last_or (list_any test ones) (list_any test zeros) (test q)

pub some_phased : (test : QubitRef → Bool) (ones zeros : List QubitRef)
    → list_any test (ones ++ zeros) ≡ (list_any test ones || list_any test zeros)
some_phased test ones zeros = list_any-append test ones zeros

-- ---- fixed qubits that differ

pub is_new_append : (r : QubitRef) (xs ys : List QubitRef) → is_new r (xs ++ ys) ≡ (is_new r xs && is_new r ys)
is_new_append (qubit.At q) xs ys =
    ap not (list_any-append (is_fixed_at q) xs ys)
    ∙ not_or (list_any (is_fixed_at q) xs) (list_any (is_fixed_at q) ys)
is_new_append (qubit.Work cell) xs ys = refl

pub regrouped : (a b c d e : Bool) → ((a && b) && ((c && d) && e)) ≡ (((a && c) && (b && d)) && e)
regrouped false b c d e = refl
regrouped true false false d e = refl
regrouped true false true d e = refl
regrouped true true false d e = refl
regrouped true true true d e = refl

pub differ_append : (xs ys : List QubitRef) → differ (xs ++ ys) ≡ (differ xs && list_all (λ r. is_new r ys) xs && differ ys)
differ_append [] ys = refl
differ_append (x ∷ xs) ys =
    ap (λ b. b && differ (xs ++ ys)) (is_new_append x xs ys)
    ∙ ap (λ b. (is_new x xs && is_new x ys) && b) (differ_append xs ys)
    ∙ regrouped (is_new x xs) (is_new x ys) (differ xs) (list_all (λ r. is_new r ys) xs) (differ ys)

pub differ_one : (q : QubitRef) → differ (q ∷ []) ≡ true
differ_one (qubit.At q) = refl
differ_one (qubit.Work cell) = refl

pub last_true : (a b c : Bool) → ((a && (b && c)) && true) ≡ (a && b && c)
last_true false b c = refl
last_true true false c = refl
last_true true true false = refl
last_true true true true = refl

pub differ_turned : (ones zeros : List QubitRef) (q : QubitRef)
    → differ (ones ++ (zeros ++ (q ∷ [])))
    ≡ (differ (ones ++ zeros) && list_all (λ r. is_new r (q ∷ [])) ones && list_all (λ r. is_new r (q ∷ [])) zeros)
differ_turned ones zeros q =
    let apart : QubitRef → Bool = λ r. is_new r (q ∷ []) in
    ap differ (sym (append_assoc ones zeros (q ∷ [])))
    ∙ differ_append (ones ++ zeros) (q ∷ [])
    ∙ ap (λ b. (differ (ones ++ zeros) && list_all apart (ones ++ zeros)) && b) (differ_one q)
    ∙ ap (λ b. (differ (ones ++ zeros) && b) && true) (list_all-append apart ones zeros)
    ∙ last_true (differ (ones ++ zeros)) (list_all apart ones) (list_all apart zeros)
