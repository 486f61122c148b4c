-- What a writer took of a piece, part by part.
use Rattle.std.proofs.Common.{◌≡◌, ℕ, ◌≤◌, List, [], ◌++◌, length, take, drop, sym, ap, ◌∙◌, subst, arith}
use Rattle.std.proofs.Common.{Option, Some, None, append_assoc, append-nil, length-append}
use Rattle.std.proofs.Math.Seq.{take-append_seam}
use Rattle.std.proofs.lemmas.List.{take-append-drop}
use Rattle.std.specs.Prelude.{Result, Ok, Err}
use Rattle.std.specs.Result.{result_unwrap_or}
use Rattle.std.specs.Io.KnownBytes.{Appends, WriteAppends}

-- a writer that fails has taken nothing
pub taken : {E : Type 0} (before now : Option (List ℕ)) (part : List ℕ) (result : Result ℕ E) → WriteAppends before now result part
    → Appends before now (take (result_unwrap_or result 0) part)
taken before now part (Ok count) h = h
taken None now part (Err e) h = tt
taken (Some old) None part (Err e) h = absurd h
taken (Some old) (Some now) part (Err e) h = h ∙ sym (append-nil old)

-- one part more was taken
pub more_taken : (before now after : Option (List ℕ)) (done part : List ℕ) → Appends before now done → Appends now after part
    → Appends before after (done ++ part)
more_taken None now after done part h k = tt
more_taken (Some old) None after done part h k = absurd h
more_taken (Some old) (Some now) None done part h k = absurd k
more_taken (Some old) (Some now) (Some new) done part h k = k ∙ ap (λ t. t ++ part) h ∙ append_assoc old done part

-- where a part isn't taken, what was taken of the piece is a prefix of it
pub prefix_taken : (before now after : Option (List ℕ)) (done rest piece : List ℕ) (count : ℕ)
    → done ++ rest ≡ piece → Appends before now done → count ≡ 0 → Appends now after (take count rest)
    → (taken : ℕ) × (taken ≤ length piece) × Appends before after (take taken piece)
prefix_taken before now after done rest piece count parts h none k =
    let begins : take (length done) piece ≡ done = ap (take (length done)) (sym parts) ∙ take-append_seam done rest in
    let nothing : Appends now after [] = subst (λ n. Appends now after (take n rest)) none k in
    let same : done ++ [] ≡ take (length done) piece = append-nil done ∙ sym begins in
    let within : length done ≤ length piece = omega (arith, length-append done rest, ap length parts) in
    (length done, within, subst (Appends before after) same (more_taken before now after done [] h nothing))

-- one part of the piece more is done
pub parts_more : (done rest piece : List ℕ) (count : ℕ) → done ++ rest ≡ piece → (done ++ take count rest) ++ drop count rest ≡ piece
parts_more done rest piece count parts =
    append_assoc done (take count rest) (drop count rest) ∙ ap (λ t. done ++ t) (take-append-drop count rest) ∙ parts
