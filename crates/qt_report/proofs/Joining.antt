-- Pieces that are written one by one with a space between each two.
use Rattle.std.proofs.Common.{◌≡◌, ℕ, zero, suc, ◌+◌, ◌<◌, List, [], ◌∷◌, ◌++◌, ap, sym, ◌∙◌, arith, append_assoc, append-nil, add-one}
use Rattle.std.specs.List.{flat_map, join_with_byte}

-- what is still to be written after so many pieces: each piece has a space in front, but for the first of all
abbrev pub rest_joined : ℕ → List (List ℕ) → List ℕ
rest_joined zero pieces = join_with_byte 32 pieces
rest_joined (suc written) pieces = flat_map (λ piece. 32 ∷ piece) pieces

join_with_byte-cons : (piece : List ℕ) (pieces : List (List ℕ)) → join_with_byte 32 (piece ∷ pieces) ≡ piece ++ flat_map (λ p. 32 ∷ p) pieces
join_with_byte-cons piece [] = sym (append-nil piece)
join_with_byte-cons piece (next ∷ pieces) = ap (λ rest. piece ++ (32 ∷ rest)) (join_with_byte-cons next pieces)

-- the first piece is written as it is
pub first_written : (before after whole piece : List ℕ) (pieces : List (List ℕ)) (written : ℕ) → written ≡ 0
    → after ≡ before ++ piece → before ++ rest_joined written (piece ∷ pieces) ≡ whole → after ++ rest_joined (written + 1) pieces ≡ whole
first_written before after whole piece pieces zero none e h =
    rw (e, append_assoc) (ap (λ rest. before ++ rest) (sym (join_with_byte-cons piece pieces)) ∙ h)
first_written before after whole piece pieces (suc written) none e h = absurd (omega (arith, none))

-- a later one behind a space
pub later_written : (before after whole piece : List ℕ) (pieces : List (List ℕ)) (written : ℕ) → 0 < written
    → after ≡ (before ++ 32 ∷ []) ++ piece → before ++ rest_joined written (piece ∷ pieces) ≡ whole → after ++ rest_joined (written + 1) pieces ≡ whole
later_written before after whole piece pieces zero some e h = absurd (omega (arith, some))
later_written before after whole piece pieces (suc written) some e h = rw (e, add-one) (simp append_assoc h)

-- nothing is left
pub all_written : (text whole : List ℕ) (pieces : List (List ℕ)) (written : ℕ) → pieces ≡ [] → text ++ rest_joined written pieces ≡ whole → text ≡ whole
all_written text whole pieces zero none h = sym (append-nil text) ∙ (rw none at h)
all_written text whole pieces (suc written) none h = sym (append-nil text) ∙ (rw none at h)
