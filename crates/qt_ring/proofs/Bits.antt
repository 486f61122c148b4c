-- Basis states with one bit put in or several written in, and the bits that are read back.
use Rattle.std.proofs.Common.{◌≡◌, ◌≢◌, ℕ, zero, suc, ◌<◌, Bool, true, false, List, [], ◌∷◌, length, refl, sym, ap, ◌∙◌, arith}
use Rattle.qt_ring.specs.Places.{Bits, at, get, Free, AreQubits}
use Rattle.qt_ring.specs.Matrix.{same}

-- the list has n bits
abbrev pub Long : ℕ → Bits → Type 0
Long zero [] = Unit {0}
Long zero (b ∷ x) = ⊥
Long (suc n) [] = ⊥
Long (suc n) (b ∷ x) = Long n x

-- x with one bit replaced
abbrev pub put : ℕ → Bool → Bits → Bits
put q c [] = []
put zero c (b ∷ x) = c ∷ x
put (suc q) c (b ∷ x) = b ∷ put q c x

-- x with the chosen bits replaced by those of z
abbrev pub write : List ℕ → Bits → Bits → Bits
write [] z x = x
write (q ∷ qs) [] x = x
write (q ∷ qs) (b ∷ z) x = write qs z (put q b x)

pub at_put_same : (n q : ℕ) (b : Bool) (x : Bits) → q < n → Long n x → at q (put q b x) ≡ b
at_put_same zero q b x h l = absurd (omega arith)
at_put_same (suc n) q b [] h l = absurd l
at_put_same (suc n) zero b (c ∷ x) h l = refl
at_put_same (suc n) (suc q) b (c ∷ x) h l = at_put_same n q b x (omega arith) l

pub at_put_other : (q r : ℕ) (b : Bool) (x : Bits) → q ≢ r → at q (put r b x) ≡ at q x
at_put_other q r b [] h = refl
at_put_other zero zero b (c ∷ x) h = absurd (h refl)
at_put_other zero (suc r) b (c ∷ x) h = refl
at_put_other (suc q) zero b (c ∷ x) h = refl
at_put_other (suc q) (suc r) b (c ∷ x) h = at_put_other q r b x (λ e. h (ap suc e))

pub put_at : (q : ℕ) (x : Bits) → put q (at q x) x ≡ x
put_at q [] = refl
put_at zero (c ∷ x) = refl
put_at (suc q) (c ∷ x) = ap (λ y. c ∷ y) (put_at q x)

pub put_put_same : (q : ℕ) (b c : Bool) (x : Bits) → put q b (put q c x) ≡ put q b x
put_put_same q b c [] = refl
put_put_same zero b c (d ∷ x) = refl
put_put_same (suc q) b c (d ∷ x) = ap (λ y. d ∷ y) (put_put_same q b c x)

pub put_put_other : (q r : ℕ) (b c : Bool) (x : Bits) → q ≢ r → put q b (put r c x) ≡ put r c (put q b x)
put_put_other q r b c [] h = refl
put_put_other zero zero b c (d ∷ x) h = absurd (h refl)
put_put_other zero (suc r) b c (d ∷ x) h = refl
put_put_other (suc q) zero b c (d ∷ x) h = refl
put_put_other (suc q) (suc r) b c (d ∷ x) h = ap (λ y. d ∷ y) (put_put_other q r b c x (λ e. h (ap suc e)))

pub put_long : (n q : ℕ) (b : Bool) (x : Bits) → Long n x → Long n (put q b x)
put_long n q b [] l = l
put_long zero q b (c ∷ x) l = absurd l
put_long (suc n) zero b (c ∷ x) l = l
put_long (suc n) (suc q) b (c ∷ x) l = put_long n q b x l

pub write_long : (n : ℕ) (qs : List ℕ) (z x : Bits) → Long n x → Long n (write qs z x)
write_long n [] z x l = l
write_long n (q ∷ qs) [] x l = l
write_long n (q ∷ qs) (b ∷ z) x l = write_long n qs z (put q b x) (put_long n q b x l)

pub get_long : (qs : List ℕ) (x : Bits) → Long (length qs) (get qs x)
get_long [] x = tt
get_long (q ∷ qs) x = get_long qs x

pub at_write_free : (q : ℕ) (qs : List ℕ) (z x : Bits) → Free q qs → at q (write qs z x) ≡ at q x
at_write_free q [] z x f = refl
at_write_free q (r ∷ qs) [] x f = refl
at_write_free q (r ∷ qs) (b ∷ z) x f = at_write_free q qs z (put r b x) f.1 ∙ at_put_other q r b x f.0

pub put_write_free : (q : ℕ) (c : Bool) (qs : List ℕ) (z x : Bits) → Free q qs → put q c (write qs z x) ≡ write qs z (put q c x)
put_write_free q c [] z x f = refl
put_write_free q c (r ∷ qs) [] x f = refl
put_write_free q c (r ∷ qs) (b ∷ z) x f = put_write_free q c qs z (put r b x) f.1 ∙ ap (write qs z) (put_put_other q r c b x f.0)

pub get_put_free : (q : ℕ) (c : Bool) (qs : List ℕ) (x : Bits) → Free q qs → get qs (put q c x) ≡ get qs x
get_put_free q c [] x f = refl
get_put_free q c (r ∷ qs) x f = ap (λ b. b ∷ get qs (put q c x)) (at_put_other r q c x (λ e. f.0 (sym e))) ∙ ap (λ y. at r x ∷ y) (get_put_free q c qs x f.1)

pub get_write : (n : ℕ) (qs : List ℕ) (z x : Bits) → AreQubits n qs → Long n x → Long (length qs) z → get qs (write qs z x) ≡ z
get_write n [] [] x f l m = refl
get_write n [] (b ∷ z) x f l m = absurd m
get_write n (q ∷ qs) [] x f l m = absurd m
get_write n (q ∷ qs) (b ∷ z) x f l m =
    ap (λ c. c ∷ get qs (write qs z (put q b x))) (at_write_free q qs z (put q b x) f.1 ∙ at_put_same n q b x f.0 l)
    ∙ ap (λ y. b ∷ y) (get_write n qs z (put q b x) f.2 (put_long n q b x l) m)

pub write_get : (qs : List ℕ) (x : Bits) → write qs (get qs x) x ≡ x
write_get [] x = refl
write_get (q ∷ qs) x = ap (write qs (get qs x)) (put_at q x) ∙ write_get qs x

pub write_write : (n : ℕ) (qs : List ℕ) (w z x : Bits) → AreQubits n qs → Long (length qs) w → Long (length qs) z → write qs w (write qs z x) ≡ write qs w x
write_write n [] w z x f l m = refl
write_write n (q ∷ qs) [] z x f l m = absurd l
write_write n (q ∷ qs) (b ∷ w) [] x f l m = absurd m
write_write n (q ∷ qs) (b ∷ w) (c ∷ z) x f l m =
    ap (write qs w) (put_write_free q b qs z (put q c x) f.1 ∙ ap (write qs z) (put_put_same q b c x))
    ∙ write_write n qs w z (put q b x) f.2 l m

pub same_refl : (x : Bits) → same x x ≡ true
same_refl [] = refl
same_refl (true ∷ x) = same_refl x
same_refl (false ∷ x) = same_refl x

pub same_eq : (x y : Bits) → same x y ≡ true → x ≡ y
same_eq [] [] e = refl
same_eq [] (b ∷ y) e = absurd (cc)
same_eq (true ∷ x) [] e = absurd (cc)
same_eq (false ∷ x) [] e = absurd (cc)
same_eq (true ∷ x) (true ∷ y) e = ap (λ t. true ∷ t) (same_eq x y e)
same_eq (false ∷ x) (false ∷ y) e = ap (λ t. false ∷ t) (same_eq x y e)
same_eq (true ∷ x) (false ∷ y) e = absurd (cc)
same_eq (false ∷ x) (true ∷ y) e = absurd (cc)

pub same_sym : (x y : Bits) → same x y ≡ same y x
same_sym [] [] = refl
same_sym [] (true ∷ y) = refl
same_sym [] (false ∷ y) = refl
same_sym (true ∷ x) [] = refl
same_sym (false ∷ x) [] = refl
same_sym (true ∷ x) (true ∷ y) = same_sym x y
same_sym (false ∷ x) (false ∷ y) = same_sym x y
same_sym (true ∷ x) (false ∷ y) = refl
same_sym (false ∷ x) (true ∷ y) = refl
