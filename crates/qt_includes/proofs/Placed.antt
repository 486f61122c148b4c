-- What the steps find, put together: items that are in place one after another, those of an included text, and the main text.
use Rattle.std.proofs.Common.{◌≡◌, ℕ, ◌+◌, true, List, [], ◌∷◌, ◌++◌, length, reverse, Option, Some, None, Result, Ok, Err, sym, ap, ◌∙◌, subst}
use Rattle.std.proofs.lemmas.List.{reverse-append, reverse-reverse}
use Rattle.qt_outside.specs.Causes.{Texts, text_of}
use Rattle.qt_read.specs.Reading.{IsTextOfProgram}
use Rattle.qt_tree.specs.declared.place.Place.{Place}
use Rattle.qt_tree.specs.declared.program.Item.{Item}
use Rattle.qt_includes.specs.declared.fetching.Begun.{Begun}
use Rattle.qt_includes.specs.declared.gathered.Gathered.{Gathered}
use Rattle.qt_includes.specs.declared.refusal.IncludeRefusal.{IncludeRefusal}
use Rattle.qt_includes.specs.declared.refusal.IncludeRefusal.TheVariants.{Shelf, Text, OutOfMemory}
use Rattle.qt_includes.specs.Includes.{Stop, asks, refuses, include_of, nothing, asked, begun, kept, fits, IsUnread, awaited, refused, PutsInPlace, all_placed, stays, unread, stopped, included, IsProgramOf, StopsAt, at_once, later}
use Rattle.qt_includes.specs.Steps.{HasBegun, HasPlaced, HasAdvanced, HasGathered, ComesTo, program_of}

-- ---- items

module _ (texts : Texts) (depth : ℕ) (it : Item) (g : Gathered) where
  -- an item that includes no text is in place
  pub stays_advanced : (now : Gathered) → include_of it ≡ None → now ≡ kept g it → HasAdvanced texts depth it g (Ok tt) now
  stays_advanced now none is = λ rest stop last h. stays depth it rest g last stop none (subst (λ n. PutsInPlace texts depth rest n stop last) is h)

  module _ (place : Place) (name : List ℕ) (is : include_of it ≡ Some (place, name)) (fit : fits depth g ≡ true) where
    -- the included text isn't read
    pub begun_stops : (e : IncludeRefusal) (now : Gathered) → HasBegun texts name g (Err e) now → HasAdvanced texts depth it g (Err e) now
    begun_stops (Shelf of) now h = λ rest.
        subst (λ n. PutsInPlace texts depth (it ∷ rest) g (Some (asks n)) now) (sym h.0)
        (subst (PutsInPlace texts depth (it ∷ rest) g (Some (asks name))) (sym h.1) (unread depth it rest g place name (asks name) is fit awaited))
    begun_stops (Text reason) now h = λ rest.
        subst (PutsInPlace texts depth (it ∷ rest) g (Some (refuses reason))) (sym h.1) (unread depth it rest g place name (refuses reason) is fit (refused reason h.0))
    begun_stops OutOfMemory now h = tt

    module _ (b : Begun) (mid : Gathered) (h : HasBegun texts name g (Ok b) mid) where
      abbrev order : reverse b.waiting ≡ h.0.items
      order = ap reverse h.3 ∙ reverse-reverse h.0.items

      below : (stop : Option Stop) (now : Gathered) → PutsInPlace texts (depth + 1) (reverse b.waiting) mid stop now → PutsInPlace texts (depth + 1) h.0.items (begun g name h.0) stop now
      below stop now p =
          subst (λ m. PutsInPlace texts (depth + 1) h.0.items m stop now) h.2
          (subst (λ l. PutsInPlace texts (depth + 1) l mid stop now) order p)

      -- the items of the included text are in place, or one has stopped
      pub text_advanced : (result : Result (Unit {0}) IncludeRefusal) (now : Gathered) → HasPlaced texts (depth + 1) (reverse b.waiting) mid result now → HasAdvanced texts depth it g result now
      text_advanced (Ok u) now p = λ rest stop last q. included depth it rest g now last place name h.0 stop is fit h.1 (below None now p) q
      text_advanced (Err (Shelf of)) now p = λ rest. stopped depth it rest g now place name h.0 (asks of) is fit h.1 (below (Some (asks of)) now p)
      text_advanced (Err (Text reason)) now p = λ rest. stopped depth it rest g now place name h.0 (refuses reason) is fit h.1 (below (Some (refuses reason)) now p)
      text_advanced (Err OutOfMemory) now p = tt

module _ (texts : Texts) (depth : ℕ) (all waiting : List Item) (g first : Gathered)
    (along : (stop : Option Stop) (last : Gathered) → PutsInPlace texts depth (reverse waiting) g stop last → PutsInPlace texts depth all first stop last) where
  -- no item waits
  pub ended : waiting ≡ [] → PutsInPlace texts depth all first None g
  ended none = along None g (subst (λ w. PutsInPlace texts depth (reverse w) g None g) (sym none) (all_placed depth g))

  module _ (before : List Item) (it : Item) (is : waiting ≡ before ++ it ∷ []) where
    next_first : reverse waiting ≡ it ∷ reverse before
    next_first = ap reverse is ∙ reverse-append before (it ∷ [])

    out : (stop : Option Stop) (now : Gathered) → PutsInPlace texts depth (it ∷ reverse before) g stop now → PutsInPlace texts depth all first stop now
    out stop now p = along stop now (subst (λ l. PutsInPlace texts depth l g stop now) (sym next_first) p)

    -- the next item has stopped
    pub stops_all : (e : IncludeRefusal) (now : Gathered) → HasAdvanced texts depth it g (Err e) now → HasPlaced {A = Unit {0}} texts depth all first (Err e) now
    stops_all (Shelf of) now h = out (Some (asks of)) now (h (reverse before))
    stops_all (Text reason) now h = out (Some (refuses reason)) now (h (reverse before))
    stops_all OutOfMemory now h = tt

    -- the next item is in place
    pub goes_on : (u : Unit {0}) (now : Gathered) → HasAdvanced texts depth it g (Ok u) now
        → (stop : Option Stop) (last : Gathered) → PutsInPlace texts depth (reverse before) now stop last → PutsInPlace texts depth all first stop last
    goes_on u now h stop last p = out stop last (h (reverse before) stop last p)

-- ---- the main text

module _ (texts : Texts) (name : List ℕ) (g : Gathered) (none : g ≡ nothing) where
  -- it isn't read
  pub main_unread : (e : IncludeRefusal) (now : Gathered) → HasBegun texts name g (Err e) now → HasGathered texts name (Err e) now
  main_unread (Shelf of) now h =
      let names : now.names ≡ name ∷ [] = ap (λ (m : Gathered). m.names) (h.1 ∙ ap (λ m. asked m name) none) in
      subst (λ n. StopsAt texts name now.names (asks n)) (sym h.0) (subst (λ l. StopsAt texts name l (asks name)) (sym names) (at_once (asks name) awaited))
  main_unread (Text reason) now h =
      let names : now.names ≡ name ∷ [] = ap (λ (m : Gathered). m.names) (h.1 ∙ ap (λ m. asked m name) none) in
      let unread : IsUnread texts nothing name (refuses reason) = subst (λ m. IsUnread texts m name (refuses reason)) none (refused reason h.0) in
      subst (λ l. StopsAt texts name l (refuses reason)) (sym names) (at_once (refuses reason) unread)
  main_unread OutOfMemory now h = tt

  module _ (b : Begun) (mid : Gathered) (h : HasBegun texts name g (Ok b) mid) where
    abbrev main_order : reverse b.waiting ≡ h.0.items
    main_order = ap reverse h.3 ∙ reverse-reverse h.0.items

    abbrev read : IsTextOfProgram 0 (text_of texts name) h.0
    read = subst (λ (m : Gathered). IsTextOfProgram (length m.names) (text_of texts name) h.0) none h.1

    main_below : (stop : Option Stop) (now : Gathered) → PutsInPlace texts 0 (reverse b.waiting) mid stop now → PutsInPlace texts 0 h.0.items (begun nothing name h.0) stop now
    main_below stop now p =
        subst (λ m. PutsInPlace texts 0 h.0.items m stop now) (h.2 ∙ ap (λ m. begun m name h.0) none)
        (subst (λ l. PutsInPlace texts 0 l mid stop now) main_order p)

    -- one of its items has stopped
    pub main_stopped : (e : IncludeRefusal) (now : Gathered) → HasPlaced {A = Unit {0}} texts 0 (reverse b.waiting) mid (Err e) now → HasGathered texts name (Err e) now
    main_stopped (Shelf of) now p = later h.0 (asks of) now read (main_below (Some (asks of)) now p)
    main_stopped (Text reason) now p = later h.0 (refuses reason) now read (main_below (Some (refuses reason)) now p)
    main_stopped OutOfMemory now p = tt

    -- all of them are in place
    pub main_placed : (now : Gathered) → PutsInPlace texts 0 (reverse b.waiting) mid None now → IsProgramOf texts name now.names (program_of now b.end)
    main_placed now p = record { main = h.0; read = read; placed = main_below None now p; ends = h.4 }

pub refused_comes : (texts : Texts) (name : List ℕ) (now : Gathered) (e : IncludeRefusal) → HasGathered texts name (Err e) now → ComesTo texts name now.names (Err e)
refused_comes texts name now (Shelf of) h = h
refused_comes texts name now (Text reason) h = h
refused_comes texts name now OutOfMemory h = h
