-- Lists of terminals, and what a stream keeps of them.
use Rattle.std.proofs.Common.{◌≡◌, ℕ, zero, suc, ◌≤◌, ◌<◌, List, [], ◌∷◌, length, map, get_or, refl, ap, arith}
use Rattle.std.proofs.lemmas.List.{get_or_past}
use Rattle.std.proofs.Math.ListN.{set}
use Rattle.qt_lex.specs.declared.tokens.Token.{Token}
use Rattle.qt_terminals.specs.declared.terminal.Terminal.{Terminal}
use Rattle.qt_terminals.specs.declared.terminal.Terminal.TheVariants as w
use Rattle.qt_terminals.specs.Terminals.{PlacedTerminal, spelling_of, terminals_behind, terminal_at, behind, with_terminal, stream, past_the_end}
use Rattle.qt_terminals.specs.Found.{found, all_found, counts_behind}

pub all_found_all : (text : List ℕ) (n : ℕ) (ts : List Token) → all_found text ts (map (terminal_at text) ts) (counts_behind n (map (terminal_at text) ts)) ≡ terminals_behind text n ts
all_found_all text n [] = refl
all_found_all text n (t ∷ ts) = ap (λ rest. found text t (terminal_at text t) n ∷ rest) (all_found_all text (behind n (terminal_at text t)) ts)

pub length-all_found : (text : List ℕ) (ts : List Token) (ws : List Terminal) (ns : List ℕ) → length ws ≡ length ts → length ns ≡ length ts → length (all_found text ts ws ns) ≡ length ts
length-all_found text [] ws ns e f = refl
length-all_found text (t ∷ ts) [] ns e f = absurd (omega (arith, e))
length-all_found text (t ∷ ts) (w ∷ ws) [] e f = absurd (omega (arith, f))
length-all_found text (t ∷ ts) (w ∷ ws) (n ∷ ns) e f = let h : length (all_found text ts ws ns) ≡ length ts = length-all_found text ts ws ns (omega (arith, e)) (omega (arith, f)) in omega (arith, h)

-- the terminal of a token, by the terminals that are kept
pub terminal_found : (text : List ℕ) (ts : List Token) (ws : List Terminal) (ns : List ℕ) (at : ℕ) → length ws ≡ length ts → length ns ≡ length ts
    → (stream (all_found text ts ws ns) at).terminal ≡ get_or ws at w.End
terminal_found text [] [] [] at e f = refl
terminal_found text [] (w ∷ ws) ns at e f = absurd (omega (arith, e))
terminal_found text [] [] (n ∷ ns) at e f = absurd (omega (arith, f))
terminal_found text (t ∷ ts) [] ns at e f = absurd (omega (arith, e))
terminal_found text (t ∷ ts) (w ∷ ws) [] at e f = absurd (omega (arith, f))
terminal_found text (t ∷ ts) (w ∷ ws) (n ∷ ns) zero e f = refl
terminal_found text (t ∷ ts) (w ∷ ws) (n ∷ ns) (suc at) e f = terminal_found text ts ws ns at (omega (arith, e)) (omega (arith, f))

pub operators_found : (text : List ℕ) (ts : List Token) (ws : List Terminal) (ns : List ℕ) (at : ℕ) → length ws ≡ length ts → length ns ≡ length ts
    → (stream (all_found text ts ws ns) at).operators ≡ get_or ns at 0
operators_found text [] [] [] at e f = refl
operators_found text [] (w ∷ ws) ns at e f = absurd (omega (arith, e))
operators_found text [] [] (n ∷ ns) at e f = absurd (omega (arith, f))
operators_found text (t ∷ ts) [] ns at e f = absurd (omega (arith, e))
operators_found text (t ∷ ts) (w ∷ ws) [] at e f = absurd (omega (arith, f))
operators_found text (t ∷ ts) (w ∷ ws) (n ∷ ns) zero e f = refl
operators_found text (t ∷ ts) (w ∷ ws) (n ∷ ns) (suc at) e f = operators_found text ts ws ns at (omega (arith, e)) (omega (arith, f))

-- the token that is found at a place within
pub token_found : (text : List ℕ) (ts : List Token) (ws : List Terminal) (ns : List ℕ) (at : ℕ) (t : Token) → at < length ts → length ws ≡ length ts → length ns ≡ length ts
    → stream (all_found text ts ws ns) at ≡ found text (get_or ts at t) (get_or ws at w.End) (get_or ns at 0)
token_found text [] ws ns at u lt e f = absurd (omega (arith, lt))
token_found text (t ∷ ts) [] ns at u lt e f = absurd (omega (arith, e))
token_found text (t ∷ ts) (w ∷ ws) [] at u lt e f = absurd (omega (arith, f))
token_found text (t ∷ ts) (w ∷ ws) (n ∷ ns) zero u lt e f = refl
token_found text (t ∷ ts) (w ∷ ws) (n ∷ ns) (suc at) u lt e f = token_found text ts ws ns at u (omega (arith, lt)) (omega (arith, e)) (omega (arith, f))

pub nothing_found : (text : List ℕ) (ts : List Token) (ws : List Terminal) (ns : List ℕ) (at : ℕ) → length ts ≤ at → length ws ≡ length ts → length ns ≡ length ts
    → stream (all_found text ts ws ns) at ≡ past_the_end
nothing_found text ts ws ns at le e f =
    get_or_past (all_found text ts ws ns) at past_the_end (let l : length (all_found text ts ws ns) ≡ length ts = length-all_found text ts ws ns e f in omega (arith, l, le))

pub place_found : (text : List ℕ) (ts : List Token) (ws : List Terminal) (ns : List ℕ) (at : ℕ) (t : Token) → at < length ts → length ws ≡ length ts → length ns ≡ length ts
    → (stream (all_found text ts ws ns) at).place ≡ (get_or ts at t).place
place_found text ts ws ns at t lt e f = ap (λ (x : PlacedTerminal). x.place) (token_found text ts ws ns at t lt e f)

pub spelling_found : (text : List ℕ) (ts : List Token) (ws : List Terminal) (ns : List ℕ) (at : ℕ) (t : Token) → at < length ts → length ws ≡ length ts → length ns ≡ length ts
    → (stream (all_found text ts ws ns) at).spelling ≡ spelling_of text (get_or ts at t)
spelling_found text ts ws ns at t lt e f = ap (λ (x : PlacedTerminal). x.spelling) (token_found text ts ws ns at t lt e f)

pub replaced_found : (text : List ℕ) (ts : List Token) (ws : List Terminal) (ns : List ℕ) (at : ℕ) (terminal : Terminal)
    → all_found text ts (set ws at terminal) ns ≡ with_terminal (all_found text ts ws ns) at terminal
replaced_found text [] ws ns at terminal = refl
replaced_found text (t ∷ ts) [] ns at terminal = refl
replaced_found text (t ∷ ts) (w ∷ ws) [] zero terminal = refl
replaced_found text (t ∷ ts) (w ∷ ws) [] (suc at) terminal = refl
replaced_found text (t ∷ ts) (w ∷ ws) (n ∷ ns) zero terminal = refl
replaced_found text (t ∷ ts) (w ∷ ws) (n ∷ ns) (suc at) terminal = ap (λ rest. found text t w n ∷ rest) (replaced_found text ts ws ns at terminal)

pub length-counts_behind : (n : ℕ) (ws : List Terminal) → length (counts_behind n ws) ≡ length ws
length-counts_behind n [] = refl
length-counts_behind n (w ∷ ws) = let h : length (counts_behind (behind n w) ws) ≡ length ws = length-counts_behind (behind n w) ws in omega (arith, h)

pub with_terminal_past : (ts : List PlacedTerminal) (at : ℕ) (terminal : Terminal) → length ts ≤ at → with_terminal ts at terminal ≡ ts
with_terminal_past [] at terminal le = refl
with_terminal_past (t ∷ ts) zero terminal le = absurd (omega (arith, le))
with_terminal_past (t ∷ ts) (suc at) terminal le = ap (λ rest. t ∷ rest) (with_terminal_past ts at terminal (omega (arith, le)))
