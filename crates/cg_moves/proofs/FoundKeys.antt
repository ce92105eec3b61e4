-- Boards that were found, with the numbers of their keys.
use Rattle.std.proofs.Common.{◌≡◌, refl, ℕ, zero, suc, ◌<◌, inl, inr, List, [], ◌∷◌, ◌++◌, get_or, length, ap, sym, ◌∙◌, arith}
use Rattle.std.specs.Prelude.{Err, IfOk, Ok, Result, map}
use Rattle.std.proofs.lemmas.List.{length-append, length-map, map-append}
use Rattle.cg_moves.specs.declared.key.BoardKey.{BoardKey}
use Rattle.cg_moves.specs.Found.{AreFew, AreNumbers, HasKeyAt, SameSymbols}
use Rattle.cg_moves.specs.Grid.{Grid, IsGrid}
use Rattle.cg_moves.specs.Graph.{IsAt}
use Rattle.cg_moves.specs.Rules.{In}
use Rattle.cg_moves.specs.Keys.{AreGrids, key_number, key_of}
use Rattle.cg_moves.proofs.KeyLemmas.{one-key}
use Rattle.cg_form.proofs.Firsts.{in-append, in-append_left, in-append_right}
use Rattle.cg_moves.proofs.Members.{in_one}
use Rattle.cg_moves.proofs.PlaceLemmas.{at-last, in-at}

-- ---- keys at places

pub key_at-inside : (ps : List Grid) (n : ℕ) (key : BoardKey) → HasKeyAt ps n key → n < length ps
key_at-inside [] n key m = absurd m
key_at-inside (x ∷ ps) zero key m = omega arith
key_at-inside (x ∷ ps) (suc n) key m = let rest = key_at-inside ps n key m in omega arith

-- the number of the board at the place
key_at-number : (ps : List Grid) (n : ℕ) (key : BoardKey) → HasKeyAt ps n key
    → get_or (map (λ p. key_number (key_of p)) ps) n 0 ≡ key_number key
key_at-number [] n key m = absurd m
key_at-number (x ∷ ps) zero key m = ap key_number m
key_at-number (x ∷ ps) (suc n) key m = key_at-number ps n key m

key_at-at : (ps : List Grid) (n : ℕ) (p : Grid) → IsAt ps n p → HasKeyAt ps n (key_of p)
key_at-at [] n p m = absurd m
key_at-at (x ∷ ps) zero p m = ap key_of m
key_at-at (x ∷ ps) (suc n) p m = key_at-at ps n p m

-- the board that was read has the key
pub key_at-read : (ps : List Grid) (n : ℕ) (p : Grid) (key : BoardKey) → IsAt ps n p → key_of p ≡ key → HasKeyAt ps n key
key_at-read ps n p key m e = rw (← e) (key_at-at ps n p m)

-- no other key is there
pub key_at-only : (ps : List Grid) (n : ℕ) (p : Grid) (key : BoardKey) → IsAt ps n p → HasKeyAt ps n key → key_of p ≡ key
key_at-only [] n p key m k = absurd m
key_at-only (x ∷ ps) zero p key m k = ap key_of (sym m) ∙ k
key_at-only (x ∷ ps) (suc n) p key m k = key_at-only ps n p key m k

-- where all are boards with the same symbols, the board at the place has this key
pub at-key_at : (ps : List Grid) (n : ℕ) (p : Grid) → AreGrids ps → IsGrid p → ((q : Grid) → In q ps → q.symbols ≡ p.symbols)
    → HasKeyAt ps n (key_of p) → IsAt ps n p
at-key_at [] n p all g like m = absurd m
at-key_at (x ∷ ps) zero p all g like m = one-key p x g (all x (inl refl)) (sym m) (like x (inl refl))
at-key_at (x ∷ ps) (suc n) p all g like m = at-key_at ps n p (λ q k. all q (inr k)) g (λ q k. like q (inr k)) m

-- ---- numbers

-- one board more
pub numbers-more : (numbers more : List ℕ) (boards : List Grid) (p : Grid) (number : ℕ) → AreNumbers numbers boards
    → number ≡ key_number (key_of p) → more ≡ numbers ++ (number ∷ []) → AreNumbers more (boards ++ (p ∷ []))
numbers-more numbers more boards p number are is e =
    e ∙ ap (λ z. z ++ (number ∷ [])) are
    ∙ ap (λ z. map (λ q. key_number (key_of q)) boards ++ (z ∷ [])) is
    ∙ sym (map-append (λ q. key_number (key_of q)) boards (p ∷ []))

-- a board that is found at none of the places of its number is new
pub not-numbered : (numbers : List ℕ) (boards : List Grid) (p : Grid) → AreNumbers numbers boards
    → ((n : ℕ) → n < length numbers → get_or numbers n 0 ≡ key_number (key_of p) → ¬ HasKeyAt boards n (key_of p)) → ¬ In p boards
not-numbered numbers boards p are none m =
    let (n, k) = in-at boards p m in
    let here = key_at-at boards n p k in
    let low = key_at-inside boards n (key_of p) here in
    let count = ap length are ∙ length-map boards (λ q. key_number (key_of q)) in
    none n (omega arith) (ap (λ z. get_or z n 0) are ∙ key_at-number boards n (key_of p) here) here

-- a board with the key of this one is this one, as the list is shown
pub known-at : (boards all : List Grid) (p : Grid) (key : BoardKey) (n : ℕ) → AreGrids boards → boards ≡ all → IsGrid p → key ≡ key_of p
    → SameSymbols (all ++ (p ∷ [])) → HasKeyAt boards n key → IsAt all n p
known-at boards all p key n grids same g is like k =
    let same_symbols : SameSymbols (boards ++ (p ∷ [])) = rw same like in
    rw (← same) (at-key_at boards n p grids g
    (λ q m. same_symbols q p (in-append_left q boards (p ∷ []) m) (in-append_right p boards (p ∷ []) (inl refl))) (rw (← is) k))

pub grids-more : (boards : List Grid) (p : Grid) → AreGrids boards → IsGrid p → AreGrids (boards ++ (p ∷ []))
grids-more boards p all g q m = elim (in-append q boards (p ∷ []) m) [
  | inl there ↦ all q there
  | inr last ↦ (rw (in_one q p last) g)
]

-- where the number of the next board fits in 32 bits
pub few-more : (boards : List Grid) (p : Grid) (number : ℕ) → number ≡ length boards → number < 4294967296 → AreFew (boards ++ (p ∷ []))
few-more boards p number is low = let l = length-append boards (p ∷ []) in omega (arith, l, is, low)

-- a board that is put behind others has the number after theirs
pub put-number : {E : Type 0} (old new : List Grid) (q p : Grid) → q ≡ p → (r : Result ℕ E) → IfOk r (λ _. new ≡ old ++ (q ∷ []))
    → IfOk r (λ n. n ≡ length old) → IfOk r (λ n. IsAt new n p)
put-number {E} old new q p same (Ok n) e k = rw e (rw k (rw same (at-last old p)))
put-number {E} old new q p same (Err x) e k = tt
