-- Boards by their places in lists.
use Rattle.std.proofs.Common.{◌≡◌, refl, ℕ, zero, suc, ◌<◌, inl, inr, List, [], ◌∷◌, ◌++◌, length, sym, arith, get_or}
use Rattle.cg_moves.specs.Grid.{Grid}
use Rattle.cg_moves.specs.Graph.{IsAt, StandAt}
use Rattle.cg_moves.specs.Rules.{In}

-- ---- one board

pub at-append : (ps qs : List Grid) (n : ℕ) (p : Grid) → IsAt ps n p → IsAt (ps ++ qs) n p
at-append [] qs n p m = absurd m
at-append (x ∷ ps) qs zero p m = m
at-append (x ∷ ps) qs (suc n) p m = at-append ps qs n p m

pub at-last : (ps : List Grid) (p : Grid) → IsAt (ps ++ (p ∷ [])) (length ps) p
at-last [] p = refl
at-last (x ∷ ps) p = at-last ps p

pub at-in : (ps : List Grid) (n : ℕ) (p : Grid) → IsAt ps n p → In p ps
at-in [] n p m = absurd m
at-in (x ∷ ps) zero p m = inl (sym m)
at-in (x ∷ ps) (suc n) p m = inr (at-in ps n p m)

pub in-at : (ps : List Grid) (p : Grid) → In p ps → (n : ℕ) × IsAt ps n p
in-at [] p m = absurd m
in-at (x ∷ ps) p (inl e) = (0, sym e)
in-at (x ∷ ps) p (inr m) = let (n, k) = in-at ps p m in (suc n, k)

pub board-read : (ps : List Grid) (n : ℕ) (p : Grid) → n < length ps → p ≡ get_or ps n p → IsAt ps n p
board-read [] n p l e = absurd (omega arith)
board-read (x ∷ ps) zero p l e = sym e
board-read (x ∷ ps) (suc n) p l e = board-read ps n p (omega arith) e

-- ---- many

-- the places in a list that has each board where the other has it
pub stand-wider : (ps wider : List Grid) → ((n : ℕ) (p : Grid) → IsAt ps n p → IsAt wider n p) → (ns : List ℕ) (qs : List Grid)
    → StandAt ps ns qs → StandAt wider ns qs
stand-wider ps wider w [] [] h = tt
stand-wider ps wider w [] (q ∷ qs) h = absurd h
stand-wider ps wider w (n ∷ ns) [] h = absurd h
stand-wider ps wider w (n ∷ ns) (q ∷ qs) h = (w n q h.0, stand-wider ps wider w ns qs h.1)

pub stand-append : (ps : List Grid) (ns : List ℕ) (qs : List Grid) (ms : List ℕ) (rs : List Grid) → StandAt ps ns qs
    → StandAt ps ms rs → StandAt ps (ns ++ ms) (qs ++ rs)
stand-append ps [] [] ms rs h k = k
stand-append ps [] (q ∷ qs) ms rs h k = absurd h
stand-append ps (n ∷ ns) [] ms rs h k = absurd h
stand-append ps (n ∷ ns) (q ∷ qs) ms rs h k = (h.0, stand-append ps ns qs ms rs h.1 k)

pub stand-size : (list : List Grid) (ns : List ℕ) (qs : List Grid) → StandAt list ns qs → length ns ≡ length qs
stand-size list [] [] h = refl
stand-size list [] (q ∷ qs) h = absurd h
stand-size list (n ∷ ns) [] h = absurd h
stand-size list (n ∷ ns) (q ∷ qs) h = let l = stand-size list ns qs h.1 in omega arith
