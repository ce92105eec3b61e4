-- Lists of indexes of an arena, and their games.
use Rattle.std.proofs.Common.{◌≡◌, ◌∙◌, ap, refl, ℕ, List, [], ◌∷◌}
use Rattle.std.specs.Prelude.{slice_index_or}
use Rattle.std.proofs.lemmas.List.Elements.{All-head, All-tail}
use Rattle.cg_form.specs.Game.{Game}
use Rattle.cg_arena.specs.Arena.{AreIndexes, IsIndex, game_of, games_of}
use Rattle.cg_canon.specs.Walking.{AreApart}

-- lists of the same games are the same
pub same_indexes : (gs : List Game) → AreApart gs → (ps qs : List ℕ) → AreIndexes gs ps → AreIndexes gs qs
    → games_of gs ps ≡ games_of gs qs → ps ≡ qs
same_indexes gs a [] [] m n e = refl
same_indexes gs a [] (q ∷ qs) m n e = absurd (cc)
same_indexes gs a (p ∷ ps) [] m n e = absurd (cc)
same_indexes gs a (p ∷ ps) (q ∷ qs) m n e =
    let first : game_of gs p ≡ game_of gs q = cc in
    let others : games_of gs ps ≡ games_of gs qs = cc in
    let same : p ≡ q = a.each p q (All-head (IsIndex gs) p ps m) (All-head (IsIndex gs) q qs n) first in
    let rest = same_indexes gs a ps qs (All-tail (IsIndex gs) p ps m) (All-tail (IsIndex gs) q qs n) others in
    cc

-- the first game is that of the first index
pub first_is : (gs : List Game) (ps : List ℕ) (k : ℕ) (h : Game) (hs : List Game) → k ≡ slice_index_or ps 0 k → games_of gs ps ≡ h ∷ hs
    → game_of gs k ≡ h
first_is gs [] k h hs is e = absurd (cc)
first_is gs (p ∷ ps) k h hs is e =
    let first : game_of gs p ≡ h = cc in
    ap (game_of gs) is ∙ first
