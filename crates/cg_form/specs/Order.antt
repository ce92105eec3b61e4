-- The order of games: G <= H exactly if no Left option A of G has H <= A and no Right option B of H has B <= G.
-- Siegel, Combinatorial Game Theory (2013), I.1 and II.1. The law function `order` states this rule of `Le` as it
-- stands here; the bound below only makes the recursion end.
use Rattle.std.specs.Prelude.{ℕ, zero, suc, ◌+◌, Bool, true, false, not, ◌&&◌, List, [], ◌∷◌, IsTrue}
use Rattle.cg_form.specs.Game.{Game, lefts, rights}
use Rattle.cg_form.specs.Size.{size}

-- whether no game of the list passes the test
abbrev pub no_one : (Game → Bool) → List Game → Bool
no_one test [] = true
no_one test (g ∷ gs) = not (test g) && no_one test gs

-- the order, as far as it is decided within n moves
unfoldable pub le_within : ℕ → Game → Game → Bool
le_within zero g h = false
le_within (suc n) g h = no_one (λ a. le_within n h a) (lefts g) && no_one (λ b. le_within n b g) (rights h)

unfoldable pub le : Game → Game → Bool
le g h = le_within (suc (size g + size h)) g h

abbrev pub Le : Game → Game → Type 0
Le g h = IsTrue (le g h)

-- equal games: each is at most the other
abbrev pub Equal : Game → Game → Type 0
Equal g h = Le g h × Le h g
