-- The code of what a cell stands for.
use Rattle.std.specs.Prelude.{ℕ, ◌⊎◌, ◌≡◌, List, refl}
use Rattle.std.specs.Coded.{Coded, code_by, coded_ℕ, coded_list, coded×, coded⊎}
use mathlib.Core.Logic.{inl, inr}
use Rattle.cg_form.specs.Game.{Game}
use Rattle.cg_form.specs.GameCode.{game_code}
use Rattle.cg_nodes.specs.Meant.{Meant, board, contents, form, list, pair}

abbrev Parts : Type 0
Parts = Game ⊎ (List Game ⊎ (List ℕ ⊎ ((Game × Game) ⊎ (ℕ × (ℕ × (ℕ × List ℕ))))))

abbrev parts_of : Meant → Parts
parts_of (form g) = inl g
parts_of (list gs) = inr (inl gs)
parts_of (contents cs) = inr (inr (inl cs))
parts_of (pair g h) = inr (inr (inr (inl (g, h))))
parts_of (board n r c cs) = inr (inr (inr (inr (n, (r, (c, cs))))))

abbrev meant_of : Parts → Meant
meant_of (inl g) = form g
meant_of (inr (inl gs)) = list gs
meant_of (inr (inr (inl cs))) = contents cs
meant_of (inr (inr (inr (inl p)))) = pair p.0 p.1
meant_of (inr (inr (inr (inr b)))) = board b.0 b.1.0 b.1.1.0 b.1.1.1

abbrev meant_again : (t : Meant) → meant_of (parts_of t) ≡ t
meant_again (form g) = refl
meant_again (list gs) = refl
meant_again (contents cs) = refl
meant_again (pair g h) = refl
meant_again (board n r c cs) = refl

abbrev board_code : Coded (ℕ × (ℕ × (ℕ × List ℕ)))
board_code = coded× coded_ℕ (coded× coded_ℕ (coded× coded_ℕ (coded_list coded_ℕ)))

abbrev pub meant_code : Coded Meant
meant_code = code_by Parts
    (coded⊎ game_code (coded⊎ (coded_list game_code) (coded⊎ (coded_list coded_ℕ) (coded⊎ (coded× game_code
    game_code) board_code))))
    parts_of meant_of meant_again
