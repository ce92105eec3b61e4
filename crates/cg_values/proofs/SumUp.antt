-- A board is the sum of its pieces, added up one after another.
use Rattle.std.proofs.Common.{◌≡◌, true, List, [], ◌∷◌, map}
use Rattle.cg_form.proofs.Preorder.{equal_back, equal_refl, equal_trans}
use Rattle.cg_form.proofs.SumLaws.{assoc_sum, sum_assoc, sum_nothing}
use Rattle.cg_form.specs.Game.{Game}
use Rattle.cg_form.specs.Order.{Equal}
use Rattle.cg_form.specs.Sum.{nothing, sum}
use Rattle.cg_nodes.proofs.Forms.{can-same}
use Rattle.cg_nodes.specs.Can.{can}
use Rattle.cg_moves.specs.Grid.{Grid}
use Rattle.cg_moves.specs.Raw.{raw}
use Rattle.cg_moves.specs.Lawful.{IsCut}
use Rattle.cg_moves.specs.Rules.{GameRules, pieces}
use Rattle.cg_moves.specs.Total.{total}
use Rattle.cg_values.specs.Items.{added, sum_up}

added-total : (g : Game) (hs : List Game) → Equal (added g hs) (sum g (total hs))
unfolding total
added-total g [] = equal_back (sum g nothing) g (sum_nothing g)
added-total g (h ∷ hs) =
    equal_trans (added (sum g h) hs) (sum (sum g h) (total hs)) (sum g (sum h (total hs))) (added-total (sum g h) hs)
    (sum_assoc g h (total hs), assoc_sum g h (total hs))

sum_up-total : (gs : List Game) → Equal (sum_up gs) (total gs)
unfolding total
sum_up-total [] = equal_refl nothing
sum_up-total (g ∷ gs) = added-total g gs

pub board-sum : (r : GameRules) → IsCut r → (p : Grid) → r.has p ≡ true
    → can (sum_up (map (raw r) (pieces r p))) ≡ can (raw r p)
board-sum r cut p has =
    let gs = map (raw r) (pieces r p) in
    can-same (sum_up gs) (raw r p)
    (equal_trans (sum_up gs) (total gs) (raw r p) (sum_up-total gs) (equal_back (raw r p) (total gs) (cut.sum p has)))
