-- Equal games in the order and in sums.
use Rattle.std.proofs.Common.{◌≡◌, pos}
use Rattle.cg_dyadic.specs.Number.{whole}
use Rattle.cg_form.specs.Game.{Game, number}
use Rattle.cg_form.specs.Order.{Equal, le}
use Rattle.cg_form.specs.Sum.{nothing, sum}
use Rattle.cg_form.proofs.Cut.{same_when}
use Rattle.cg_form.proofs.Order.{le-fold}
use Rattle.cg_form.proofs.Preorder.{equal_refl, le_trans}
use Rattle.cg_form.proofs.SumLaws.{assoc_sum, sum-le_second, sum_assoc, sum_comm}
use Rattle.cg_form.proofs.SumOrder.{sum-le}

-- the order of games is that of the games that they equal
pub le-equal : (a b g h : Game) → Equal a g → Equal b h → le a b ≡ le g h
le-equal a b g h e f = same_when (le a b) (le g h)
    (λ l. le_trans g a h e.1 (le_trans a b h l f.0))
    (λ l. le_trans a g b e.0 (le_trans g h b l f.1))

-- ---- sums

pub equal_comm : (g h : Game) → Equal (sum g h) (sum h g)
equal_comm g h = (sum_comm g h, sum_comm h g)

pub equal_assoc : (g h k : Game) → Equal (sum (sum g h) k) (sum g (sum h k))
equal_assoc g h k = (sum_assoc g h k, assoc_sum g h k)

pub sum_equal : (a b c d : Game) → Equal a c → Equal b d → Equal (sum a b) (sum c d)
sum_equal a b c d e f = (
  le_trans (sum a b) (sum c b) (sum c d) (sum-le a c b e.0) (sum-le_second b d c f.0),
  le_trans (sum c d) (sum a d) (sum a b) (sum-le c a d e.1) (sum-le_second d b a f.1),
)

-- ---- zero

-- the number 0 equals the game without options
pub zero_is : Equal (number (whole (pos 0))) nothing
zero_is = (
  le-fold (number (whole (pos 0))) nothing (record { on_left = λ a m. absurd m; on_right = λ b m. absurd m }),
  le-fold nothing (number (whole (pos 0))) (record { on_left = λ a m. absurd m; on_right = λ b m. absurd m }),
)

pub zero-le : (g : Game) → le (number (whole (pos 0))) g ≡ le nothing g
zero-le g = le-equal (number (whole (pos 0))) g nothing g zero_is (equal_refl g)

pub le-zero : (g : Game) → le g (number (whole (pos 0))) ≡ le g nothing
le-zero g = le-equal g (number (whole (pos 0))) g nothing (equal_refl g) zero_is
