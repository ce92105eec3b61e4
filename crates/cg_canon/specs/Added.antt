-- Sums all of whose items were made.
use Rattle.std.specs.Prelude.{ℕ}
use Rattle.cg_cells.specs.Store.{State}
use Rattle.cg_form.specs.Sum.{sum}
use Rattle.cg_nodes.specs.Can.{can}
use Rattle.cg_nodes.specs.Games.{IsGame, StandsFor, game_at}
use Rattle.cg_nodes.specs.Meant.{Meant}
use Rattle.cg_canon.specs.declared.memo.KnownSum.{KnownSum}
use Rattle.cg_canon.specs.Items.{AllPass}
use Rattle.cg_canon.specs.SumItems.{sum_items}

-- the handle stands for the canonical form of a + b; its items pass where nothing was spent before and what they cost together
-- may be spent
pub record IsKnownSum {R : Type 0} (s : State Meant R) (a b : ℕ) (known : KnownSum) : Type 0 where
  pub first : IsGame s a
  pub second : IsGame s b
  pub sum : StandsFor s known.sum (can (sum (game_at s a) (game_at s b)))
  pub items : AllPass known.cost 0 (sum_items known.limit (game_at s a) (game_at s b)) known.cost
