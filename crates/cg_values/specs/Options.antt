-- The values of the boards that moves on a board lead to.
use Rattle.std.specs.Prelude.{◌≡◌, length}
use Rattle.cg_cells.specs.Store.{State}
use Rattle.cg_nodes.specs.Games.{StandFor}
use Rattle.cg_nodes.specs.Meant.{Meant}
use Rattle.cg_moves.specs.declared.player.Player.TheVariants.{Left}
use Rattle.cg_moves.specs.Grid.{Grid}
use Rattle.cg_moves.specs.Rules.{GameRules, boards_after, followers}
use Rattle.cg_values.specs.declared.options.Options.{Options}
use Rattle.cg_values.specs.Parts.{values_of}

-- the handles stand for the values of the boards that moves lead to, and the first of them are those of Left's moves
pub record AreOptions {R : Type 0} (s : State Meant R) (r : GameRules) (p : Grid) (opts : Options) : Type 0 where
  pub lefts : opts.lefts ≡ length (boards_after r Left p)
  pub values : StandFor s opts.handles.items (values_of r (followers r p))
