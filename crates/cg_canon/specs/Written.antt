-- What is written in the form of a game.
use Rattle.std.specs.Prelude.{◌≡◌}
use Rattle.cg_form.specs.Game.{Game, node, number}
use Rattle.cg_cells.specs.Store.{State}
use Rattle.cg_nodes.specs.Games.{AreGames, games_at}
use Rattle.cg_nodes.specs.Meant.{Meant}
use Rattle.cg_canon.specs.declared.written.Written.{Written}
use Rattle.cg_canon.specs.declared.written.Written.TheVariants.{Number, Options}

-- the number, or the handles of the Left and of the Right options, in their order
abbrev pub IsWrittenAs : {R : Type 0} → State Meant R → Written → Game → Type 0
IsWrittenAs {R} s (Number x) g = g ≡ number x
IsWrittenAs {R} s (Options ls rs) g =
    AreGames s ls.items × AreGames s rs.items × (g ≡ node (games_at s ls.items) (games_at s rs.items))
