-- What rules answer of the pieces of a board.
use Rattle.std.specs.Prelude.{if◌then◌else◌}
use Rattle.cg_moves.specs.declared.pieces.Pieces.{Pieces}
use Rattle.cg_moves.specs.declared.pieces.Pieces.TheVariants.{Whole, Cut}
use Rattle.cg_moves.specs.Grid.{Grid}
use Rattle.cg_moves.specs.Rules.{GameRules, cuts, pieces}

-- its pieces where the rules cut, and that it stays whole where they don't
abbrev pub cutting : GameRules → Grid → Pieces
cutting r p = if cuts r then Cut (pieces r p) else Whole
