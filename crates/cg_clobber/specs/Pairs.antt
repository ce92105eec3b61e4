-- The moves by the first of the two cells that a move changes.
use Rattle.std.specs.Prelude.{ℕ, ◌+◌, ◌-◌, List, ◌++◌, length}
use Rattle.std.specs.List.{flat_map}
use Rattle.cg_moves.specs.declared.player.Player.{Player}
use Rattle.cg_moves.specs.declared.player.Player.TheVariants.{Left, Right}
use Rattle.cg_moves.specs.Grid.{Grid}
use Rattle.cg_moves.specs.Rising.{counted}
use Rattle.cg_clobber.specs.declared.way.Way.TheVariants.{Up, Down, Back, Forth}
use Rattle.cg_clobber.specs.Moves.{moves_that_way}

-- the moves from the cell onto later ones
abbrev pub onward : Player → Grid → ℕ → List (List ℕ)
onward Left p c = moves_that_way Left p c Down ++ moves_that_way Left p c Forth
onward Right p c = moves_that_way Right p c Forth ++ moves_that_way Right p c Down

-- the moves onto the cell from later ones
abbrev pub toward : Player → Grid → ℕ → List (List ℕ)
toward player p c = moves_that_way player p (c + 1) Back ++ moves_that_way player p (c + p.columns) Up

-- those onto the cell that is so many before the last
abbrev pub toward_back : Player → Grid → ℕ → List (List ℕ)
toward_back player p later = toward player p (length p.cells - 1 - later)

-- the moves between the cell and later ones
abbrev pub paired : Player → Grid → ℕ → List (List ℕ)
paired player p c = onward player p c ++ toward player p c

-- the moves: Left's that lower the first cell, and those that raise it; Right's all lower it
abbrev pub by_pairs : Player → Grid → List (List ℕ)
by_pairs Left p = flat_map (onward Left p) (counted 0 (length p.cells)) ++ flat_map (toward_back Left p) (counted 0 (length p.cells))
by_pairs Right p = flat_map (paired Right p) (counted 0 (length p.cells))
