use Rattle.std.proofs.Common.{◌≡◌, take}
use Rattle.cg_moves.specs.Kept.{kept}
use Rattle.cg_moves.specs.Linked.{NumberedAs}
use Rattle.cg_moves.proofs.numbering.number_all.Given as goal

abbrev pub invariant-loop-board : goal.invariant-loop-board
invariant-loop-board l = record {
  found : l.found ≡ kept l.fn.found (take l.board-index l.boards);
  numbers : NumberedAs l.found l.fn.numbers.items l.numbers.items (take l.board-index l.boards);
}
