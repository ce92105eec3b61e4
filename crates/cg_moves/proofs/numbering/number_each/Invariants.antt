use Rattle.std.proofs.Common.{◌≡◌, ◌++◌, length, map, take}
use Rattle.std.specs.List.{flat_map}
use Rattle.cg_moves.specs.Kept.{kept}
use Rattle.cg_moves.specs.Linked.{NumberedAs}
use Rattle.cg_moves.specs.Rules.{pieces}
use Rattle.cg_moves.proofs.numbering.number_each.Given as goal

abbrev pub invariant-loop-board : goal.invariant-loop-board
invariant-loop-board g l = record {
  next : l.linked.next ≡ l.fn.linked.next;
  found : l.linked.found ≡ kept l.fn.linked.found (flat_map (pieces (g.R.Rules.game l.rules)) (take l.board-index l.boards));
  numbers : NumberedAs l.linked.found l.fn.linked.numbers.items l.linked.numbers.items
      (flat_map (pieces (g.R.Rules.game l.rules)) (take l.board-index l.boards));
  counts : l.linked.counts.items
      ≡ l.fn.linked.counts.items ++ map (λ q. length (pieces (g.R.Rules.game l.rules) q)) (take l.board-index l.boards);
}
