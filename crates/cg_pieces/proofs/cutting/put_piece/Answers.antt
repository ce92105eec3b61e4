use Rattle.std.proofs.Common.{arith, ◌∙◌}
use Rattle.cg_pieces.proofs.CropWords.{index-shows}
use Rattle.cg_pieces.proofs.TakenSets.{no-piece-at, piece-at, piece-is}
use Rattle.cg_pieces.proofs.cutting.put_piece.Goals as goal

pub returns-then-set-moving-eq0 : goal.returns-then-set-moving-eq0
returns-then-set-moving-eq0 g c =
    no-piece-at (g.N.NeighbourRules.neighbours c.args.rules.now) (g.met.N.NeighbourRules.lawful c.args.rules.now)
    c.args.board.now c.args.cell c.args.set c.args.moving c.requires.set c.requires.moving c.args.boards.now.items
    c.if-set-moving-eq0.true

pub crop-piece-requires-clause-set : goal.crop-piece-requires-clause-set
crop-piece-requires-clause-set g c =
    (piece-is (g.N.NeighbourRules.neighbours c.args.rules.now) (g.met.N.NeighbourRules.lawful c.args.rules.now)
    c.args.board.now c.args.cell c.args.set c.args.moving c.requires.set c.requires.moving
    c.if-set-moving-eq0.false (omega (arith, c.ranges.set.fits))).from

pub crop-piece-requires-clause-blank : goal.crop-piece-requires-clause-blank
crop-piece-requires-clause-blank g c =
    (index-shows (g.N.NeighbourRules.neighbours c.args.rules.now) c.args.board.now c.blank_index-blank.result
    c.requires.symbols c.blank_index-blank.ensures).is

pub returns : goal.returns
returns g c =
    let n = g.N.NeighbourRules.neighbours c.args.rules.now in
    let laws = g.met.N.NeighbourRules.lawful c.args.rules.now in
    let is = piece-is n laws c.args.board.now c.args.cell c.args.set c.args.moving c.requires.set c.requires.moving
    c.if-set-moving-eq0.false (omega (arith, c.ranges.set.fits)) in
    let blank = index-shows n c.args.board.now c.blank_index-blank.result c.requires.symbols c.blank_index-blank.ensures in
    c.in_ok-push.ensures
    ∙ piece-at n laws c.args.board.now c.args.cell c.args.set c.args.moving c.requires.set c.requires.moving
    c.args.boards.now.items _ c.crop-piece.result is blank.shows c.crop-piece.ensures
