use Rattle.std.proofs.Common.{◌∙◌}
use Rattle.cg_clobber.proofs.CaptureBoards.{capture_by}
use Rattle.cg_clobber.proofs.putting.moved.Goals as goal

pub with_planes-requires : goal.with_planes-requires
with_planes-requires c =
    let h = capture_by c.rows.result c.columns.result c.args.player c.args.board.now c.planes-planes.result c.emptied-left.result
    c.with_stone-both.result c.args.from c.args.onto c.rows.ensures.value c.columns.ensures.value c.requires.has
    c.requires.from c.requires.onto c.planes-planes.ensures.grid c.planes-planes.ensures.planes c.emptied-left.ensures
    c.with_stone-both.ensures in
    h.grid

pub returns : goal.returns
returns c =
    let h = capture_by c.rows.result c.columns.result c.args.player c.args.board.now c.planes-planes.result c.emptied-left.result
    c.with_stone-both.result c.args.from c.args.onto c.rows.ensures.value c.columns.ensures.value c.requires.has
    c.requires.from c.requires.onto c.planes-planes.ensures.grid c.planes-planes.ensures.planes c.emptied-left.ensures
    c.with_stone-both.ensures in
    c.with_planes.ensures ∙ h.view
