use Rattle.std.proofs.Common.{◌∙◌}
use Rattle.cg_amazons.proofs.Shooting.{shot_by}
use Rattle.cg_amazons.proofs.queens.shot.Goals as goal

pub with_planes-requires : goal.with_planes-requires
with_planes-requires c =
    let h = shot_by c.rows.result c.columns.result c.args.board.now c.planes-planes.result c.with_blocked-after.result c.args.target
    c.rows.ensures.value c.columns.ensures.value c.requires.has c.requires.target c.planes-planes.ensures.grid
    c.planes-planes.ensures.planes c.with_blocked-after.ensures in
    h.grid

pub returns : goal.returns
returns c =
    let h = shot_by c.rows.result c.columns.result c.args.board.now c.planes-planes.result c.with_blocked-after.result c.args.target
    c.rows.ensures.value c.columns.ensures.value c.requires.has c.requires.target c.planes-planes.ensures.grid
    c.planes-planes.ensures.planes c.with_blocked-after.ensures in
    c.with_planes.ensures ∙ h.view
