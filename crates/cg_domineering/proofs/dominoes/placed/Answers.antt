use Rattle.std.proofs.Common.{◌∙◌}
use Rattle.cg_domineering.proofs.Filling.{domino_by}
use Rattle.cg_domineering.proofs.dominoes.placed.Goals as goal

pub with_planes-requires : goal.with_planes-requires
with_planes-requires c =
    (domino_by c.rows.result c.columns.result c.args.player c.args.board.now c.planes.result c.with_bit-one.result
    c.with_bit-both.result c.args.first c.other_cell-other.result c.rows.ensures.value c.columns.ensures.value c.requires.has
    c.requires.fits c.other_cell-other.ensures.value c.planes.ensures.grid c.planes.ensures.planes c.with_bit-one.ensures
    c.with_bit-both.ensures).grid

pub returns : goal.returns
returns c =
    c.with_planes.ensures
    ∙ (domino_by c.rows.result c.columns.result c.args.player c.args.board.now c.planes.result c.with_bit-one.result
    c.with_bit-both.result c.args.first c.other_cell-other.result c.rows.ensures.value c.columns.ensures.value c.requires.has
    c.requires.fits c.other_cell-other.ensures.value c.planes.ensures.grid c.planes.ensures.planes c.with_bit-one.ensures
    c.with_bit-both.ensures).view
