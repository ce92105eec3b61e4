use Rattle.cg_cells.proofs.Indexes.{index_none}
use Rattle.cg_cells.proofs.index.index_of.Goals as goal

pub loop-cell-init : goal.loop-cell-init
loop-cell-init g c = rw (c.in_ok-index.ensures.items_if_clones_equal (λ y e. e)) (index_none g.F.Facts.meaning _ _)
