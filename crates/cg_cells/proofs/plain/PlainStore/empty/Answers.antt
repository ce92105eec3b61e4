use Rattle.cg_cells.proofs.Plains.{empty_kept}
use Rattle.cg_cells.proofs.plain.PlainStore.empty.Goals as goal

pub invariant_of-result : goal.invariant_of-result
invariant_of-result g c =
    rw (c.in_ok-keys.ensures.items_if_clones_equal (λ y e. e), c.in_ok-values.ensures.items_if_clones_equal (λ y e. e), c.in_ok-index.ensures.items_if_clones_equal (λ y e. e))
    (empty_kept g.F.Facts.meaning c.args.size c.requires.some c.requires.few)
