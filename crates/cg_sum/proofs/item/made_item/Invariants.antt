use Rattle.cg_sum.proofs.item.made_item.Given as goal

abbrev pub ghost-summed_item : goal.ghost-summed_item
ghost-summed_item g a = g.games
