use Rattle.cg_sum.proofs.item.noted_item.Given as goal

abbrev pub ghost-made_item : goal.ghost-made_item
ghost-made_item g a = g.games
