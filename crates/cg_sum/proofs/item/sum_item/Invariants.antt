use Rattle.cg_sum.proofs.item.sum_item.Given as goal

abbrev pub ghost-kept : goal.ghost-kept
ghost-kept g a = g.games

abbrev pub ghost-new_item : goal.ghost-new_item
ghost-new_item g a = g.games
