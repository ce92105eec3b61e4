use Rattle.cg_sum.proofs.item.new_item.Given as goal

abbrev pub ghost-noted_item : goal.ghost-noted_item
ghost-noted_item g a = g.games
