use Rattle.cg_moves.proofs.walk.open_all.Given as goal

abbrev pub ghost-linked_from : goal.ghost-linked_from
ghost-linked_from g a = a.starts.now

abbrev pub ghost-visit_all : goal.ghost-visit_all
ghost-visit_all g a = g.walk
