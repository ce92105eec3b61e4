use Rattle.cg_moves.proofs.linking.linked_from.Given as goal

abbrev pub ghost-link_all : goal.ghost-link_all
ghost-link_all g a = g.from
