use Rattle.cg_moves.proofs.reaching.open_pieces.Given as goal

abbrev pub ghost-open_all : goal.ghost-open_all
ghost-open_all g a = record { game = g.R.Rules.game a.rules.now; edges = a.edges; starts = a.starts.items }
