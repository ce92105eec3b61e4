use Rattle.cg_shared.proofs.search.ends.Given as goal

abbrev pub ghosts-probe : goal.ghosts-probe
ghosts-probe g a = record { key = a.key }
