use Rattle.cg_shared.proofs.table.SharedCells.split.Given as goal

abbrev pub ghosts-split_by : goal.ghosts-split_by
ghosts-split_by g a = record { heirs = a.heirs }
