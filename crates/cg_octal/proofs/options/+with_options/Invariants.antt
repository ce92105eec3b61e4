use Rattle.cg_octal.proofs.options.+with_options.Given as goal

abbrev pub decreases-with_options : goal.decreases-with_options
decreases-with_options l = l.count
