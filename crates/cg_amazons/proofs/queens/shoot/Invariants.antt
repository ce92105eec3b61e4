use Rattle.std.proofs.Common.{◌≡◌}
use Rattle.std.specs.Prelude.{slice_set}
use Rattle.cg_amazons.specs.Amazons.{blocked}
use Rattle.cg_amazons.specs.Taking.{AnyMarked, Takes}
use Rattle.cg_amazons.proofs.queens.shoot.Given as goal

abbrev pub invariant-loop-target : goal.invariant-loop-target
invariant-loop-target l =
    Takes l.board l.initial.boards.items l.boards.items (AnyMarked l.targets (λ place after. after ≡ slice_set l.board.cells place blocked) l.target)
