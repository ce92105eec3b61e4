use Rattle.std.proofs.Common.{◌≡◌, length, arith}
use Rattle.std.specs.Prelude.{slice_set}
use Rattle.cg_amazons.specs.Amazons.{blocked}
use Rattle.cg_amazons.proofs.Taken.{takes_all, takes_next}
use Rattle.cg_amazons.proofs.queens.shoot.Goals as goal

pub loop-target-preserved : goal.loop-target-preserved
loop-target-preserved c =
    takes_next c.args.board.now c.args.boards.now.items c.loop-target.boards.items c.shoot_at.new.boards.items c.args.targets
    (λ place after. after ≡ slice_set c.args.board.now.cells place blocked) c.loop-target.target c.loop-target.invariant
    c.in_ok-shoot_at.ensures

pub returns : goal.returns
returns c =
    takes_all c.args.board.now c.args.boards.now.items c.loop-target.boards.items c.args.targets
    (λ place after. after ≡ slice_set c.args.board.now.cells place blocked) c.loop-target.target (length c.args.board.now.cells)
    (let a = c.loop-target.auto.target-end in let t = c.loop-target-test.false in omega arith) c.loop-target.invariant
