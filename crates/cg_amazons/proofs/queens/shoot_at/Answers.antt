use Rattle.std.proofs.Common.{◌≡◌, arith, rules}
use Rattle.std.specs.Prelude.{slice_set}
use Rattle.cg_amazons.specs.Amazons.{blocked}
use Rattle.cg_amazons.proofs.Taken.{takes_if, takes_one}
use Rattle.cg_amazons.proofs.queens.shoot_at.Goals as goal

pub returns : goal.returns
returns c =
    let p = c.args.board.now in
    takes_if p c.args.boards.now.items c.push.new.self.items c.args.targets
    (λ place after. after ≡ slice_set c.args.board.now.cells place blocked) c.args.target
    (let n = c.if-bit-eq0.false in let one = c.bit.ensures.one in let e = c.bit.ensures.value in omega arith)
    (takes_one p c.shot.result c.args.boards.now.items c.push.new.self.items
    (slice_set c.args.board.now.cells c.args.target blocked) c.shot.ensures (search rules))
