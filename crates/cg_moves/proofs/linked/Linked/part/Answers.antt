use Rattle.std.proofs.Common.{ap, arith, length}
use Rattle.cg_moves.proofs.PlaceLemmas.{board-read}
use Rattle.cg_moves.proofs.linked.Linked.part.Goals as goal

pub returns : goal.returns
returns c =
    let same = ap length c.as_slice.ensures in
    rw (← c.as_slice.ensures) (board-read c.as_slice.result.now c.args.number c.index-as_slice-number.result
    (omega (arith, same)) c.index-as_slice-number.is)
