use Rattle.std.proofs.Common.{◌*◌, ◌%◌, arith}
use Rattle.cg_moves.proofs.KeyLemmas.{number-few}
use Rattle.cg_moves.proofs.key.BoardKey.number.Goals as goal

pub overflow_cast-result : goal.overflow_cast-result
overflow_cast-result c =
    let k = c.args.self.now in
    let few = number-few (k.rows * 15485907386658061715 % 18446744073709551616) (k.columns * 11694633085474628615 % 18446744073709551616)
    (k.planes.a * 11400714819323198485 % 18446744073709551616) (k.planes.b * 14029467366897019727 % 18446744073709551616)
    (k.planes.c * 1609587929392839161 % 18446744073709551616) (k.planes.d * 9650029242287828579 % 18446744073709551616)
    (omega arith) (omega arith) (omega arith) (omega arith) (omega arith) (omega arith) in
    omega arith
