use Rattle.cg_dyadic.proofs.Truth.{differ}
use Rattle.cg_names.proofs.Looks.{tiny-parts}
use Rattle.cg_names.proofs.look_pairs.tiny_size.Goals as goal

pub returns-else-are_tiny : goal.returns-else-are_tiny
returns-else-are_tiny c x p e =
    let t = tiny-parts c.args.miny c.args.x c.args.pair.now.left c.args.pair.now.right c.size_in-size.result
    c.rest_in-rest.result x c.size_in-size.ensures c.rest_in-rest.ensures e in
    differ c.are_tiny.result (c.are_tiny.ensures.1 (t.none, t.rest_none, rw t.size_is p)) c.if-are_tiny.false
