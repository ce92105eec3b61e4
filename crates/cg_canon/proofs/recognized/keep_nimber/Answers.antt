use Rattle.std.proofs.Common.{arith, is_ok, length}
use Rattle.cg_arena.specs.Arena.{game_of}
use Rattle.cg_canon.proofs.Recognizing.{has_nimber, nimbers_pushed, pushed}
use Rattle.cg_canon.proofs.recognized.keep_nimber.Goals as goal

pub returns-then-is : goal.returns-then-is
returns-then-is c gs k h =
    let old = c.args.nimbers.now.items in
    let is = has_nimber (game_of gs c.args.game) c.args.parts.now c.of_nimber.result (length old) k.parts (c.is.ensures c.if-is.true)
    c.of_nimber.ensures.number c.of_nimber.ensures.ups (omega (arith, c.of_nimber.ensures.star, c.len.ensures)) in
    nimbers_pushed gs old c.push-pushed.new.self.items c.args.game h
    (pushed (is_ok c.push-pushed.result) c.push-pushed.new.self.items old c.args.game c.push-pushed.ensures.items)
    (record { within = k.within; is = is })
