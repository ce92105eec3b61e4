use Rattle.std.proofs.Common.{arith, refl}
use Rattle.cg_nodes.proofs.Later.{nothing_spent}
use Rattle.cg_arena.specs.Arena.{game_of}
use Rattle.cg_canon.proofs.InternerSteps.{begins_none, named_stands}
use Rattle.cg_canon.proofs.Paying.{made_paid}
use Rattle.cg_canon.proofs.making_at.known_at.Goals as goal

pub returns-clause-entered : goal.returns-clause-entered
returns-clause-entered g c =
    let s = g.S.CellStore.state c.args.store.now in
    let form = game_of c.args.interner.now.arena c.args.game in
    record {
      paid = made_paid s s c.args.meter.now c.charge_item.new.self form c.args.extra c.handle.result 0 c.charge.result.cost (omega arith)
          (nothing_spent s) c.in_ok-charge_item.ensures.ok c.in_ok-charge_item.ensures.fits
          (named_stands s c.args.interner.now c.handle.result c.args.game c.requires.holds c.handle.ensures)
          (c.in_ok-charge_item.ensures.charged form c.charge.ensures);
      at = record { within = c.requires.game; is = refl };
      begins = begins_none c.args.interner.now.arena;
    }
