-- The options that are written in the nimber.
use Rattle.std.proofs.Common.{subst}
use Rattle.cg_canon.specs.declared.written.Written.{Written}
use Rattle.cg_canon.specs.Works.{work_state}
use Rattle.cg_canon.specs.Written.{IsWrittenAs}
use Rattle.cg_nodes.specs.Games.{game_at}
use Rattle.cg_sum.proofs.NimberSteps.{lesser_none, lesser_read}
use Rattle.cg_sum.proofs.pair.lesser_nimbers.Goals as goal

pub returns-in-Number : goal.returns-in-Number
returns-in-Number g c =
    let W = work_state g.S.CellStore.state in
    let P : Written → Type 0 = λ z. IsWrittenAs (W c.written.new.self) z (game_at (W c.args.work.now) c.args.handle) in record {
      lesser = lesser_none (W c.args.work.now) (W c.written.new.self) c.args.handle _ _ _ c.requires (subst P c.in-Number.is c.in_ok-written.ensures.written)
          c.new.ensures.items;
      spends = c.written.ensures.spends;
    }

pub returns-clause-lesser : goal.returns-clause-lesser
returns-clause-lesser g c =
    let W = work_state g.S.CellStore.state in
    let P : Written → Type 0 = λ z. IsWrittenAs (W c.written.new.self) z (game_at (W c.args.work.now) c.args.handle) in
    lesser_read (W c.args.work.now) (W c.written.new.self) c.args.handle _ _ _ _ c.requires (subst P c.in-Options.is c.in_ok-written.ensures.written)
    c.in_ok-into_vec-in-Options.ensures.ok
