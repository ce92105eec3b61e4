use Rattle.cg_arena.specs.Arena.{game_of}
use Rattle.cg_arena.proofs.LeaderSteps.{leader_cut, next_leads, still_leads}
use Rattle.cg_arena.proofs.Slices.{item_is}
use Rattle.cg_arena.proofs.summarizing.cut_of.Goals as goal
use Rattle.cg_arena.proofs.summarizing.cut_of.Goals.{then-reaches_past, else-reaches_past}

pub loop-option-preserved : goal.loop-option-preserved
loop-option-preserved c =
    let gs = c.args.arena.now in
    let best = game_of gs c.loop-option.best in
    let item = c.option-item.result in
    let own = game_of gs item in
    let is = item_is c.args.options.now c.loop-option.option-index item c.option-item.is c.loop-option-test.true in
    elim c.if-reaches_past.branch [
      | then-reaches_past w ↦ next_leads gs c.args.left c.args.options.now c.loop-option.option-index c.loop-option.best item c.if-reaches_past.best
          c.loop-option-test.true c.requires c.loop-option.invariant is
          (c.reaches_past.ensures.past own best c.keys.ensures c.keys-in-loop-option.ensures w.if-reaches_past.true) w.best-is
      | else-reaches_past w ↦ still_leads gs c.args.left c.args.options.now c.loop-option.option-index c.loop-option.best item c.if-reaches_past.best
          c.loop-option-test.true c.loop-option.invariant is
          (c.reaches_past.ensures.not_past own best c.keys.ensures c.keys-in-loop-option.ensures w.if-reaches_past.false) w.best-is
    ]

pub returns : goal.returns
returns c =
    leader_cut c.args.arena.now c.args.left c.args.options.now c.loop-option.option-index c.loop-option.best c.summary.result.now c.cut.result
    c.loop-option-test.false c.loop-option.invariant c.summary.ensures.summary c.cut.ensures
