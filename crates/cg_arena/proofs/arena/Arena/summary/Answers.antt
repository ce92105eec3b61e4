use Rattle.std.proofs.Common.{arith}
use Rattle.cg_arena.proofs.Interning.{counted, found_at, summary_says, summary_small}
use Rattle.cg_arena.proofs.arena.Arena.summary.Goals as goal

pub index-requires : goal.index-requires
index-requires c =
    let n = counted c.self.inside c.args.self.now c.self.invariant c.self.view_is in
    let o = c.self.invariant.one_each in
    let r = c.requires in
    omega arith

pub returns-clause-summary : goal.returns-clause-summary
returns-clause-summary c = summary_says c.self.inside c.args.self.now c.self.invariant c.self.view_is c.args.game c.index.result.now c.requires
    (found_at c.self.inside.summaries.items _ c.args.game _ c.index.ensures c.place.ensures.place)

pub returns-clause-small : goal.returns-clause-small
returns-clause-small c = summary_small c.self.inside c.args.self.now c.self.invariant c.self.view_is c.args.game c.index.result.now c.requires
    (found_at c.self.inside.summaries.items _ c.args.game _ c.index.ensures c.place.ensures.place)
