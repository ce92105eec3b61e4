use Rattle.std.proofs.Common.{arith}
use Rattle.cg_arena.proofs.Interning.{counted, entry_says, found_at, says_keys}
use Rattle.cg_arena.proofs.arena.Arena.keys.Goals as goal

pub index-requires : goal.index-requires
index-requires c =
    let n = counted c.self.inside c.args.self.now c.self.invariant c.self.view_is in
    let r = c.requires in
    omega arith

pub returns : goal.returns
returns c =
    let f = entry_says c.self.inside c.args.self.now c.self.invariant c.self.view_is c.args.game c.index.result.now c.requires
    (found_at c.self.inside.entries.items _ c.args.game _ c.index.ensures c.place.ensures.place) in
    says_keys c.self.inside.options.items c.args.self.now c.index.result.now f.0 _ f.1
