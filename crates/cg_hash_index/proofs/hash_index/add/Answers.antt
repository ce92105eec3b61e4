use Rattle.std.proofs.Common.{arith, refl}
use Rattle.cg_hash_index.proofs.Chaining.{added}
use Rattle.cg_hash_index.proofs.hash_index.add.Goals as goal

pub returns-clause-chained : goal.returns-clause-chained
returns-clause-chained c =
    added c.args.entries.now.items c.args.chains.now _ c.requires.chained c.requires.some c.chain_of-chain.result c.chain_of-chain.ensures.value
    refl c.push.new.self.items c.len.result c.in_ok-push.ensures.items (omega arith)
