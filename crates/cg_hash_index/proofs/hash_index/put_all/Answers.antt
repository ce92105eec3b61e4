use Rattle.std.proofs.Common.{◌∙◌, ◌+◌, arith, refl, take}
use Rattle.std.proofs.lemmas.List.{length-set, take_more_set}
use Rattle.std.proofs.Math.Seq.{map-set_same}
use Rattle.cg_hash_index.proofs.Chaining.{added, first_count}
use Rattle.cg_hash_index.proofs.hash_index.put_all.Goals as goal

pub loop-entry-preserved : goal.loop-entry-preserved
loop-entry-preserved c =
    let entries = c.loop-entry.entries in
    let heads = c.loop-entry.chains in
    let entry = c.loop-entry.entry in
    let count = c.loop-entry.invariant.count in
    record {
      chained = added (take entry entries) heads _ c.loop-entry.invariant.chained c.loop-entry.invariant.some c.chain_of-chain.result
          c.chain_of-chain.ensures.value refl _ _ (take_more_set entries entry _ (omega arith))
          (first_count entries entry _ (omega arith));
      some = omega (arith, length-set heads c.chain_of-chain.result (entry + 1));
      chains = length-set heads c.chain_of-chain.result (entry + 1) ∙ c.loop-entry.invariant.chains;
      count = length-set entries entry _ ∙ count;
      same = map-set_same (λ z. z.number) entries entry _ _ refl ∙ c.loop-entry.invariant.same;
    }
