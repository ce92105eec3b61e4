use Rattle.std.proofs.Common.{◌≡◌, ◌<◌, ◌≤◌, ℕ, false, length, suc}
use Rattle.cg_hash_index.specs.Chains.{chain_at, chain_in, number_in}
use Rattle.cg_hash_index.proofs.hash_index.HashIndex.find.Given as goal

abbrev pub invariant-loop-up_to : goal.invariant-loop-up_to
invariant-loop-up_to g l = record {
  inside : l.up_to ≤ length l.self-inside.entries.items;
  own : (entry : ℕ) → l.up_to ≡ suc entry → chain_in l.self-inside.entries.items (length l.self-inside.chains.items) entry
      ≡ chain_at l.number (length l.self-inside.chains.items);
  others : (m : ℕ) → l.up_to ≤ m → m < length l.self-inside.entries.items → number_in l.self-inside.entries.items m ≡ l.number
      → g.F.Fn.post l.is (m, tt) false;
}

abbrev pub decreases-loop-up_to : goal.decreases-loop-up_to
decreases-loop-up_to g l = l.up_to
