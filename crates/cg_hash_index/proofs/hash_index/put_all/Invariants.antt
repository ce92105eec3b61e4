use Rattle.std.proofs.Common.{◌≡◌, ◌<◌, length}
use Rattle.std.specs.Prelude.{take}
use Rattle.cg_hash_index.specs.Chains.{AreChained, numbers}
use Rattle.cg_hash_index.proofs.hash_index.put_all.Given as goal

abbrev pub invariant-loop-entry : goal.invariant-loop-entry
invariant-loop-entry l = record {
  chained : AreChained (take l.entry l.entries) l.chains;
  some : 0 < length l.chains;
  chains : length l.chains ≡ length l.initial.chains;
  count : length l.entries ≡ length l.initial.entries;
  same : numbers l.entries ≡ numbers l.initial.entries;
}
