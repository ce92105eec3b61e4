use Rattle.std.proofs.Common.{◌≤◌, ◌-◌, length}
use Rattle.cg_moves.specs.Linked.{IsLinking, IsWider}
use Rattle.cg_moves.specs.Walking.{walk_of}
use Rattle.cg_moves.proofs.linking.link_all.Given as goal

abbrev pub ghost-link : goal.ghost-link
ghost-link g a = g.starts

abbrev pub invariant-loop-alloc : goal.invariant-loop-alloc
invariant-loop-alloc g l = record {
  linking : IsLinking (walk_of (g.R.Rules.game l.rules) l.edges g.starts) l.linked;
  wider : IsWider l.fn.linked.found l.linked.found;
  within : length l.linked.found ≤ l.limit;
  listed : length l.linked.next.items ≤ length l.linked.found;
}

abbrev pub decreases-loop-alloc : goal.decreases-loop-alloc
decreases-loop-alloc g l = l.limit - length l.linked.next.items
