-- The sum of 0 and a game, or one that is kept.
use Rattle.cg_sum.proofs.Placed.{first_at, second_at, sum_found, zero_first, zero_second}
use Rattle.cg_sum.proofs.item.kept.Goals as goal

pub returns-then-f : goal.returns-then-f
returns-then-f g c = zero_first _ _ _ _ _ c.requires.1.1.1 _ _ c.index-f.ensures c.index-k.ensures c.if-f.true

pub returns-then-k : goal.returns-then-k
returns-then-k g c = zero_second _ _ _ _ _ c.requires.1.1.1 _ _ c.index-f.ensures c.index-k.ensures c.if-k.true

pub kept_sum-requires-clause-a : goal.kept_sum-requires-clause-a
kept_sum-requires-clause-a g c = (first_at _ _ _ _ _ c.requires.1.1.1 _ _ c.index-f.ensures c.index-k.ensures).within

pub kept_sum-requires-clause-b : goal.kept_sum-requires-clause-b
kept_sum-requires-clause-b g c = (second_at _ _ _ _ _ c.requires.1.1.1 _ _ c.index-f.ensures c.index-k.ensures).within

pub returns : goal.returns
returns g c = sum_found _ _ _ _ _ c.requires.1.1.1 _ _ c.index-f.ensures c.index-k.ensures c.kept_sum.result c.kept_sum.ensures
