use Rattle.std.proofs.Common.{ℕ, rules, sym, subst}
use Rattle.std.proofs.lemmas.List.Sorted.{IsNonDecreasingBy-from_sort_by_key}
use Rattle.cg_shared.proofs.Ending.{ok_map}
use Rattle.cg_pool.specs.Answers.{AreOrdered}
use Rattle.cg_pool.proofs.Sorting.{sorted_ordered}
use Rattle.cg_pool.proofs.order.put_in_order.Goals as goal

pub returns : goal.returns
returns g c =
    let S = IsNonDecreasingBy-from_sort_by_key (λ (a : ℕ × g.row.A.Denot). a.0) _ c.sort_unstable_by_key.ensures.sorted (λ a r q k. search rules) in
    ok_map _ _ (λ v e. subst (AreOrdered c.args.count c.args.answers.items) (sym e) (sorted_ordered c.args.count c.args.answers.items
    c.sort_unstable_by_key.new.self.items c.sort_unstable_by_key.ensures.permutation S c.requires)) c.drop_numbers.result c.drop_numbers.ensures
