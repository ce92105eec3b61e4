use Rattle.std.proofs.Common.{rules, ◌≡◌, ap, sym, ◌∙◌, List, ℕ, [], ◌∷◌, ◌++◌, length}
use Rattle.std.specs.List.{range_with_len}
use Rattle.std.proofs.lemmas.List.Sorted.{IsNonDecreasingBy-from_sort_by_key}
use Rattle.cg_pool.specs.Answers.{place}
use Rattle.cg_pool.proofs.Orders.{falling, range_next, sorted_order}
use Rattle.cg_pool.proofs.order.by_weight.Goals as goal

pub loop-line-preserved : goal.loop-line-preserved
loop-line-preserved c =
    c.in_ok-push.ensures.items ∙ ap (λ (z : List ℕ). z ++ c.loop-line.line ∷ []) c.loop-line.invariant ∙ sym (range_next c.loop-line.line)

pub returns-clause-order : goal.returns-clause-order
returns-clause-order c =
    let all : c.loop-line.line ≡ length c.args.weights.now = search rules in
    sorted_order (length c.args.weights.now) c.loop-line.order.items c.sort_unstable_by_key.new.self.items
    (c.loop-line.invariant ∙ ap (range_with_len 0) all) c.sort_unstable_by_key.ensures.permutation

pub returns-clause-falling : goal.returns-clause-falling
returns-clause-falling c =
    let rises = IsNonDecreasingBy-from_sort_by_key (place c.args.weights.now) _ c.sort_unstable_by_key.ensures.sorted (λ a r q k. search rules) in
    falling (length c.args.weights.now) c.args.weights.now c.sort_unstable_by_key.new.self.items (search rules)
    (λ n. let fits = c.type_inv.weights n in search rules) (returns-clause-order c) rises
