-- The sum of the options is made, and what is known of it is learned.
use Rattle.std.proofs.Common.{ap, sym, ◌∙◌, Err}
use Rattle.std.proofs.lemmas.Result.{err_from_is_err_and}
use Rattle.cg_sum.proofs.ItemSteps.{form_as}
use Rattle.cg_sum.proofs.Placed.{first_at, placed_later, second_at, sum_at_indexes}
use Rattle.cg_sum.proofs.item.made_item.Goals as goal

pub returns-in_err-sum : goal.returns-in_err-sum
returns-in_err-sum g c =
    let p = err_from_is_err_and c.from_residual.result c.from_residual.ensures.1 in
    form_as _ _ _ _ _ _ _ _ _ (p.1 ∙ ap Err p.2 ∙ sym c.in_err-sum.was) c.summed_item.ensures

pub learn_sum-requires : goal.learn_sum-requires
learn_sum-requires g c =
    let placed = placed_later _ _ c.summed_item.ensures.begins _ _ _ _ c.requires.1.1.1.0.placed in
    record {
      a = (first_at _ _ _ _ _ placed _ _ c.index-f.ensures c.index-k.ensures).within;
      b = (second_at _ _ _ _ _ placed _ _ c.index-f.ensures c.index-k.ensures).within;
      sum = sum_at_indexes _ _ _ _ _ placed _ _ c.index-f.ensures c.index-k.ensures _ c.in_ok-sum.ensures.at;
    }

pub returns : goal.returns
returns g c = rw c.learn_sum.ensures (form_as _ _ _ _ _ _ _ _ _ (sym c.in_ok-sum.was) c.summed_item.ensures)
