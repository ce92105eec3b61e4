-- A sum that is kept is charged; another is made, and kept.
use Rattle.std.proofs.Common.{ap, sym, ◌∙◌, Err}
use Rattle.std.proofs.lemmas.Result.{err_from_is_err_and}
use Rattle.cg_canon.specs.Works.{work_state}
use Rattle.cg_sum.proofs.ItemSteps.{form_as, given_form}
use Rattle.cg_sum.proofs.Placed.{first_at, placed_later, second_at, sum_at_indexes}
use Rattle.cg_sum.proofs.item.sum_item.Goals as goal

pub returns-in_err-sum : goal.returns-in_err-sum
returns-in_err-sum g c =
    let p = err_from_is_err_and c.from_residual.result c.from_residual.ensures.1 in
    form_as _ _ _ _ _ _ _ _ _ (p.1 ∙ ap Err p.2 ∙ sym c.in_err-sum.was) c.new_item.ensures

pub keep_pair-requires : goal.keep_pair-requires
keep_pair-requires g c =
    let placed = placed_later _ _ c.new_item.ensures.begins _ _ _ _ c.requires.1.1.1.0.placed in
    record {
      a = (first_at _ _ _ _ _ placed _ _ c.index-f.ensures c.index-k.ensures).within;
      b = (second_at _ _ _ _ _ placed _ _ c.index-f.ensures c.index-k.ensures).within;
      sum = sum_at_indexes _ _ _ _ _ placed _ _ c.index-f.ensures c.index-k.ensures _ c.in_ok-sum.ensures.at;
    }

pub returns : goal.returns
returns g c = rw c.keep_pair.ensures (form_as _ _ _ _ _ _ _ _ _ (sym c.in_ok-sum.was) c.new_item.ensures)

pub make_again-requires-clause-game : goal.make_again-requires-clause-game
make_again-requires-clause-game g c = c.in-Some.ensures.within

pub returns-in-Some : goal.returns-in-Some
returns-in-Some g c =
    let W = work_state g.S.CellStore.state in
    given_form (W c.args.work.now) (W c.make_again.new.self) _ _ _ c.requires.1.1.1.1 _ _ 1 1 _ c.in-Some.ensures.is c.make_again.ensures.item
