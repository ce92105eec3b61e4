-- The items of the sums of the first nimbers are the own list of the sum.
use Rattle.std.proofs.Common.{◌≤◌, ◌<◌, ◌+◌, ◌*◌, arith, refl, subst, ℕ, Ok}
use Rattle.cg_canon.proofs.MadeSteps.{made_with}
use Rattle.cg_canon.specs.Works.{work_state}
use Rattle.cg_sum.proofs.PairSteps.{is_within, pair_game, pair_made, pair_refused}
use Rattle.cg_sum.proofs.SumEnds.{gives_handed, gives_refused}
use Rattle.cg_sum.proofs.nimber_sums.nimber_sum.Goals as goal

pub returns-then-is_product_above : goal.returns-then-is_product_above
returns-then-is_product_above g c =
    let w = work_state g.S.CellStore.state c.args.work.now in
    let P : ℕ → Type 0 = λ z. z < (c.args.pair.first + 1) * (c.args.pair.second + 1) in
    gives_refused _ _ _ _ _ _ refl (pair_refused w _ _ c.args.pair c.requires.pair _ _ refl refl
    (subst P c.limit.ensures (c.is_product_above.ensures.0 c.if-is_product_above.true)) _ refl) (omega arith)

pub returns-in_err-add_nimbers : goal.returns-in_err-add_nimbers
returns-in_err-add_nimbers g c =
    let w = work_state g.S.CellStore.state c.args.work.now in
    let P : ℕ → Type 0 = λ z. (c.args.pair.first + 1) * (c.args.pair.second + 1) ≤ z in
    let within = subst P c.limit.ensures (is_within _ _ (λ above.
    let t = c.is_product_above.ensures.1 above in let f = c.if-is_product_above.false in cc)) in
    let m = pair_made w _ _ c.args.pair c.requires.pair _ _ refl refl within _ _ c.in_err-add_nimbers.ensures.made in
    gives_handed _ c.from_residual.ensures.1 m.refused m.keeps c.add_nimbers.ensures.spare

pub returns : goal.returns
returns g c =
    let W = work_state g.S.CellStore.state in
    let w = W c.args.work.now in
    let known = c.in_ok-add_nimbers.ensures.known in
    let P : ℕ → Type 0 = λ z. (c.args.pair.first + 1) * (c.args.pair.second + 1) ≤ z in
    let within = subst P c.limit.ensures (is_within _ _ (λ above.
    let t = c.is_product_above.ensures.1 above in let f = c.if-is_product_above.false in cc)) in
    record {
      game = pair_game w _ _ c.args.pair c.requires.pair (W c.add_nimbers.new.work) c.add_nimbers.new.nimbers _
          c.in_ok-add_nimbers.ensures.holds (known.each c.args.pair.first c.args.pair.second (omega arith) (omega arith))
          c.index.ensures;
      made = made_with _ _ _ c.add_nimbers.result (Ok _) _ _ c.in_ok-add_nimbers.was refl
          (pair_made w _ _ c.args.pair c.requires.pair _ _ refl refl within _ c.add_nimbers.result c.add_nimbers.ensures.made);
      more = c.add_nimbers.ensures.spare;
    }
