use Rattle.std.proofs.Common.{refl, subst, sym, [], ◌∷◌}
use Rattle.cg_form.specs.Game.{number}
use Rattle.cg_canon.specs.Items.{made}
use Rattle.cg_canon.specs.Works.{Keeps, WorkOf, work_state}
use Rattle.cg_canon.proofs.Charging.{none_given}
use Rattle.cg_canon.proofs.Keeping.{keeps_all}
use Rattle.cg_canon.proofs.MadeSteps.{then_read}
use Rattle.cg_canon.proofs.item.number_item.Goals as goal

pub returns-in-None-clause-made : goal.returns-in-None-clause-made
returns-in-None-clause-made g c = record {
  charged = tt;
  refused = none_given c.args.x c.args.extra c.args.work.now.share c.args.work.now.spent c.in-None.is;
  keeps = keeps_all (work_state g.S.CellStore.state c.args.work.now);
}

pub returns-in_ok-charge_item-in-Some-clause-made : goal.returns-in_ok-charge_item-in-Some-clause-made
returns-in_ok-charge_item-in-Some-clause-made g c =
    let W = work_state g.S.CellStore.state in
    let w = c.args.work.now in
    let P : WorkOf _ → Type 0 = λ z. Keeps (W w) (W z) in
    rw c.in-Some.is (then_read _ (W w) (W c.charge_item.new.self) _ (made (number c.in-Some.value) c.args.extra ∷ []) _ (record {
      charged = c.in_ok-charge_item-in-Some.ensures.charged (number c.in-Some.value) c.number.ensures;
      refused = tt;
      keeps = subst P (sym c.in_ok-charge_item-in-Some.ensures.ok) (record {
        known = λ i x e. e;
        noted = λ x h. h;
        of_store = refl;
        name = refl;
        share = refl;
        start = refl;
        limit = refl;
      });
    }) c.number-in-Some.ensures.spends)
