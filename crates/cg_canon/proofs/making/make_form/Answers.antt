use Rattle.cg_canon.specs.Paid.{written}
use Rattle.cg_canon.proofs.Paying.{made_paid}
use Rattle.cg_canon.proofs.making.make_form.Goals as goal

pub returns-clause-entered : goal.returns-clause-entered
returns-clause-entered g c =
    let W = g.S.CellStore.state in
    let form = written c.args.interner.now.arena c.args.new.now in
    let spends = c.claimed.ensures.spends in
    record {
      paid = made_paid (W c.args.store.now) (W c.claimed.new.store) c.args.meter.now c.charge_item.new.self form c.args.extra c.claimed.result.handle
          spends.0 c.charge.result.cost (rw c.charge.ensures.cost spends.1) spends.2 c.in_ok-charge_item.ensures.ok c.in_ok-charge_item.ensures.fits
          c.claimed.ensures.game (c.in_ok-charge_item.ensures.charged form (c.charge.ensures.charge form c.requires.form.summary));
      at = c.claimed.ensures.at;
      begins = c.claimed.ensures.begins;
    }
