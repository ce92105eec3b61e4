use Rattle.std.proofs.Common.{arith, refl}
use Rattle.cg_canon.specs.Works.{work_state}
use Rattle.cg_canon.proofs.InternerSteps.{begins_none}
use Rattle.cg_canon.proofs.Charging.{none_given}
use Rattle.cg_canon.proofs.Keeping.{keeps_all}
use Rattle.cg_canon.proofs.Paying.{paid_holds}
use Rattle.cg_canon.proofs.work.Work.make_number.Goals as goal

pub invariant_of-self : goal.invariant_of-self
invariant_of-self g c =
    let h = c.self.inside.cache in
    paid_holds (g.S.CellStore.state c.self.inside.store.now) (g.S.CellStore.state c.number_at.new.store) c.self.inside.meter c.number_at.new.meter
    c.self.inside.start h (record h.memo { interner = c.number_at.new.interner }) _ c.args.extra _ c.self.invariant
    c.number_at.ensures.entered.paid c.number_at.ensures.holds refl

pub returns-in-None : goal.returns-in-None
returns-in-None g c = λ form is. record {
  at = tt;
  begins = begins_none c.args.self.now.arena;
  made = record {
    charged = tt;
    refused = none_given c.args.x c.args.extra c.args.self.now.share c.args.self.now.spent c.in-None.is;
    keeps = keeps_all (work_state g.S.CellStore.state c.args.self.now);
  };
  spare = tt;
  more = omega arith;
}
