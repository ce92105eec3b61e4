use Rattle.std.proofs.Common.{sym, ◌∙◌, eqb-true, eq-eqb}
use Rattle.cg_cells.proofs.Plains.{same_things, plain_real}
use Rattle.cg_cells.proofs.Calls.{seen}
use Rattle.cg_cells.proofs.plain.PlainStoreCellStore.same.Goals as goal

pub returns-clause-things : goal.returns-clause-things
returns-clause-things g c =
    let r = same_things g.F.Facts.meaning g.met.F.Facts.lawful c.args.self.now (seen g.F.Facts.meaning g.met.F.Facts.lawful _ _ c.self.view_is c.self.invariant.store) c.args.a c.args.b c.requires.a in (
      λ h. r.0 (sym c.number.ensures.value ∙ (eqb-true c.number.result c.number-2.result h ∙ c.number-2.ensures.value)),
      λ e. eq-eqb c.number.result c.number-2.result (c.number.ensures.value ∙ (r.1 e ∙ sym c.number-2.ensures.value)),
    )

pub returns-clause-real : goal.returns-clause-real
returns-clause-real g c =
    let P = seen g.F.Facts.meaning g.met.F.Facts.lawful _ _ c.self.view_is c.self.invariant.store in
    (plain_real g.F.Facts.meaning g.met.F.Facts.lawful c.args.self.now P c.args.a, plain_real g.F.Facts.meaning g.met.F.Facts.lawful c.args.self.now P c.args.b)
