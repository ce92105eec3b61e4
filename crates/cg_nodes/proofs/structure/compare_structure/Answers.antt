use Rattle.std.proofs.Common.{refl, sym, ◌∙◌}
use Rattle.cg_nodes.proofs.Compared.{apart_order, same_order, told_apart, told_same}
use Rattle.cg_nodes.proofs.structure.compare_structure.Goals as goal

pub returns-then-same-clause-order : goal.returns-then-same-clause-order
returns-then-same-clause-order g c =
    sym (same_order (g.S.CellStore.state c.args.store.now) c.args.a c.args.b
    (told_same c.id.result c.id-2.result c.args.a c.args.b c.same.result c.id.ensures c.id-2.ensures
    c.same.ensures.ids.0 c.if-same.true))

pub returns-in-Nowhere-clause-same : goal.returns-in-Nowhere-clause-same
returns-in-Nowhere-clause-same g c = (
  λ e. absurd (apart_order (g.S.CellStore.state c.args.store.now) c.args.a c.args.b c.requires.a c.requires.b
      (told_apart (g.S.CellStore.state c.args.store.now) c.id.result c.id-2.result c.args.a c.args.b c.same.result
      c.id.ensures c.id-2.ensures c.same.ensures.things.1 c.if-same.false)
      (c.loop-x.invariant.order ∙ c.in-Nowhere.ensures.parting)),
  λ e. refl,
)
