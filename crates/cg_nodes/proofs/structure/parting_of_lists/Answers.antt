use Rattle.cg_nodes.proofs.Compared.{passed_more, passed_apart, told_apart, told_same}
use Rattle.cg_nodes.proofs.structure.parting_of_lists.Goals as goal

pub returns-then-not-same-clause-parting : goal.returns-then-not-same-clause-parting
returns-then-not-same-clause-parting g c =
    passed_apart (g.S.CellStore.state c.args.store.now) (g.S.CellStore.state c.loop-a.store) (g.S.CellStore.state
    c.head.new.store) (g.S.CellStore.state c.head-in-Some.new.store)
    c.args.left c.args.right c.loop-a.left c.loop-a.right c.in-Some.a c.in-Some-head.b c.loop-a.invariant
    c.head.ensures.spends c.head-in-Some.ensures.spends
    c.in-Some.ensures.head c.in-Some-head.ensures.head
    (told_apart (g.S.CellStore.state c.head-in-Some.new.store) c.id.result c.id-in-Some.result c.in-Some.a.first
    c.in-Some-head.b.first c.same.result
    c.id.ensures c.id-in-Some.ensures c.same.ensures.things.1 c.if-not-same.true)

pub loop-a-preserved : goal.loop-a-preserved
loop-a-preserved g c =
    passed_more (g.S.CellStore.state c.args.store.now) (g.S.CellStore.state c.loop-a.store) (g.S.CellStore.state
    c.head.new.store) (g.S.CellStore.state c.head-in-Some.new.store)
    c.args.left c.args.right c.loop-a.left c.loop-a.right c.in-Some.a c.in-Some-head.b c.loop-a.invariant
    c.head.ensures.spends c.head-in-Some.ensures.spends
    c.in-Some.ensures.head c.in-Some-head.ensures.head
    (told_same c.id.result c.id-in-Some.result c.in-Some.a.first c.in-Some-head.b.first c.same.result c.id.ensures
    c.id-in-Some.ensures c.same.ensures.ids.0 c.if-not-same.false)
