use Rattle.std.proofs.Common.{max, arith, ◌+◌, suc}
use Rattle.cg_form.specs.Depth.{deepest}
use Rattle.cg_form.specs.Structure.{order_of_lists}
use Rattle.cg_nodes.specs.Games.{listed}
use Rattle.cg_nodes.proofs.Compared.{nodes_first, nodes_rest}
use Rattle.cg_nodes.proofs.structure.parting_of_nodes.Goals as goal

pub returns-in-Nowhere-clause-parting : goal.returns-in-Nowhere-clause-parting
returns-in-Nowhere-clause-parting g c =
    nodes_rest (g.S.CellStore.state c.args.store.now) (g.S.CellStore.state c.parting_of_lists-parting.new.store)
    (g.S.CellStore.state c.parting_of_lists.new.store)
    c.parting_of_lists.result c.args.left.0 c.args.right.0 c.args.left.1 c.args.right.1
    c.parting_of_lists-parting.ensures.spends c.requires.left.1 c.requires.right.1
    c.in-Nowhere.ensures.parting c.parting_of_lists.ensures.parting

pub returns-in_default : goal.returns-in_default
returns-in_default g c = record {
  parting = nodes_first (g.S.CellStore.state c.parting_of_lists-parting.new.store) c.parting_of_lists-parting.result
      (order_of_lists (listed (g.S.CellStore.state c.args.store.now) c.args.left.0) (listed (g.S.CellStore.state
      c.args.store.now) c.args.right.0))
      (order_of_lists (listed (g.S.CellStore.state c.args.store.now) c.args.left.1) (listed (g.S.CellStore.state
      c.args.store.now) c.args.right.1))
      (deepest (listed (g.S.CellStore.state c.args.store.now) c.args.left.0) + 1)
      (suc (max (deepest (listed (g.S.CellStore.state c.args.store.now) c.args.left.0)) (deepest (listed
      (g.S.CellStore.state c.args.store.now) c.args.left.1))))
      c.parting_of_lists-parting.ensures.parting c.in_default.not-Nowhere (omega arith);
  spends = c.parting_of_lists-parting.ensures.spends;
}
