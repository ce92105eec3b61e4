use Rattle.cg_nodes.proofs.Lists.{Stacked}
use Rattle.cg_nodes.proofs.making.list.Given as goal

abbrev pub invariant-loop-option : goal.invariant-loop-option
invariant-loop-option g l = Stacked (g.S.CellStore.state l.initial.store) (g.S.CellStore.state l.store) l.options
    l.option-iterator.iter.rest.now l.list
