use Rattle.std.proofs.Common.{sym, ◌∙◌, ap}
use Rattle.cg_form.specs.Game.{lefts, rights}
use Rattle.cg_form.proofs.Among.{lefts-node, rights-node}
use Rattle.cg_nodes.specs.Games.{listed}
use Rattle.cg_nodes.proofs.Later.{listed_later}
use Rattle.cg_nodes.proofs.Lists.{side_stand}
use Rattle.cg_nodes.proofs.reading.options.Goals as goal

pub returns-clause-lefts : goal.returns-clause-lefts
returns-clause-lefts g c =
    side_stand (g.S.CellStore.state c.handles.new.store) (g.S.CellStore.state c.handles-2.new.store) c.in_ok-lefts.lefts
    (listed (g.S.CellStore.state c.read.new.store) c.in-Game.left_list) _ c.handles-2.ensures.spends
    c.in_ok-lefts.ensures.handles
    (sym (ap lefts c.in-Game.ensures.game.2
    ∙ lefts-node (listed (g.S.CellStore.state c.read.new.store) c.in-Game.left_list) (listed (g.S.CellStore.state
    c.read.new.store) c.in-Game.right_list)))

pub returns-clause-rights : goal.returns-clause-rights
returns-clause-rights g c = (
  c.in_ok-rights.ensures.handles.0,
  c.in_ok-rights.ensures.handles.1
      ∙ listed_later (g.S.CellStore.state c.read.new.store) (g.S.CellStore.state c.handles.new.store)
      c.handles.ensures.spends.known c.in-Game.right_list c.in-Game.ensures.game.1
      ∙ sym (ap rights c.in-Game.ensures.game.2
      ∙ rights-node (listed (g.S.CellStore.state c.read.new.store) c.in-Game.left_list) (listed
      (g.S.CellStore.state c.read.new.store) c.in-Game.right_list)),
)
