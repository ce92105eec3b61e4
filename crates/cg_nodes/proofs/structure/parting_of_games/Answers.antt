use Rattle.cg_nodes.proofs.Compared.{games_parting}
use Rattle.cg_nodes.proofs.structure.parting_of_games.Goals as goal

pub returns-in-Game-b-2-clause-parting : goal.returns-in-Game-b-2-clause-parting
returns-in-Game-b-2-clause-parting g c =
    games_parting (g.S.CellStore.state c.args.store.now) (g.S.CellStore.state c.read-a.new.store)
    (g.S.CellStore.state c.read-b.new.store) (g.S.CellStore.state c.parting_of_nodes.new.store)
    c.parting_of_nodes.result c.args.left c.args.right c.in-Game.left_a c.in-Game.right_a c.in-Game-b-2.left_b
    c.in-Game-b-2.right_b c.requires.right
    c.read-a.ensures.spends c.read-b.ensures.spends c.in-Game.ensures.game c.in-Game-b-2.ensures.game
    c.parting_of_nodes.ensures.parting
