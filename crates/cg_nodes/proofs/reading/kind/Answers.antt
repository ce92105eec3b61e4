use Rattle.cg_nodes.proofs.reading.kind.Goals as goal

pub returns-in-Game-clause-kind : goal.returns-in-Game-clause-kind
returns-in-Game-clause-kind g c = rw c.in-Game.ensures.game.2 tt
