use Rattle.cg_graph.specs.Drawings.{graph_of}
use Rattle.cg_graph.proofs.HackenbushLaw.{hackenbush_lawful}
use Rattle.cg_graph.proofs.drawing_moves.HackenbushRules.lawful.Goals as goal

pub returns : goal.returns
returns c = hackenbush_lawful (graph_of c.args.self.now)
