use Rattle.cg_graph.proofs.ColouredReadings.{coloured_is, is_coloured, is_uncoloured, uncoloured_is}
use Rattle.cg_graph.proofs.laws.coloured_graphs.Goals as goal

pub returns-clause-coloured : goal.returns-clause-coloured
returns-clause-coloured c = λ snort vertices edges coloured_graph.
    (coloured_is snort vertices edges coloured_graph, is_coloured snort vertices edges coloured_graph)

pub returns-clause-refused : goal.returns-clause-refused
returns-clause-refused c = λ snort vertices edges fault other.
    (uncoloured_is snort vertices edges fault, is_uncoloured snort vertices edges fault other)
