use Rattle.cg_graph.proofs.DrawingReadings.{drawn_is, is_drawn, is_refused, refused_is}
use Rattle.cg_graph.proofs.laws.drawings.Goals as goal

pub returns-clause-drawn : goal.returns-clause-drawn
returns-clause-drawn c = λ text drawing. (drawn_is text drawing, is_drawn text drawing)

pub returns-clause-refused : goal.returns-clause-refused
returns-clause-refused c = λ text fault other. (refused_is text fault, is_refused text fault other)
