use Rattle.cg_cells.proofs.Tickets.{one_holds, holds_once, held_drawn, drawn_held}
use Rattle.cg_cells.proofs.law_steps.tickets.Goals as goal

pub returns-clause-one : goal.returns-clause-one
returns-clause-one g c = λ z words views i j n v w W. one_holds g.F.Facts.meaning z words views W n i j v w

pub returns-clause-once : goal.returns-clause-once
returns-clause-once g c = λ z words views i n v W. holds_once g.F.Facts.meaning z words views W n i v

pub returns-clause-drawn : goal.returns-clause-drawn
returns-clause-drawn g c = λ z words views i n v W. held_drawn g.F.Facts.meaning z words views W n i v

pub returns-clause-held : goal.returns-clause-held
returns-clause-held g c = λ z words views n W. drawn_held g.F.Facts.meaning z words views W n
