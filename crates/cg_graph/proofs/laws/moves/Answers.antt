use Rattle.std.proofs.Common.{length}
use Rattle.std.specs.List.{flat_map}
use Rattle.cg_moves.specs.Rising.{counted}
use Rattle.cg_moves.proofs.RisingLemmas.{rising-rises}
use Rattle.cg_graph.specs.Colouring.{colourings_at}
use Rattle.cg_graph.specs.Hackenbush.{cuts_at}
use Rattle.cg_graph.proofs.HackenbushLaw.{is_cut}
use Rattle.cg_graph.proofs.ColouringMoves.{colouring_is, is_colouring_so}
use Rattle.cg_graph.proofs.RedBlue.{cut_is}
use Rattle.cg_graph.proofs.laws.moves.Goals as goal

pub returns-clause-cuts : goal.returns-clause-cuts
returns-clause-cuts c = λ edges player cells after. (
  λ m. let (k, may, e) = is_cut edges player cells after m in record { place = k; may = may; left = e },
  λ a. (rw a.left (cut_is edges player cells a.place a.may)),
)

pub returns-clause-colourings : goal.returns-clause-colourings
returns-clause-colourings c = λ snort edges player cells after.
    (colouring_is snort edges player cells after, is_colouring_so snort edges player cells after)

pub returns-clause-cuts_rise : goal.returns-clause-cuts_rise
returns-clause-cuts_rise c = λ edges player cells.
    rising-rises (flat_map (cuts_at edges player cells) (counted 0 (length cells)))

pub returns-clause-colourings_rise : goal.returns-clause-colourings_rise
returns-clause-colourings_rise c = λ snort edges player cells.
    rising-rises (flat_map (colourings_at snort edges player cells) (counted 0 (length cells)))
