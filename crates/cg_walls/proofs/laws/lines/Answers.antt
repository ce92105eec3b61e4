use Rattle.cg_walls.proofs.Lines.{one-on, some-on}
use Rattle.cg_walls.proofs.Through.{corners-on}
use Rattle.cg_walls.proofs.laws.lines.Goals as goal

pub returns-clause-corners : goal.returns-clause-corners
returns-clause-corners c = λ w end up down still t. corners-on w (record { up_by_one = up; down_by_one = down }) end still t

pub returns-clause-some : goal.returns-clause-some
returns-clause-some c = some-on

pub returns-clause-one : goal.returns-clause-one
returns-clause-one c = one-on
