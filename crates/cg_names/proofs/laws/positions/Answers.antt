use Rattle.cg_nimbers.proofs.NimberPositions.{length-nimber_positions, nimber-positions}
use Rattle.cg_names.proofs.SwitchPositions.{switch-positions, tiny-positions}
use Rattle.cg_names.proofs.UpPositions.{length-ups_positions, ups-positions}
use Rattle.cg_names.proofs.laws.positions.Goals as goal

pub returns : goal.returns
returns c = record {
  nimbers = nimber-positions;
  nimber_count = length-nimber_positions;
  ups = ups-positions;
  ups_count = length-ups_positions;
  switches = switch-positions;
  tinies = tiny-positions;
}
