use Rattle.cg_nimbers.proofs.CanonicalNimbers.{nimber-canonical}
use Rattle.cg_names.proofs.SwitchForms.{switch-canonical, tiny-canonical}
use Rattle.cg_names.proofs.UpForms.{ups-canonical}
use Rattle.cg_names.proofs.laws.canonical.Goals as goal

pub returns : goal.returns
returns c = record {
  nimbers = nimber-canonical;
  ups = ups-canonical;
  switches = switch-canonical;
  tinies = tiny-canonical;
}
