use Rattle.cg_thermo.proofs.EqualThermographs.{equal-thermograph}
use Rattle.cg_thermo.proofs.OneThermograph.{one-thermograph, some-thermograph}
use Rattle.cg_thermo.proofs.laws.thermographs.Goals as goal

pub returns : goal.returns
returns c = record { some = some-thermograph; one = one-thermograph; equal = equal-thermograph }
