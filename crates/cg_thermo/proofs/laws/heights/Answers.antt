use Rattle.cg_form.proofs.Thermal.{thermal-low}
use Rattle.cg_thermo.proofs.Places.{height-depth, shallow-enough}
use Rattle.cg_thermo.proofs.laws.heights.Goals as goal

pub returns : goal.returns
returns c = record { thermal = thermal-low; depth = height-depth; enough = shallow-enough }
