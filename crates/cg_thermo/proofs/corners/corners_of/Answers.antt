use Rattle.std.proofs.Common.{ap, map, sym, ◌∙◌, subst}
use Rattle.std.proofs.lemmas.List.{take_all}
use Rattle.cg_thermo.specs.Signed.{corner_at}
use Rattle.cg_thermo.specs.WallLine.{AreCorners}
use Rattle.cg_thermo.proofs.Picturing.{fits_at}
use Rattle.cg_thermo.proofs.Rescaled.{are_corners}
use Rattle.cg_thermo.proofs.corners.corners_of.Goals as goal

pub at_point-requires : goal.at_point-requires
at_point-requires c = fits_at c.args.points.now c.loop-point.point-index _ c.loop-point-test.true c.requires.fit

pub invariant_of-result : goal.invariant_of-result
invariant_of-result c =
    let all = c.loop-point.invariant ∙ ap (map (corner_at c.args.negated)) (take_all c.loop-point.point-index c.args.points.now c.loop-point-test.false) in
    subst AreCorners (sym all) (are_corners c.args.negated c.args.points.now c.requires.rise)
