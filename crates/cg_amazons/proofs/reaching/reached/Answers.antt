use Rattle.cg_amazons.proofs.RayLines.{reached_by}
use Rattle.cg_amazons.proofs.reaching.reached.Goals as goal

pub returns : goal.returns
returns c =
    reached_by c.args.shape.rows c.args.shape.columns c.args.free c.args.cell c.requires.shape.some c.requires.cell
    c.ray-up_back.result c.ray-up.result c.ray-up_forth.result c.ray-back.result c.ray-forth.result c.ray-down_back.result
    c.ray-down.result c.ray-down_forth.result c.ray-up_back.ensures c.ray-up.ensures c.ray-up_forth.ensures c.ray-back.ensures
    c.ray-forth.ensures c.ray-down_back.ensures c.ray-down.ensures c.ray-down_forth.ensures
