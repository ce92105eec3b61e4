-- The last pair of walls is that of the game.
use Rattle.std.proofs.Common.{◌≡◌, ◌-◌, arith, ap, sym, ◌∙◌, subst}
use Rattle.std.proofs.lemmas.Result.{err_from_is_err_and}
use Rattle.cg_arena.specs.Arena.{game_of}
use Rattle.cg_canon.specs.Works.{work_state}
use Rattle.cg_form.specs.Game.{Game, IsNode}
use Rattle.cg_form.specs.Positions.{positions_of}
use Rattle.cg_nodes.specs.Games.{game_at}
use Rattle.cg_thermo.specs.Progress.{HasWallPair, walked}
use Rattle.cg_thermo.specs.Thermographs.{IsThermograph}
use Rattle.cg_thermo.proofs.WallPairSteps.{each_walls_paired, err_range, own_wall_pair, rough-needs, some_positions}
use Rattle.cg_thermo.proofs.Picturing.{enough_places, is_thermograph}
use Rattle.cg_thermo.proofs.Places.{needs-deep}
use Rattle.cg_thermo.proofs.WallLines.{draws-walls}
use Rattle.cg_thermo.proofs.thermo.thermograph.Given as given
use Rattle.cg_thermo.proofs.thermo.thermograph.Goals as goal
use Rattle.cg_thermo.proofs.thermo.thermograph.Goals.{After-index-wall_pair, In_ok-pictured, In_ok-walk}

-- the games that were walked are the positions of the game
listed : (g : given.Over) (c : In_ok-walk g)
    → walked c.each_position.new.work.arena c.in_ok-walk.walk ≡ positions_of (game_at (work_state g.S.CellStore.state c.args.work.now) c.args.a)
listed g c =
    ap (λ z. walked z.arena c.in_ok-walk.walk) c.each_position.ensures.same ∙ c.in_ok-walk.ensures.walk.at.1
    ∙ ap positions_of c.in_ok-game.ensures.game.is

-- the pair of walls is that of the game
own : (g : given.Over) (c : After-index-wall_pair g)
    → walked c.each_position.new.work.arena c.in_ok-walk.walk ≡ positions_of (game_at (work_state g.S.CellStore.state c.args.work.now) c.args.a)
    → HasWallPair (game_at (work_state g.S.CellStore.state c.args.work.now) c.args.a) c.index-wall_pair.result.now
own g c is =
    let some = some_positions _ _ is in
    let count = c.in_ok-wall_pairs.ensures.count in
    let ok = c.in_ok-wall_pairs.wall_pairs.ok.0 in
    let len = c.len.ensures in
    own_wall_pair _ _ _ is c.in_ok-wall_pairs.ensures.wall_pairs count (c.len.result - 1) _ (omega (arith, ok, len, count, some)) c.index-wall_pair.ensures

pub returns-in_err-wall_pairs-clause-deep : goal.returns-in_err-wall_pairs-clause-deep
returns-in_err-wall_pairs-clause-deep g c = λ e.
    let p = err_from_is_err_and c.from_residual-in_err-wall_pairs.result c.from_residual-in_err-wall_pairs.ensures.1 in
    needs-deep _ c.known_game.ensures.in_range
    (rough-needs _ _ (listed g (goal.at.returns-in_err-wall_pairs-clause-deep g c).In_ok-walk)
    (c.wall_pairs_of.ensures.range (err_range c.from_residual-in_err-wall_pairs.result c.wall_pairs_of.result p.0 c.in_err-wall_pairs.field-0.0 p.1 p.2
    c.in_err-wall_pairs.was e)))

pub overflow_sub-len : goal.overflow_sub-len
overflow_sub-len g c =
    let some = some_positions _ _ (listed g (goal.at.overflow_sub-len g c).In_ok-walk) in
    let count = c.in_ok-wall_pairs.ensures.count in
    let ok = c.in_ok-wall_pairs.wall_pairs.ok.0 in
    let len = c.len.ensures in
    omega (arith, ok, len, count, some)

pub index-wall_pair-requires : goal.index-wall_pair-requires
index-wall_pair-requires g c =
    let some = some_positions _ _ (listed g (goal.at.index-wall_pair-requires g c).In_ok-walk) in
    let count = c.in_ok-wall_pairs.ensures.count in
    let ok = c.in_ok-wall_pairs.wall_pairs.ok.0 in
    let len = c.len.ensures in
    omega (arith, ok, len, count, some)

pub temperature-temp-requires-clause-end : goal.temperature-temp-requires-clause-end
temperature-temp-requires-clause-end g c = (own g (goal.at.temperature-temp-requires-clause-end g c).After-index-wall_pair
    (listed g (goal.at.temperature-temp-requires-clause-end g c).In_ok-walk)).draws.soon

pub pictured-requires-clause-left : goal.pictured-requires-clause-left
pictured-requires-clause-left g c = (own g (goal.at.pictured-requires-clause-left g c).After-index-wall_pair (listed g (goal.at.pictured-requires-clause-left g
    c).In_ok-walk)).draws.left_wall

pub pictured-requires-clause-right : goal.pictured-requires-clause-right
pictured-requires-clause-right g c = (own g (goal.at.pictured-requires-clause-right g c).After-index-wall_pair (listed g (goal.at.pictured-requires-clause-right
    g c).In_ok-walk)).draws.right_wall

pub pictured-requires-clause-soon : goal.pictured-requires-clause-soon
pictured-requires-clause-soon g c = (own g (goal.at.pictured-requires-clause-soon g c).After-index-wall_pair (listed g (goal.at.pictured-requires-clause-soon g
    c).In_ok-walk)).draws.soon

drawn : (g : given.Over) (c : In_ok-pictured g) → HasWallPair (game_at (work_state g.S.CellStore.state c.args.work.now) c.args.a) c.index-wall_pair.result.now
    → IsThermograph (game_at (work_state g.S.CellStore.state c.args.work.now) c.args.a) c.in_ok-pictured.field-0
drawn g c k =
    let here = ap (λ z. game_of z.arena c.in_ok-game.game) c.each_position.ensures.same ∙ c.in_ok-game.ensures.game.is in
    let N : Game → Type 0 = λ z. IsNode z in
    is_thermograph _ c.index-wall_pair.result.now c.in_ok-pictured.field-0 c.temperature-temp.result k
    c.known_game.ensures.canonical c.in_ok-pictured.ensures.picture c.in_ok-pictured.ensures.temp
    (λ x e. c.temperature-temp.ensures.number x (here ∙ e)) (λ n. c.temperature-temp.ensures.other (subst N (sym here) n))

pub returns-clause-walls : goal.returns-clause-walls
returns-clause-walls g c = drawn g (goal.at.returns-clause-walls g c).In_ok-pictured
    (own g (goal.at.returns-clause-walls g c).After-index-wall_pair (listed g (goal.at.returns-clause-walls g c).In_ok-walk))

pub returns-clause-lines : goal.returns-clause-lines
returns-clause-lines g c = draws-walls _ _ (drawn g (goal.at.returns-clause-lines g c).In_ok-pictured
    (own g (goal.at.returns-clause-lines g c).After-index-wall_pair (listed g (goal.at.returns-clause-lines g c).In_ok-walk)))

pub returns-clause-enough : goal.returns-clause-enough
returns-clause-enough g c =
    enough_places _ (each_walls_paired _ _ _ (listed g (goal.at.returns-clause-enough g c).In_ok-walk) c.in_ok-wall_pairs.ensures.wall_pairs
    c.in_ok-wall_pairs.ensures.count)
