use Rattle.std.proofs.Common.{ap, sym, ◌∙◌}
use Rattle.std.proofs.lemmas.Option.{IfSome_then}
use Rattle.cg_form.specs.Order.{no_one}
use Rattle.cg_form.specs.Side.{at_most, far}
use Rattle.cg_form.proofs.Among.{carry}
use Rattle.cg_arena.specs.Arena.{game_of, games_of}
use Rattle.cg_arena.specs.UnreducedGames.{unreduced_game}
use Rattle.cg_arena.proofs.Against.{far_side}
use Rattle.cg_arena.proofs.Bypassing.{number_fine, stays_fine}
use Rattle.cg_arena.proofs.Results.{if_none, if_ok}
use Rattle.cg_arena.proofs.staying.reverser.Goals as goal

pub returns-in-Number-clause-none : goal.returns-in-Number-clause-none
returns-in-Number-clause-none c =
    number_fine c.args.left (unreduced_game c.args.arena.now c.args.unreduced.now) (game_of c.args.arena.now c.args.option) c.in-Number.field-0
    c.in-Number.ensures.read c.requires.less

pub returns-in-Options-clause-some : goal.returns-in-Options-clause-some
returns-in-Options-clause-some c =
    let gs = c.args.arena.now in
    let option = game_of gs c.args.option in
    let side = far_side gs option c.in-Options.lefts.now c.in-Options.rights.now c.chosen-far.result.now c.args.left c.in-Options.ensures.read c.chosen-far.ensures in
    if_ok c.first_at_most.result _ _ c.first_at_most.ensures.some
    (λ r h. IfSome_then r h (λ b p. (p.0, carry (game_of gs b) (games_of gs c.chosen-far.result.now) (far c.args.left option) side.same p.1, p.2)))

pub returns-in-Options-clause-none : goal.returns-in-Options-clause-none
returns-in-Options-clause-none c =
    let gs = c.args.arena.now in
    let unreduced = unreduced_game gs c.args.unreduced.now in
    let option = game_of gs c.args.option in
    let side = far_side gs option c.in-Options.lefts.now c.in-Options.rights.now c.chosen-far.result.now c.args.left c.in-Options.ensures.read c.chosen-far.ensures in
    if_ok c.first_at_most.result _ _ c.first_at_most.ensures.none
    (λ r h. if_none r h (λ never. stays_fine c.args.left unreduced option c.read.ensures.canonical c.requires.less
    (sym (ap (no_one (λ b. at_most c.args.left b unreduced)) side.same) ∙ never)))
