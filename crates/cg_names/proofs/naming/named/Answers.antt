use Rattle.std.proofs.Common.{ap, ◌∙◌, ◌++◌}
use Rattle.cg_arena.specs.Arena.{game_of}
use Rattle.cg_names.specs.Spelled.{name_of}
use Rattle.cg_names.proofs.NameRule.{named-is}
use Rattle.cg_names.proofs.ReadBack.{name_reads}
use Rattle.cg_names.proofs.naming.named.Goals as goal

pub returns-clause-name : goal.returns-clause-name
returns-clause-name g c =
    let game = c.in_ok-game.game in
    let e = ap (λ z. game_of z game) c.arena.ensures ∙ c.in_ok-game.ensures.game.is in
    named-is _ _ (c.in_ok-push_name.ensures.text
    ∙ ap (λ z. z ++ name_of (game_of c.arena.result.now game)) c.new-text.ensures.bytes ∙ ap name_of e)

pub returns-clause-reads : goal.returns-clause-reads
returns-clause-reads g c opened =
    let e = ap (λ z. game_of z c.in_ok-game.game) c.arena.ensures ∙ c.in_ok-game.ensures.game.is in
    name_reads _ _ (rw e at c.in_ok-push_name.ensures.canonical) (returns-clause-name g c)
    (rw e at c.in_ok-push_name.ensures.in_range) opened
