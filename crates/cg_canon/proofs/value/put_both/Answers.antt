use Rattle.std.proofs.Common.{◌∙◌}
use Rattle.cg_nodes.proofs.Later.{are_games_later, games_later}
use Rattle.cg_canon.proofs.InternerSteps.{stand_begins}
use Rattle.cg_canon.proofs.value.put_both.Goals as goal

pub put_games-requires-2-clause-games : goal.put_games-requires-2-clause-games
put_games-requires-2-clause-games g c =
    are_games_later (g.S.CellStore.state c.args.store.now) (g.S.CellStore.state c.put_games.new.store) c.put_games.ensures.spends.known c.args.rights.now
    c.requires.rights

pub returns-then-are_same-clause-rights : goal.returns-then-are_same-clause-rights
returns-then-are_same-clause-rights g c =
    let gs = c.put_games.new.interner.arena in
    let s = g.S.CellStore.state c.args.store.now in
    rw (c.in_ok-form.ensures.ok ∙ c.as_slice.ensures) (rw (← (c.are_same.ensures c.if-are_same.true)) c.in_ok-put_games.ensures.games)

pub returns-clause-lefts : goal.returns-clause-lefts
returns-clause-lefts g c =
    stand_begins c.put_games.new.interner.arena c.put_games-2.new.interner.arena c.put_games.new.games.items _ c.put_games-2.ensures.begins
    c.in_ok-put_games.ensures.games

pub returns-clause-rights : goal.returns-clause-rights
returns-clause-rights g c =
    rw (← (games_later (g.S.CellStore.state c.args.store.now) (g.S.CellStore.state c.put_games.new.store) c.put_games.ensures.spends.known c.args.rights.now
    c.requires.rights))
    c.in_ok-put_games-2.ensures.games
