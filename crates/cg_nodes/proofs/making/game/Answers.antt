use Rattle.cg_nodes.proofs.Spells.{has_option, spells-game, stands-game, some_from}
use Rattle.cg_nodes.proofs.making.game.Goals as goal

pub game-key-requires : goal.game-key-requires
game-key-requires g c = rw (c.lefts.view_is, c.rights.view_is) (has_option (g.S.CellStore.state c.args.store.now)
    c.args.lefts c.args.rights c.requires.canonical)

pub claim-requires-clause-spells : goal.claim-requires-clause-spells
claim-requires-clause-spells g c = some_from _ _ (spells-game c.game-key.result c.args.lefts c.args.rights
    (g.S.CellStore.state c.args.store.now) (rw (← c.lefts.view_is, ← c.rights.view_is) c.game-key.ensures.parts)
    c.requires.lefts c.requires.rights c.requires.canonical)

pub returns-clause-game : goal.returns-clause-game
returns-clause-game g c = rw c.of.ensures (stands-game c.game-key.result c.claim.result c.args.lefts c.args.rights
    (g.S.CellStore.state c.args.store.now) (g.S.CellStore.state c.claim.new.self) (rw (
      ← c.lefts.view_is,
      ←
          c.rights.view_is,
    ) c.game-key.ensures.parts) c.requires.lefts c.requires.rights c.requires.canonical
    c.claim.ensures.stands)
