use Rattle.cg_moves.proofs.laws.l9.Goals as goal

pub returns : goal.returns
returns g c =
    (c.lawful.ensures.cut c.requires.cuts).sum c.args.board.now c.requires.has
