use Rattle.cg_canon.proofs.work.Work.charge_of.Goals as goal

pub returns-clause-charge : goal.returns-clause-charge
returns-clause-charge g c =
    rw (← c.in_ok-game.ensures.game.is) (rw (← c.arena.ensures) c.charge.ensures)
