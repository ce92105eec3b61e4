use Rattle.std.proofs.Common.{refl}
use Rattle.cg_cert.proofs.choice.first_move.Goals as goal

pub returns-in-Some-clause-found : goal.returns-in-Some-clause-found
returns-in-Some-clause-found g c =
    let h = rw c.in-Some.is at c.in_ok-choice.ensures.choice in ((h.0, h.1, refl), (h.2, c.requires.1))

pub returns-in-None-clause-found : goal.returns-in-None-clause-found
returns-in-None-clause-found g c = (
  rw c.in_default.is at c.in_ok-choice.ensures.choice,
  rw (c.first_choice.ensures.same, c.in-None.is) at c.in_ok-first_choice.ensures.choice,
)

pub returns-in-Some-2-clause-found : goal.returns-in-Some-2-clause-found
returns-in-Some-2-clause-found g c =
    let h = rw (c.first_choice.ensures.same, c.in-Some-2.is) at c.in_ok-first_choice.ensures.choice in
    (((rw c.in_default.is at c.in_ok-choice.ensures.choice), h.0, h.1, refl), (c.requires.0, h.2))
