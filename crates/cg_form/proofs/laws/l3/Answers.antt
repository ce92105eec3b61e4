use Rattle.cg_form.proofs.Integers.{no_lefts-integer, no_rights-integer}
use Rattle.cg_form.proofs.Simplicity.{simplicity}
use Rattle.cg_form.proofs.laws.l3.Goals as goal

pub returns-clause-simplest : goal.returns-clause-simplest
returns-clause-simplest c = simplicity

pub returns-clause-no_lefts : goal.returns-clause-no_lefts
returns-clause-no_lefts c = no_lefts-integer

pub returns-clause-no_rights : goal.returns-clause-no_rights
returns-clause-no_rights c = no_rights-integer
