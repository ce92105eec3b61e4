use Rattle.cg_form.specs.Forms.{games_of}
use Rattle.cg_form.proofs.KnownSteps.{own_lefts_less, own_rights_less, reduced_settled}
use Rattle.cg_form.proofs.canon.reduced.Goals as goal

pub bypass_all-requires-clause-less : goal.bypass_all-requires-clause-less
bypass_all-requires-clause-less c = own_lefts_less c.of.result c.of-2.result _ _ c.in-Node.is

pub bypass_all-requires-in-Node-clause-less : goal.bypass_all-requires-in-Node-clause-less
bypass_all-requires-in-Node-clause-less c = own_rights_less c.of.result c.of-2.result _ _ c.in-Node.is

pub returns : goal.returns
returns c = reduced_settled (games_of c.args.lefts.items) (games_of c.args.rights.items) c.of.result c.of-2.result c.in-Node.own_lefts c.in-Node.own_rights
    _ _ _ _ _ _ c.of.ensures c.of-2.ensures c.in-Node.is c.requires.none c.in_ok-best_lefts-in-Node.ensures c.in_ok-best_rights-in-Node.ensures
    c.of-in-Node.ensures c.of-in-Node-2.ensures
