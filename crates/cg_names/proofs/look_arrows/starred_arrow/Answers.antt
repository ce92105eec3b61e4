use Rattle.cg_names.proofs.Ends.{starred-found, starred-none}
use Rattle.cg_names.proofs.look_arrows.starred_arrow.Goals as goal

pub returns-in-None-clause-named_form : goal.returns-in-None-clause-named_form
returns-in-None-clause-named_form c =
    starred-none c.args.down _ _ c.requires.no_star c.requires.more c.in-None.ensures

pub returns-in-Some-clause-named_form : goal.returns-in-Some-clause-named_form
returns-in-Some-clause-named_form c = starred-found c.args.down _ _ c.in-Some.base c.in-Some.ensures
