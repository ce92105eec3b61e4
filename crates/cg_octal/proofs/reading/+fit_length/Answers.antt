use Rattle.std.proofs.Common.{rules}
use Rattle.cg_octal.proofs.Places.{fit_more, fit_none, fit_stop}
use Rattle.cg_octal.proofs.reading.+fit_length.Goals as goal

pub returns-in-None-clause-count : goal.returns-in-None-clause-count
returns-in-None-clause-count t c = fit_none c.args.at c.args.bytes.now (search (rules, c.in-None.ensures.variant))

pub returns-then-fits-clause-count : goal.returns-then-fits-clause-count
returns-then-fits-clause-count t c =
    fit_more c.args.at c.in-Some.byte.now c.in-Some.rest.now c.args.bytes.now c.fit_length.result (search rules)
    c.if-fits.ensures c.fit_length.ensures.count

pub returns-else-fits-clause-count : goal.returns-else-fits-clause-count
returns-else-fits-clause-count t c =
    fit_stop c.args.at c.in-Some.byte.now c.in-Some.rest.now c.args.bytes.now (search rules) c.if-fits.ensures
