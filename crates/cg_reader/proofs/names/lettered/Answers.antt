use Rattle.std.proofs.Common.{sym, ◌∙◌}
use Rattle.cg_reader.proofs.Lettered.{lettered_is}
use Rattle.cg_reader.proofs.names.lettered.Goals as goal

pub returns-clause-read : goal.returns-clause-read
returns-clause-read c end = lettered_is end c.in-Some.first.now c.args.bytes.now c.in-Some.behind.now c.after_letters-rest.result.now c.in-Some.ensures.cases.0
    (sym c.is_letter.ensures ∙ c.if-not-is_letter.false) c.after_letters-rest.ensures.rest
