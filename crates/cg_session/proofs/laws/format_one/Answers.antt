use Rattle.cg_session.proofs.FormatOne.{to_line}
use Rattle.cg_session.proofs.laws.format_one.Goals as goal

pub returns : goal.returns
returns c = λ share positions before behind line made reply blank comment is.
    to_line share positions line reply before behind made blank comment (c.one_query.ensures.unique line)
    (c.one_query.ensures.one_column line) (c.no_names.ensures line) is
