use Rattle.cg_query.specs.Tree.{asks}
use Rattle.cg_query.specs.declared.format.Format.TheVariants as formats
use Rattle.cg_grammar.proofs.Whole.{one_question, statement_not_blank, statement_not_comment, reads_or_not, one_column}
use Rattle.cg_grammar.proofs.laws.one_query.Goals as goal

pub returns-clause-unique : goal.returns-clause-unique
returns-clause-unique c = one_question

pub returns-clause-not_blank : goal.returns-clause-not_blank
returns-clause-not_blank c line q = statement_not_blank formats.One line (asks q)

pub returns-clause-not_comment : goal.returns-clause-not_comment
returns-clause-not_comment c line q = statement_not_comment formats.One line (asks q)

pub returns-clause-decided : goal.returns-clause-decided
returns-clause-decided c = reads_or_not

pub returns-clause-one_column : goal.returns-clause-one_column
returns-clause-one_column c = one_column formats.One
