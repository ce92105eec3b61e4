use Rattle.cg_grammar.proofs.Whole.{one_statement, statement_not_blank, statement_not_comment, states_or_not, one_column}
use Rattle.cg_grammar.proofs.laws.one_statement.Goals as goal

pub returns-clause-unique : goal.returns-clause-unique
returns-clause-unique c = one_statement

pub returns-clause-not_blank : goal.returns-clause-not_blank
returns-clause-not_blank c = statement_not_blank

pub returns-clause-not_comment : goal.returns-clause-not_comment
returns-clause-not_comment c = statement_not_comment

pub returns-clause-decided : goal.returns-clause-decided
returns-clause-decided c = states_or_not

pub returns-clause-one_column : goal.returns-clause-one_column
returns-clause-one_column c = one_column
