use Rattle.std.proofs.Common.{◌≡◌, Err, arith}
use Rattle.cg_grammar.specs.Reading.{read_at}
use Rattle.cg_query.specs.Trees.{statement_of}
use Rattle.cg_grammar.proofs.Whole.{read_left, stops_of}
use Rattle.cg_reader.proofs.StatementAnswers.{stated_read, stated_refused}
use Rattle.cg_reader.proofs.line.stated.Goals as goal

pub returns-in-Ok-clause-read : goal.returns-in-Ok-clause-read
returns-in-Ok-clause-read c = stated_read c.args.format c.args.line.now (statement_of c.in-Ok.stated.statement) c.in-Ok.stated.fault c.faultless.result
    c.in-Ok.ensures c.faultless.ensures

pub returns-in-Ok-clause-refused : goal.returns-in-Ok-clause-refused
returns-in-Ok-clause-refused c = stated_refused c.args.format c.args.line.now (statement_of c.in-Ok.stated.statement) c.in-Ok.stated.fault c.faultless.result
    c.in-Ok.ensures c.faultless.ensures

pub overflow_sub-result : goal.overflow_sub-result
overflow_sub-result c =
    let stuck : read_at c.args.format c.args.line.now ≡ Err c.in-Err-Stuck.left = rw c.in-Err-Stuck.field-0-is at c.in-Err-Stuck.ensures in
    omega (arith, read_left c.args.format c.args.line.now c.in-Err-Stuck.left stuck)

pub returns-in-Err-Stuck-clause-refused : goal.returns-in-Err-Stuck-clause-refused
returns-in-Err-Stuck-clause-refused c =
    let stuck : read_at c.args.format c.args.line.now ≡ Err c.in-Err-Stuck.left = rw c.in-Err-Stuck.field-0-is at c.in-Err-Stuck.ensures in
    stops_of c.args.format c.args.line.now c.in-Err-Stuck.left _ stuck (omega (arith, read_left c.args.format c.args.line.now c.in-Err-Stuck.left stuck))
