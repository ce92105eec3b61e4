use Rattle.std.proofs.Common.{◌≡◌, Err, arith}
use Rattle.cg_reading.specs.Readers.{whole_at}
use Rattle.cg_strip.specs.Reading.{rules_text_at}
use Rattle.cg_strip.specs.Views.{items_in}
use Rattle.cg_strip.proofs.WholeRules.{read_places, read_book, read_ok, read_err, stuck_left, stuck_place}
use Rattle.cg_strip.proofs.strip.Strip.read.Goals as goal

pub strip_of-requires-clause-places : goal.strip_of-requires-clause-places
strip_of-requires-clause-places c = read_places c.args.rules.now (items_in c.in-Ok.found) c.in-Ok.ensures (omega arith)

pub strip_of-requires-clause-book : goal.strip_of-requires-clause-book
strip_of-requires-clause-book c = read_book c.args.rules.now (items_in c.in-Ok.found) c.in-Ok.ensures

pub returns-in-Ok-clause-read : goal.returns-in-Ok-clause-read
returns-in-Ok-clause-read c = read_ok c.args.rules.now (items_in c.in-Ok.found) c.strip_of.result c.in-Ok.ensures c.strip_of.ensures

pub returns-in-Ok-clause-refused : goal.returns-in-Ok-clause-refused
returns-in-Ok-clause-refused c = read_err c.args.rules.now (items_in c.in-Ok.found) c.strip_of.result c.in-Ok.ensures c.strip_of.ensures

pub overflow_sub-result : goal.overflow_sub-result
overflow_sub-result c =
    let stuck : whole_at rules_text_at c.args.rules.now ≡ Err c.in-Err-Stuck.left = rw c.in-Err-Stuck.field-0-is at c.in-Err-Stuck.ensures in
    omega (arith, stuck_left c.args.rules.now c.in-Err-Stuck.left stuck)

pub returns-in-Err-Stuck-clause-refused : goal.returns-in-Err-Stuck-clause-refused
returns-in-Err-Stuck-clause-refused c =
    let stuck : whole_at rules_text_at c.args.rules.now ≡ Err c.in-Err-Stuck.left = rw c.in-Err-Stuck.field-0-is at c.in-Err-Stuck.ensures in
    stuck_place c.args.rules.now c.in-Err-Stuck.left _ stuck (omega (arith, stuck_left c.args.rules.now c.in-Err-Stuck.left stuck))
