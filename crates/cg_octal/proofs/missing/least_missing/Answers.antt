use Rattle.std.proofs.Common.{◌∙◌, ◌≤◌, arith, length}
use Rattle.cg_octal.proofs.Marks.{mark-listed}
use Rattle.cg_octal.proofs.Searching.{is_listed-false, is_listed-true, searched_all, searched_more, searched_none, searched_room}
use Rattle.cg_octal.proofs.missing.least_missing.Goals as goal

pub loop-least-init : goal.loop-least-init
loop-least-init c = searched_none c.args.list.now

pub loop-least-smaller : goal.loop-least-smaller
loop-least-smaller c =
    let r = c.loop-least.invariant.room in
    let l : c.loop-least.least ≤ length c.args.list.now = omega arith in
    let here = is_listed-true c.args.list.now c.loop-least.least
    (mark-listed c.args.list.now c.in_ok-marks.marks.items c.loop-least.least c.index.result.now c.in_ok-marks.ensures l
    c.index.ensures ∙ c.loop-least-test.true) in
    let room = searched_room c.args.list.now c.loop-least.least c.loop-least.invariant here in
    omega (arith, room)

pub loop-least-preserved : goal.loop-least-preserved
loop-least-preserved c =
    let r = c.loop-least.invariant.room in
    let l : c.loop-least.least ≤ length c.args.list.now = omega arith in
    searched_more c.args.list.now c.loop-least.least c.loop-least.invariant
    (is_listed-true c.args.list.now c.loop-least.least
    (mark-listed c.args.list.now c.in_ok-marks.marks.items c.loop-least.least c.index.result.now c.in_ok-marks.ensures l
    c.index.ensures ∙ c.loop-least-test.true))

pub returns : goal.returns
returns c =
    let r = c.loop-least.invariant.room in
    let l : c.loop-least.least ≤ length c.args.list.now = omega arith in
    searched_all c.args.list.now c.loop-least.least c.loop-least.invariant
    (is_listed-false c.args.list.now c.loop-least.least
    (mark-listed c.args.list.now c.in_ok-marks.marks.items c.loop-least.least c.index.result.now c.in_ok-marks.ensures l
    c.index.ensures ∙ c.loop-least-test.false))
