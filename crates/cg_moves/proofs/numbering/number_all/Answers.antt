use Rattle.std.proofs.Common.{◌∙◌, ap, take}
use Rattle.std.proofs.lemmas.List.{take_all}
use Rattle.cg_moves.specs.Kept.{kept}
use Rattle.cg_moves.proofs.Broad.{same_symbols-kept}
use Rattle.cg_moves.proofs.Numberings.{found-next, numbered-next, taken-in}
use Rattle.cg_moves.proofs.Places.{in_read}
use Rattle.cg_moves.proofs.numbering.number_all.Goals as goal

pub number_of-requires : goal.number_of-requires
number_of-requires c =
    let i = c.loop-board.board-index in
    let all = c.args.boards.now in
    let p = c.board-item.result in
    rw c.loop-board.invariant.found (same_symbols-kept c.args.found.now (take i all) all p c.requires (taken-in all i)
    (in_read all i p c.loop-board-test.true c.board-item.is))

pub loop-board-preserved : goal.loop-board-preserved
loop-board-preserved c =
    let i = c.loop-board.board-index in
    let all = c.args.boards.now in
    let p = c.board-item.result in record {
      found = found-next c.args.found.now c.loop-board.found c.number_of.new.self c.args.numbers.now.items
          c.loop-board.numbers.items c.push.new.items.items all i p c.in_ok-number.number c.loop-board-test.true c.board-item.is
          c.loop-board.invariant.found c.loop-board.invariant.numbers c.in_ok-number.ensures.boards c.in_ok-number.ensures.number
          c.in_ok-push.ensures;
      numbers = numbered-next c.args.found.now c.loop-board.found c.number_of.new.self c.args.numbers.now.items
          c.loop-board.numbers.items c.push.new.items.items all i p c.in_ok-number.number c.loop-board-test.true c.board-item.is
          c.loop-board.invariant.found c.loop-board.invariant.numbers c.in_ok-number.ensures.boards c.in_ok-number.ensures.number
          c.in_ok-push.ensures;
    }

pub returns : goal.returns
returns c =
    let i = c.loop-board.board-index in
    let all = c.args.boards.now in
    let end = take_all i all (c.loop-board-test.false) in record {
      found = c.loop-board.invariant.found ∙ ap (kept c.args.found.now) end;
      numbers = rw (← end) c.loop-board.invariant.numbers;
    }
