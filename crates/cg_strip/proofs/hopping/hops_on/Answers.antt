use Rattle.std.proofs.Common.{arith}
use Rattle.cg_moves.specs.Grid.{with_cells}
use Rattle.cg_strip.proofs.HopLemmas.{hops_end, hops_up_to, next_within}
use Rattle.cg_strip.proofs.hopping.hops_on.Goals as goal

pub put_hops_at-requires-clause-cell : goal.put_hops_at-requires-clause-cell
put_hops_at-requires-clause-cell c =
    let p = c.args.board.now in
    let i = c.loop-left.invariant in
    next_within c.args.player p.cells c.hop_words-words.result c.hop_words-words.ensures (with_cells p) c.loop-left.next
    c.loop-left.left i.0 i.2 (omega (arith, c.loop-left-test.true)) i.1

pub loop-left-smaller : goal.loop-left-smaller
loop-left-smaller c =
    let p = c.args.board.now in
    let i = c.loop-left.invariant in
    let l = next_within c.args.player p.cells c.hop_words-words.result c.hop_words-words.ensures (with_cells p)
    c.loop-left.next c.loop-left.left i.0 i.2 (omega (arith, c.loop-left-test.true)) i.1 in
    omega (arith, l)

pub loop-left-preserved : goal.loop-left-preserved
loop-left-preserved c =
    let p = c.args.board.now in
    let i = c.loop-left.invariant in
    let l = next_within c.args.player p.cells c.hop_words-words.result c.hop_words-words.ensures (with_cells p)
    c.loop-left.next c.loop-left.left i.0 i.2 (omega (arith, c.loop-left-test.true)) i.1 in (
      omega (arith, l),
      omega (arith, c.moved_back-left-in-loop-left.type_inv),
      c.moved_back-left-in-loop-left.ensures,
      hops_up_to c.args.player p.cells c.hop_words-words.result c.hop_words-words.ensures (with_cells p) c.loop-left.next
          c.loop-left.left i.0 i.2 c.loop-left.boards.items c.put_hops_at.new.boards.items
          (omega (arith, c.loop-left-test.true)) i.1 i.3 c.in_ok-put_hops_at.ensures,
    )

pub returns : goal.returns
returns c =
    let p = c.args.board.now in
    let i = c.loop-left.invariant in
    hops_end c.args.player p.cells c.hop_words-words.result c.hop_words-words.ensures (with_cells p) c.loop-left.next
    c.loop-left.left i.0 i.2 c.loop-left.boards.items (omega (arith, c.loop-left-test.false)) i.3
