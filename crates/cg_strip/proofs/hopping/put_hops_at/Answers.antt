use Rattle.std.proofs.Common.{◌≡◌, ◌++◌, map}
use Rattle.cg_moves.specs.Grid.{with_cells}
use Rattle.cg_moves.specs.declared.player.Player.{Player}
use Rattle.cg_moves.specs.declared.player.Player.TheVariants.{Left, Right}
use Rattle.cg_strip.specs.Hops.{AreHopWords, hops_at}
use Rattle.cg_strip.proofs.Changes.{frog_jumps, frog_steps, toad_jumps, toad_steps}
use Rattle.cg_strip.proofs.HopLemmas.{hops_put, ok_then}
use Rattle.cg_strip.proofs.hopping.put_hops_at.Goals as goal

pub put_hop-requires-clause-symbols : goal.put_hop-requires-clause-symbols
put_hop-requires-clause-symbols c = (toad_steps c.args.board.now c.requires.has).new

pub put_hop-requires-in-Left-clause-symbols : goal.put_hop-requires-in-Left-clause-symbols
put_hop-requires-in-Left-clause-symbols c = (toad_jumps c.args.board.now c.requires.has).new

pub put_hop-requires-in-Right-clause-symbols : goal.put_hop-requires-in-Right-clause-symbols
put_hop-requires-in-Right-clause-symbols c = (frog_steps c.args.board.now c.requires.has).new

pub put_hop-requires-in-Right-2-clause-symbols : goal.put_hop-requires-in-Right-2-clause-symbols
put_hop-requires-in-Right-2-clause-symbols c = (frog_jumps c.args.board.now c.requires.has).new

pub returns-in_ok-put_hop-in-Left : goal.returns-in_ok-put_hop-in-Left
returns-in_ok-put_hop-in-Left c =
    let p = c.args.board.now in
    ok_then c.put_hop-in-Left.result _ _ (λ put. rw c.in-Left.is (hops_put (with_cells p) Left p.cells c.args.words
    c.args.cell c.args.boards.now.items c.put_hop.new.boards.items c.put_hop-in-Left.new.boards.items c.requires.cell
    (rw (← c.in-Left.is) c.requires.words) c.in_ok-put_hop-in-Left.ensures put)) c.put_hop-in-Left.ensures

pub returns-in_ok-put_hop-in-Right : goal.returns-in_ok-put_hop-in-Right
returns-in_ok-put_hop-in-Right c =
    let p = c.args.board.now in
    ok_then c.put_hop-in-Right-2.result _ _ (λ put. rw c.in-Right.is (hops_put (with_cells p) Right p.cells
    c.args.words c.args.cell c.args.boards.now.items c.put_hop-in-Right.new.boards.items c.put_hop-in-Right-2.new.boards.items
    c.requires.cell (rw (← c.in-Right.is) c.requires.words) c.in_ok-put_hop-in-Right.ensures put)) c.put_hop-in-Right-2.ensures
