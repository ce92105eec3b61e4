use Rattle.std.proofs.Common.{◌<◌, refl, subst}
use Rattle.std.specs.Prelude.{slice_index}
use Rattle.cg_cells.specs.Index.{IsEnd}
use Rattle.cg_cells.proofs.Indexes.{has_room, index_put}
use Rattle.cg_cells.proofs.index.put.Goals as goal

pub probe-requires-clause-room : goal.probe-requires-clause-room
probe-requires-clause-room g c = rw c.requires.size.0 (has_room g.F.Facts.meaning _ c.args.cell (slice_index c.args.keys.now) _ c.requires.cell c.requires.before)

pub returns : goal.returns
returns g c =
    let size = c.requires.size.0 in
    let end = subst (λ n. IsEnd n (slice_index c.args.keys.now) (slice_index c.args.index.now) (g.F.Facts.meaning.home (slice_index c.args.keys.now c.args.cell) n) (slice_index c.args.keys.now c.args.cell) c.in-Slot.slot) size c.in-Slot.ensures.0 in
    index_put g.F.Facts.meaning _ c.args.cell _ c.in-Slot.slot (slice_index c.args.keys.now) c.args.index.now c.requires.before end c.if-key-eq0.false refl
    (subst (λ n. c.in-Slot.slot < n) size c.in-Slot.ensures.1) size
