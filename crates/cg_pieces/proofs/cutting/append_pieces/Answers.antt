use Rattle.std.proofs.Common.{◌∙◌, ◌++◌, [], ap, append_assoc, arith, refl, sym}
use Rattle.std.specs.Int.Count.{count_trailing_zeros}
use Rattle.std.proofs.lemmas.List.{append-nil}
use Rattle.cg_pieces.specs.Moving.{piece_at}
use Rattle.cg_pieces.proofs.Taking.{cell-open, left-less, set-taken, taken-all, taken-more, taken-none}
use Rattle.cg_pieces.proofs.cutting.append_pieces.Goals as goal

pub loop-left-init : goal.loop-left-init
loop-left-init g c = (
  [],
  sym (append-nil c.args.room.now.items),
  taken-none (g.N.NeighbourRules.neighbours c.args.rules.now) (g.met.N.NeighbourRules.lawful c.args.rules.now)
      c.args.board.now c.piece_cells-cells.result c.piece_cells-cells.ensures,
)

pub joined-set-requires-clause-inside : goal.joined-set-requires-clause-inside
joined-set-requires-clause-inside g c =
    let (taken, is, are) = c.loop-left.invariant in
    cell-open (g.N.NeighbourRules.neighbours c.args.rules.now) (g.met.N.NeighbourRules.lawful c.args.rules.now)
    c.args.board.now taken c.loop-left.left c.moving_cells-moving.result c.loop-left-test.true
    (omega (arith, c.loop-left.auto.left-fits)) are c.field_of-field.result c.field_of-field.ensures

pub put_piece-requires-clause-set : goal.put_piece-requires-clause-set
put_piece-requires-clause-set g c =
    let (taken, is, are) = c.loop-left.invariant in
    set-taken (g.N.NeighbourRules.neighbours c.args.rules.now) (g.met.N.NeighbourRules.lawful c.args.rules.now)
    c.args.board.now taken c.loop-left.left c.moving_cells-moving.result c.loop-left-test.true
    (omega (arith, c.loop-left.auto.left-fits)) are c.field_of-field.result c.field_of-field.ensures
    c.joined-set.result (omega (arith, c.joined-set.type_inv)) c.joined-set.ensures

pub loop-left-smaller : goal.loop-left-smaller
loop-left-smaller g c =
    let (taken, is, are) = c.loop-left.invariant in
    left-less (g.N.NeighbourRules.neighbours c.args.rules.now) (g.met.N.NeighbourRules.lawful c.args.rules.now)
    c.args.board.now taken c.loop-left.left c.moving_cells-moving.result c.loop-left-test.true
    (omega (arith, c.loop-left.auto.left-fits)) are c.field_of-field.result c.field_of-field.ensures
    c.joined-set.result (omega (arith, c.joined-set.type_inv)) c.joined-set.ensures

pub loop-left-preserved : goal.loop-left-preserved
loop-left-preserved g c =
    let n = g.N.NeighbourRules.neighbours c.args.rules.now in
    let (taken, is, are) = c.loop-left.invariant in
    let one = piece_at n c.args.board.now (count_trailing_zeros 64 c.loop-left.left) in (
      taken ++ one,
      c.in_ok-put_piece.ensures ∙ ap (λ z. z ++ one) is ∙ append_assoc c.args.room.now.items taken one,
      taken-more n (g.met.N.NeighbourRules.lawful c.args.rules.now) c.args.board.now taken c.loop-left.left
          c.moving_cells-moving.result c.loop-left-test.true (omega (arith, c.loop-left.auto.left-fits)) are
          c.field_of-field.result c.field_of-field.ensures c.joined-set.result (omega (arith, c.joined-set.type_inv))
          c.joined-set.ensures (taken ++ one) refl,
    )

pub returns : goal.returns
returns g c =
    let (taken, is, are) = c.loop-left.invariant in
    is ∙ ap (λ z. c.args.room.now.items ++ z) (taken-all (g.N.NeighbourRules.neighbours c.args.rules.now)
    (g.met.N.NeighbourRules.lawful c.args.rules.now) c.args.board.now taken c.loop-left.left c.moving_cells-moving.result
    c.loop-left-test.false c.moving_cells-moving.ensures are)
