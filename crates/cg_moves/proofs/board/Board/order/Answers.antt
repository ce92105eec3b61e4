use Rattle.std.proofs.Common.{◌≡◌, ◌*◌, ap, length, sym, ◌∙◌, arith}
use Rattle.cg_moves.specs.Grid.{Grid, IsGrid, IsLike}
use Rattle.cg_moves.proofs.Differing.{first_inside, first_tells, nothing_differs}
use Rattle.cg_moves.proofs.board.Board.order.Goals as goal

-- boards that are like each other have as many cells
as-many : (p q : Grid) → IsGrid p → IsGrid q → IsLike p q → length p.cells ≡ length q.cells
as-many p q g h like = g.size ∙ sym (h.size ∙ ap (λ (r : Grid). r.rows * r.columns) like)

pub returns-then-differing-eq0 : goal.returns-then-differing-eq0
returns-then-differing-eq0 c =
    let d = c.differing-differing.ensures in
    sym (nothing_differs c.args.self.now.cells c.args.other.now.cells c.differing-differing.result d.cells
    (as-many c.args.self.now c.args.other.now d.grid d.other c.requires) c.if-differing-eq0.true)

pub cell-requires : goal.cell-requires
cell-requires c =
    let d = c.differing-differing.ensures in
    first_inside c.args.self.now.cells c.args.other.now.cells c.differing-differing.result d.cells
    (as-many c.args.self.now c.args.other.now d.grid d.other c.requires) (omega (arith, c.if-differing-eq0.false))
    (omega (arith, c.differing-differing.type_inv))

pub cell-requires-2 : goal.cell-requires-2
cell-requires-2 c =
    let d = c.differing-differing.ensures in
    let long = as-many c.args.self.now c.args.other.now d.grid d.other c.requires in
    let inside = first_inside c.args.self.now.cells c.args.other.now.cells c.differing-differing.result d.cells long
    (omega (arith, c.if-differing-eq0.false)) (omega (arith, c.differing-differing.type_inv)) in
    omega (arith, long, inside)

pub returns : goal.returns
returns c =
    let d = c.differing-differing.ensures in
    let tells = first_tells c.args.self.now.cells c.args.other.now.cells c.differing-differing.result d.cells
    (as-many c.args.self.now c.args.other.now d.grid d.other c.requires) (omega (arith, c.if-differing-eq0.false))
    (omega (arith, c.differing-differing.type_inv)) in
    let here = c.cell.ensures in
    let there = c.cell-2.ensures in
    let order = c.cmp.ensures in
    cc
