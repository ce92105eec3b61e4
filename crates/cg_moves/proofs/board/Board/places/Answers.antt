use Rattle.std.proofs.Common.{◌∙◌, ap, arith, length}
use Rattle.cg_moves.specs.PlaneBits.{index_of}
use Rattle.cg_moves.proofs.GridFacts.{few-symbols}
use Rattle.cg_moves.proofs.PlaneLemmas.{places_of}
use Rattle.cg_moves.proofs.board.Board.places.Goals as goal

pub index_in-index-requires-clause-few : goal.index_in-index-requires-clause-few
index_in-index-requires-clause-few c =
    let h = few-symbols c.args.self.now.symbols c.symbols-symbols.ensures.grid.symbols in
    let e = ap length c.symbols-symbols.ensures.value in
    omega arith

pub index_in-index-requires-clause-symbol : goal.index_in-index-requires-clause-symbol
index_in-index-requires-clause-symbol c =
    rw c.symbols-symbols.ensures.value c.requires

pub places-places-requires : goal.places-places-requires
places-places-requires c =
    let h = few-symbols c.args.self.now.symbols c.symbols-symbols.ensures.grid.symbols in
    let e = ap length c.symbols-symbols.ensures.value in
    let b = c.index_in-index.ensures.below in
    omega arith

pub returns-clause-places : goal.returns-clause-places
returns-clause-places c =
    places_of c.args.self.now c.self.inside.planes c.args.symbol c.index_in-index.result c.places-places.result
    c.all_cells-all.result c.symbols-symbols.ensures.grid (rw (← c.self.view_is) c.self.invariant.1.planes) c.requires
    (c.index_in-index.ensures.value ∙ ap (λ z. index_of z c.args.symbol) c.symbols-symbols.ensures.value)
    c.places-places.ensures (rw (← c.size-size.ensures.value) c.all_cells-all.ensures)
