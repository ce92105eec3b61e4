use Rattle.std.proofs.Common.{◌≡◌, ◌*◌, ap, length, sym, ◌∙◌}
use Rattle.cg_amazons.proofs.Taken.{has-queen, queen-other}
use Rattle.cg_amazons.proofs.amazons.words_of.Goals as goal

pub places-queens-requires : goal.places-queens-requires
places-queens-requires c = has-queen c.args.player c.args.board.now c.queen-queen.result c.requires c.queen-queen.ensures

pub returns-clause-words : goal.returns-clause-words
returns-clause-words c =
    let p = c.args.board.now in
    let s = c.of-shape.result in
    let rows : s.rows ≡ p.rows = c.of-shape.ensures.rows ∙ c.rows-rows.ensures.value in
    let columns : s.columns ≡ p.columns = c.of-shape.ensures.columns ∙ c.columns-columns.ensures.value in
    let size : length p.cells ≡ s.rows * s.columns = c.rows-rows.ensures.grid.size
    ∙ ap (λ k. k * p.columns) (sym rows) ∙ ap (λ k. s.rows * k) (sym columns) in
    record {
      has = c.requires;
      queen = has-queen c.args.player p c.queen-queen.result c.requires c.queen-queen.ensures;
      words = record {
        shape = c.of-shape.ensures.shape;
        size = size;
        free = c.places-free.ensures.places;
        queens = c.places-queens.ensures.places;
        other = queen-other c.args.player c.queen-queen.result c.queen-queen.ensures;
      };
    }
