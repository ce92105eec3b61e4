use Rattle.std.proofs.Common.{◌+◌, ◌∙◌, ap}
use Rattle.std.specs.Int.{bit_at}
use Rattle.cg_clobber.proofs.Placing.{symbols-are}
use Rattle.cg_clobber.proofs.capturing.captures_of.Goals as goal

pub returns : goal.returns
returns c =
    let wide = c.stones_of-stones.ensures.columns in
    let p = c.args.board.now in record {
      down = c.captures_down.ensures;
      forth = c.captures_forth.ensures;
      from_below = λ i. c.moved_back.ensures i ∙ ap (λ n. bit_at c.captures_up-up.result (i + n)) wide
          ∙ c.captures_up-up.ensures (i + p.columns);
      from_next = λ i. c.moved_back-2.ensures i ∙ c.captures_back-back.ensures (i + 1);
      few = c.first_column.ensures.grid.few;
    }

pub stones_of-stones-requires-clause-symbols : goal.stones_of-stones-requires-clause-symbols
stones_of-stones-requires-clause-symbols c = symbols-are c.args.board.now c.requires
