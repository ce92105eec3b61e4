use Rattle.cg_amazons.proofs.Taken.{takes_permuted}
use Rattle.cg_amazons.proofs.amazons.sorted_boards_of.Goals as goal

pub returns : goal.returns
returns c =
    takes_permuted c.args.board.now c.in_ok-boards.boards.items c.sort_by_cached_key.new.self.items _
    c.in_ok-sort_by_cached_key.ensures.permutation c.in_ok-boards.ensures
