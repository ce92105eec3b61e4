use Rattle.std.proofs.Common.{[], ◌∷◌, ◌++◌, ap, ◌∙◌, arith}
use Rattle.cg_moves.proofs.FoundKeys.{few-more, grids-more, numbers-more}
use Rattle.cg_moves.proofs.found.Found.put.Goals as goal

pub invariant_of-self-in_err-push : goal.invariant_of-self-in_err-push
invariant_of-self-in_err-push c = absurd (omega (arith, c.in_err-push.ensures.full, c.in_ok-reserve.ensures.ok))

pub invariant_of-self-2 : goal.invariant_of-self-2
invariant_of-self-2 c =
    let boards = c.self.inside.boards.items in
    let items = c.in_ok-push.ensures.items ∙ ap (λ z. z ++ (c.args.board ∷ [])) c.in_ok-reserve.ensures.items in
    rw items (
      numbers-more c.self.inside.by_number c.add.new.self boards c.args.board c.args.key_hash c.self.invariant.0
          c.requires.hash c.in_ok-add.ensures.more,
      grids-more boards c.args.board c.self.invariant.1 c.requires.grid,
      few-more boards c.args.board c.in_ok-number.number (omega arith) (omega arith),
    )
