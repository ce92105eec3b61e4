use Rattle.std.proofs.Common.{rules, sym, ◌∙◌}
use Rattle.cg_moves.proofs.FoundKeys.{known-at, not-numbered}
use Rattle.cg_moves.proofs.found.Found.known.Goals as goal

pub returns-in-Some-clause-number : goal.returns-in-Some-clause-number
returns-in-Some-clause-number c =
    let h = c.in-Some.ensures.found in
    known-at c.self.inside.boards.items c.args.self.now c.args.board.now c.key-key.result c.in-Some.number c.self.invariant.1
    c.self.view_is c.key-key.ensures.grid c.key-key.ensures.value c.requires.same_symbols (search rules)

pub returns-in-None-clause-new : goal.returns-in-None-clause-new
returns-in-None-clause-new c =
    let p = c.args.board.now in
    let h = c.in-None.ensures.none in
    rw (← c.self.view_is) (not-numbered c.self.inside.by_number c.self.inside.boards.items p c.self.invariant.0 (λ n low is k.
    let f = h n low (is ∙ sym c.requires.hash) in search rules))
