use Rattle.std.proofs.Common.{◌∙◌, sym, arith}
use Rattle.cg_moves.proofs.KeyLemmas.{key_eq-back, key_eq-same}
use Rattle.cg_moves.proofs.PlaceLemmas.{board-read}
use Rattle.cg_moves.proofs.FoundKeys.{key_at-inside, key_at-only, key_at-read}
use Rattle.cg_moves.proofs.found.has_key.Goals as goal

pub returns-in-Some : goal.returns-in-Some
returns-in-Some c =
    let l = c.in-Some.ensures.lookup in
    let at = board-read c.args.boards.now c.args.number c.in-Some.board.now (omega arith) l.1 in (
      λ t. key_at-read c.args.boards.now c.args.number c.in-Some.board.now c.args.key.now at
          (sym c.key.ensures.value ∙ key_eq-back c.key.result c.args.key.now (sym c.eq.ensures ∙ t)),
      λ k. c.eq.ensures ∙ key_eq-same c.key.result c.args.key.now
          (c.key.ensures.value ∙ key_at-only c.args.boards.now c.args.number c.in-Some.board.now c.args.key.now at k),
    )

pub returns-in-None : goal.returns-in-None
returns-in-None c =
    let l = c.in-None.ensures.lookup in
    (λ t. absurd (cc), λ k. let low = key_at-inside c.args.boards.now c.args.number c.args.key.now k in absurd (omega arith))
