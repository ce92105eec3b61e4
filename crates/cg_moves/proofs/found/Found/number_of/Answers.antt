use Rattle.std.proofs.Common.{◌≡◌, ◌∷◌, ◌++◌, [], ap, sym, ◌∙◌}
use Rattle.cg_form.proofs.Firsts.{one_more-new, one_more-there}
use Rattle.cg_moves.specs.Kept.{one_more}
use Rattle.cg_moves.proofs.Carried.{if_ok, ok_is}
use Rattle.cg_moves.proofs.FoundKeys.{put-number}
use Rattle.cg_moves.proofs.Same.{boards}
use Rattle.cg_moves.proofs.PlaceLemmas.{at-in}
use Rattle.cg_moves.proofs.found.Found.number_of.Goals as goal

pub returns-in-Some-clause-boards : goal.returns-in-Some-clause-boards
returns-in-Some-clause-boards c =
    sym (one_more-there boards c.args.self.now c.args.board.now (at-in c.args.self.now c.in-Some.number c.args.board.now c.in-Some.ensures.number))

pub put-requires-clause-same_symbols : goal.put-requires-clause-same_symbols
put-requires-clause-same_symbols c =
    rw (ok_is c.in_ok-copy-in-None.field-0 c.args.board.now c.in_ok-copy-in-None.ensures) c.requires

pub returns-in_ok-copy-in-None-clause-boards : goal.returns-in_ok-copy-in-None-clause-boards
returns-in_ok-copy-in-None-clause-boards c =
    let old = c.args.self.now in
    let new = c.put.new.self in
    let p = c.args.board.now in
    let q = c.in_ok-copy-in-None.field-0 in
    let same = ok_is q p c.in_ok-copy-in-None.ensures in
    if_ok (λ _. new ≡ old ++ (q ∷ [])) (λ _. new ≡ one_more old p) c.put.result
    (λ _ e. e ∙ ap (λ z. old ++ (z ∷ [])) same ∙ sym (one_more-new boards old p c.in-None.ensures.new)) c.put.ensures.boards

pub returns-in_ok-copy-in-None-clause-number : goal.returns-in_ok-copy-in-None-clause-number
returns-in_ok-copy-in-None-clause-number c =
    put-number c.args.self.now c.put.new.self c.in_ok-copy-in-None.field-0 c.args.board.now
    (ok_is c.in_ok-copy-in-None.field-0 c.args.board.now c.in_ok-copy-in-None.ensures) c.put.result c.put.ensures.boards
    c.put.ensures.number
