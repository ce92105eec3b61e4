use Rattle.std.proofs.Common.{◌∙◌, ◌++◌, ◌∷◌, [], ap, length, sym}
use Rattle.cg_moves.specs.Rules.{pieces}
use Rattle.cg_moves.proofs.Broad.{same_symbols-last}
use Rattle.cg_moves.proofs.Carried.{if_ok, ok_any}
use Rattle.cg_moves.proofs.Numberings.{known-found, known-numbered}
use Rattle.cg_moves.proofs.Members.{carry}
use Rattle.cg_moves.proofs.PlaceLemmas.{at-in}
use Rattle.cg_moves.proofs.numbering.number_cut.Goals as goal

pub returns-in-Some-clause-found : goal.returns-in-Some-clause-found
returns-in-Some-clause-found g c =
    let p = c.args.board.now in
    let s = c.args.linked.now in
    ok_any _ c.push-in-Some.result (known-found (pieces (g.R.Rules.game c.args.rules.now)) s.found p c.in-Some.number
    c.in-Some.ensures (c.requires.uncut p (at-in s.found c.in-Some.number p c.in-Some.ensures)))

pub returns-in-Some-clause-numbers : goal.returns-in-Some-clause-numbers
returns-in-Some-clause-numbers g c =
    let p = c.args.board.now in
    let s = c.args.linked.now in
    if_ok _ _ c.push-in-Some.result (λ _. known-numbered (pieces (g.R.Rules.game c.args.rules.now)) s.found p c.in-Some.number
    c.in-Some.ensures (c.requires.uncut p (at-in s.found c.in-Some.number p c.in-Some.ensures)) s.numbers.items
    c.push-in-Some.new.items.items) c.push-in-Some.ensures

pub returns-in-Some-clause-counts : goal.returns-in-Some-clause-counts
returns-in-Some-clause-counts g c =
    let p = c.args.board.now in
    let s = c.args.linked.now in
    let alone = c.requires.uncut p (at-in s.found c.in-Some.number p c.in-Some.ensures) in
    ok_any _ c.push-in-Some.result (c.in_ok-push.ensures ∙ ap (λ z. s.counts.items ++ (length z ∷ [])) (sym alone))

pub number_all-requires : goal.number_all-requires
number_all-requires g c =
    let p = c.args.board.now in
    let own = c.deref.ensures.value ∙ c.in_ok-pieces_into.ensures c.requires.cuts in
    same_symbols-last c.args.linked.now.found p c.deref.result.now c.requires.same_symbols (λ q m.
    c.requires.each.symbols p q c.requires.has (carry q c.deref.result.now (pieces (g.R.Rules.game c.args.rules.now) p) own m))
