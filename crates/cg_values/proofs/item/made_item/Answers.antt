use Rattle.std.proofs.Common.{subst}
use Rattle.cg_canon.specs.Made.{FormGiven}
use Rattle.cg_canon.specs.Works.{work_state}
use Rattle.cg_form.specs.Game.{Game}
use Rattle.cg_values.proofs.ItemSteps.{options-split, value-options}
use Rattle.cg_values.proofs.item.made_item.Goals as goal

pub canonical-requires-clause-lefts : goal.canonical-requires-clause-lefts
canonical-requires-clause-lefts g c =
    let both = options-split (work_state g.S.CellStore.state c.args.work.now) (g.R.Rules.game c.args.rules.now) c.args.board.now
    c.args.options.now c.requires.options c.as_slice.result.now c.split_at.result.0.now c.split_at.result.1.now c.as_slice.ensures
    c.split_at.ensures.front c.split_at.ensures.back in
    both.0.0

pub canonical-requires-clause-rights : goal.canonical-requires-clause-rights
canonical-requires-clause-rights g c =
    let both = options-split (work_state g.S.CellStore.state c.args.work.now) (g.R.Rules.game c.args.rules.now) c.args.board.now
    c.args.options.now c.requires.options c.as_slice.result.now c.split_at.result.0.now c.split_at.result.1.now c.as_slice.ensures
    c.split_at.ensures.front c.split_at.ensures.back in
    both.1.0

pub returns : goal.returns
returns g c =
    let r = g.R.Rules.game c.args.rules.now in
    let W = work_state g.S.CellStore.state in
    let s = W c.args.work.now in
    let p = c.args.board.now in
    let ls = c.split_at.result.0.now in
    let rs = c.split_at.result.1.now in
    let both = options-split s r p c.args.options.now c.requires.options c.as_slice.result.now ls rs c.as_slice.ensures
    c.split_at.ensures.front c.split_at.ensures.back in
    let same = value-options s r c.requires.lawful p ls rs c.requires.has both.0 both.1 in
    let P : Game → Type 0 = λ z. FormGiven s (W c.canonical.new.work) z 8 c.canonical.result in
    subst P same c.canonical.ensures
