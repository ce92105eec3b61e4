use Rattle.cg_form.specs.Game.{node}
use Rattle.cg_arena.specs.Arena.{games_of}
use Rattle.cg_arena.proofs.LeaderSteps.{cuts_at, new_form}
use Rattle.cg_arena.proofs.canonicalizing.form_of.Goals as goal

pub summary_with-new-requires-clause-low : goal.summary_with-new-requires-clause-low
summary_with-new-requires-clause-low c =
    let gs = c.args.arena.now in
    (cuts_at gs (node (games_of gs c.args.lefts.now) (games_of gs c.args.rights.now)) c.args.summary.now _ _ _ _ c.in_ok-put_reduced.ensures.form.equal
    c.as_slice.ensures c.as_slice-2.ensures c.requires.cuts).low

pub summary_with-new-requires-clause-high : goal.summary_with-new-requires-clause-high
summary_with-new-requires-clause-high c =
    let gs = c.args.arena.now in
    (cuts_at gs (node (games_of gs c.args.lefts.now) (games_of gs c.args.rights.now)) c.args.summary.now _ _ _ _ c.in_ok-put_reduced.ensures.form.equal
    c.as_slice.ensures c.as_slice-2.ensures c.requires.cuts).high

pub returns-clause-form : goal.returns-clause-form
returns-clause-form c =
    let gs = c.args.arena.now in
    new_form gs (node (games_of gs c.args.lefts.now) (games_of gs c.args.rights.now))
    (record { form = c.put_reduced.new.form; summary = c.summary_with-new.result }) _ _ c.in_ok-put_reduced.ensures.lefts c.in_ok-put_reduced.ensures.rights
    c.in_ok-put_reduced.ensures.form c.as_slice.ensures c.as_slice-2.ensures c.summary_with-new.ensures
