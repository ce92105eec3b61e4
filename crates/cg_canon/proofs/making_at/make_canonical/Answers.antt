use Rattle.std.proofs.Common.{ap, refl, sym, ◌∙◌}
use Rattle.cg_nodes.specs.Can.{can}
use Rattle.cg_nodes.specs.CanLaw.{can-fixed}
use Rattle.cg_arena.specs.Arena.{games_of}
use Rattle.cg_canon.proofs.Charging.{canonical_node, same_node}
use Rattle.cg_canon.proofs.Paying.{paid_later}
use Rattle.cg_canon.proofs.making_at.make_canonical.Goals as goal

pub returns-in-Search-clause-paid : goal.returns-in-Search-clause-paid
returns-in-Search-clause-paid g c =
    let W = g.S.CellStore.state in
    let gs = c.put_both.new.interner.arena in
    let same = same_node _ _ _ _ (ap (games_of gs) c.as_slice-low.ensures ∙ c.in_ok-put_both.ensures.lefts.1)
    (ap (games_of gs) c.as_slice-high.ensures ∙ c.in_ok-put_both.ensures.rights.1) in
    rw c.made_handle.ensures (paid_later (W c.args.store.now) (W c.put_both.new.store) c.args.meter.now c.put_both.ensures.spends
    (W c.canonical_at.new.store) c.canonical_at.new.meter _ _ c.args.extra _ (ap can (sym same)) c.canonical_at.ensures.entered.paid)

pub summary_of_lists-summary-requires-clause-no_number : goal.summary_of_lists-summary-requires-clause-no_number
summary_of_lists-summary-requires-clause-no_number g c =
    let gs = c.put_both.new.interner.arena in
    rw (same_node _ _ _ _ (ap (games_of gs) c.as_slice-low.ensures ∙ c.in_ok-put_both.ensures.lefts.1)
    (ap (games_of gs) c.as_slice-high.ensures ∙ c.in_ok-put_both.ensures.rights.1)) (rw c.in-AsGiven.is at c.requires.way).0.no_number

pub make_form-requires-clause-form : goal.make_form-requires-clause-form
make_form-requires-clause-form g c = record {
  lefts = c.in_ok-put_both.ensures.lefts.0;
  rights = c.in_ok-put_both.ensures.rights.0;
  is = refl;
  summary = rw (← c.as_slice-high.ensures) (rw (← c.as_slice-low.ensures) c.summary_of_lists-summary.ensures);
}

pub make_form-requires-clause-canonical : goal.make_form-requires-clause-canonical
make_form-requires-clause-canonical g c =
    canonical_node _ _ _ _ c.in_ok-put_both.ensures.lefts.1 c.in_ok-put_both.ensures.rights.1 (rw c.in-AsGiven.is at c.requires.way)

pub returns-in-AsGiven-clause-paid : goal.returns-in-AsGiven-clause-paid
returns-in-AsGiven-clause-paid g c =
    let W = g.S.CellStore.state in
    let same = same_node _ _ _ _ c.in_ok-put_both.ensures.lefts.1 c.in_ok-put_both.ensures.rights.1 in
    rw c.made_handle-in-AsGiven.ensures (paid_later (W c.args.store.now) (W c.put_both.new.store) c.args.meter.now c.put_both.ensures.spends
    (W c.make_form.new.store) c.make_form.new.meter _ _ c.args.extra _ (can-fixed _ (rw c.in-AsGiven.is at c.requires.way) ∙ sym same)
    c.make_form.ensures.entered.paid)
