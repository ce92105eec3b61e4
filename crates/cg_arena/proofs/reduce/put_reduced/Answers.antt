use Rattle.cg_arena.specs.declared.unreduced.Unreduced.{Unreduced}
use Rattle.cg_arena.proofs.Reducing.{OfUndominated, form_equal, of_undominated}
use Rattle.cg_arena.proofs.Results.{if_ok}
use Rattle.cg_arena.proofs.reduce.put_reduced.Goals as goal

abbrev unreduced_of : goal.After-put_bypassed-arg-2-1 → Unreduced
unreduced_of c = record { lefts = c.as_slice.result; rights = c.as_slice-2.result; summary = c.args.summary.now; keys = c.of.result }

best_of : (c : goal.After-put_bypassed-arg-2-1) → OfUndominated c.args.arena.now c.args.lefts.now c.args.rights.now (unreduced_of c)
best_of c =
    of_undominated c.args.arena.now c.args.lefts.now c.args.rights.now c.in_ok-own_lefts.own_lefts.items c.in_ok-own_rights.own_rights.items (unreduced_of c)
    c.as_slice.ensures c.as_slice-2.ensures c.in_ok-own_lefts.ensures.indexes c.in_ok-own_rights.ensures.indexes c.in_ok-own_lefts.ensures.undominated
    c.in_ok-own_rights.ensures.undominated c.requires.no_number c.requires.cuts c.of.ensures

pub put_bypassed-requires-clause-unreduced : goal.put_bypassed-requires-clause-unreduced
put_bypassed-requires-clause-unreduced c = (best_of c).holds

pub put_bypassed-requires-clause-lefts : goal.put_bypassed-requires-clause-lefts
put_bypassed-requires-clause-lefts c = (best_of c).lefts

pub put_bypassed-requires-clause-rights : goal.put_bypassed-requires-clause-rights
put_bypassed-requires-clause-rights c = (best_of c).rights

pub returns-clause-form : goal.returns-clause-form
returns-clause-form c =
    if_ok c.put_bypassed.result _ _ c.put_bypassed.ensures.form
    (λ r h. form_equal _ _ _ (of_undominated c.args.arena.now c.args.lefts.now c.args.rights.now c.in_ok-own_lefts.own_lefts.items
    c.in_ok-own_rights.own_rights.items
    (record { lefts = c.as_slice.result; rights = c.as_slice-2.result; summary = c.args.summary.now; keys = c.of.result })
    c.as_slice.ensures c.as_slice-2.ensures c.in_ok-own_lefts.ensures.indexes c.in_ok-own_rights.ensures.indexes c.in_ok-own_lefts.ensures.undominated
    c.in_ok-own_rights.ensures.undominated c.requires.no_number c.requires.cuts c.of.ensures).same h)
