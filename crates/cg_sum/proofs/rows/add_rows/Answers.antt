-- Row after row.
use Rattle.std.proofs.Common.{arith, ap, refl, sym, ◌∙◌, ◌*◌, ◌≡◌, length}
use Rattle.std.proofs.lemmas.List.{take_all}
use Rattle.cg_canon.specs.SumItems.{pair_items, row_items}
use Rattle.cg_sum.specs.Progress.{sum_at_place}
use Rattle.cg_sum.proofs.Loops.{flat_next, flat_split, forms_all, forms_handed, forms_next, forms_none, next_row}
use Rattle.cg_sum.proofs.Tables.{holds_none}
use Rattle.cg_canon.proofs.WalkPositions.{count, inside_walk, walk_later}
use Rattle.cg_sum.proofs.rows.add_rows.Goals as goal

pub loop-row-init : goal.loop-row-init
loop-row-init g c =
    forms_all (forms_none (holds_none (sum_at_place g.games) _ _ c.requires.1.1.1.1.1.0) c.requires.1.1.1.1.1.1) refl (omega arith)

pub add_row-requires : goal.add_row-requires
add_row-requires g c κs within =
    let so_far = c.loop-row.invariant in
    let firsts = walk_later _ _ so_far.begins _ _ c.requires.1.1.1.0 in
    let seconds = walk_later _ _ so_far.begins _ _ c.requires.1.1.1.1.0 in
    let inside = inside_walk _ _ _ c.requires.1.1.1.0 _ _ c.len-row-end.ensures c.loop-row-test.true in
    (within.0, (within.1.0, (within.1.1, (firsts, (seconds, (inside, (so_far.holds, so_far.spare)))))))

pub returns-in_err-add_row : goal.returns-in_err-add_row
returns-in_err-add_row g c =
    let l = inside_walk _ _ _ c.requires.1.1.1.0 _ _ c.len-row-end.ensures c.loop-row-test.true in
    let row = c.in_err-add_row.ensures in
    forms_handed c.loop-row.invariant _ row.begins row.made row.spare c.from_residual.ensures.1 (flat_split _ _ l (row_items g.games.1))

pub loop-row-preserved : goal.loop-row-preserved
loop-row-preserved g c =
    let l = inside_walk _ _ _ c.requires.1.1.1.0 _ _ c.len-row-end.ensures c.loop-row-test.true in
    forms_next c.loop-row.invariant c.in_ok-add_row.ensures (flat_next _ _ l (row_items g.games.1)) (sym (next_row _ _))

pub returns : goal.returns
returns g c =
    let n = c.len-row-end.ensures ∙ c.args.terms.now.firsts.positions.ok.0 ∙ count _ _ _ c.requires.1.1.1.0 in
    let l = c.loop-row-test.false in
    let u = c.loop-row.auto.row-end in
    let e : c.loop-row.row ≡ length g.games.0 = omega (arith, n, l, u) in
    forms_all c.loop-row.invariant (sym (ap (λ z. pair_items z g.games.1) (take_all c.loop-row.row g.games.0 (omega (arith, n, l)))))
    (sym (ap (λ z. z * length g.games.1) e))
