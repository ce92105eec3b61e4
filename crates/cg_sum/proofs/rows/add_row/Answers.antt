-- The sums of one position with all of the other game.
use Rattle.std.proofs.Common.{arith, ap, refl, sym, ◌∙◌}
use Rattle.std.proofs.lemmas.List.{take_all}
use Rattle.cg_arena.specs.Arena.{game_of}
use Rattle.cg_canon.specs.SumItems.{row_items, sum_item as item_of_sum}
use Rattle.cg_sum.proofs.Loops.{forms_all, forms_handed, forms_memory, forms_none, forms_put, map_next, map_split}
use Rattle.cg_sum.proofs.Tables.{sum_placed}
use Rattle.cg_canon.proofs.WalkPositions.{count, inside_walk, walk_later}
use Rattle.cg_sum.proofs.rows.add_row.Goals as goal

pub loop-column-init : goal.loop-column-init
loop-column-init g c = forms_all (forms_none c.requires.1.1.1.1.1.1.0 c.requires.1.1.1.1.1.1.1) refl (omega arith)

pub sum_item-requires : goal.sum_item-requires
sum_item-requires g c κs within =
    let so_far = c.loop-column.invariant in (
      within.0,
      (
        within.1.0,
        (
          within.1.1,
          (
            record {
              placed = record {
                firsts = walk_later _ _ so_far.begins _ _ c.requires.1.1.1.0;
                seconds = walk_later _ _ so_far.begins _ _ c.requires.1.1.1.1.0;
                within_rows = c.requires.1.1.1.1.1.0;
                within_columns = inside_walk _ _ _ c.requires.1.1.1.1.0 _ _ c.len-column-end.ensures c.loop-column-test.true;
              };
              holds = rw c.as_slice.ensures.value so_far.holds;
            },
            so_far.spare,
          ),
        ),
      ),
    )

pub returns-in_err-sum : goal.returns-in_err-sum
returns-in_err-sum g c =
    let l = inside_walk _ _ _ c.requires.1.1.1.1.0 _ _ c.len-column-end.ensures c.loop-column-test.true in
    let one = c.in_err-sum.ensures in
    forms_handed c.loop-column.invariant _ one.begins one.made one.spare c.from_residual.ensures.1
    (map_split _ _ l (item_of_sum (game_of g.games.0 c.args.row)))

pub returns-in_err-push : goal.returns-in_err-push
returns-in_err-push g c =
    let one = c.sum_item.ensures in
    forms_memory c.loop-column.invariant one.begins one.made.keeps one.spare c.from_residual-in_err-push.ensures.1

pub loop-column-preserved : goal.loop-column-preserved
loop-column-preserved g c =
    let l = inside_walk _ _ _ c.requires.1.1.1.1.0 _ _ c.len-column-end.ensures c.loop-column-test.true in
    forms_put c.loop-column.invariant (omega arith) c.in_ok-sum.ensures (sym (sum_placed g.games _ _ l)) c.in_ok-push.ensures.items
    (map_next _ _ l (item_of_sum (game_of g.games.0 c.args.row))) (omega arith)

pub returns : goal.returns
returns g c =
    let n = c.len-column-end.ensures ∙ c.args.terms.now.seconds.positions.ok.0 ∙ count _ _ _ c.requires.1.1.1.1.0 in
    let l = c.loop-column-test.false in
    let u = c.loop-column.auto.column-end in
    forms_all c.loop-column.invariant
    (sym (ap (λ z. row_items z (game_of g.games.0 c.args.row)) (take_all c.loop-column.column g.games.1 (omega (arith, n, l)))))
    (omega (arith, n, l, u))
