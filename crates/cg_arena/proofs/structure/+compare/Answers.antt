use Rattle.std.proofs.Common.{rules, ap, sym, ◌∙◌, length, ◌≤◌, ◌<◌, arith}
use Rattle.std.proofs.lemmas.Bool.Decides.{Decides-eqb}
use Rattle.cg_form.specs.Structure.{game_cmp}
use Rattle.cg_form.proofs.Structure.{game_cmp-refl}
use Rattle.cg_arena.specs.Arena.{game_of}
use Rattle.cg_arena.proofs.Depths.{item_depth}
use Rattle.cg_arena.proofs.ListOrder.{passed_longer, passed_shorter}
use Rattle.cg_arena.proofs.Slices.{index_of_item, item_is}
use Rattle.cg_arena.proofs.structure.+compare.Goals as goal

pub compare-returns-then-eq : goal.compare-returns-then-eq
compare-returns-then-eq t c =
    let gs = c.args.arena.now in
    sym (ap (λ z. game_cmp (game_of gs z) (game_of gs c.args.b)) ((Decides-eqb c.args.a c.args.b).0 (sym c.eq.ensures ∙ c.if-eq.true)) ∙ game_cmp-refl (game_of gs c.args.b))

pub compare_lists-returns-then-i-b : goal.compare_lists-returns-then-i-b
compare_lists-returns-then-i-b t c =
    passed_longer c.args.arena.now c.args.a.now c.args.b.now c.loop-i.i c.loop-i.invariant c.loop-i-test.true (omega (arith, c.if-i-b.true))

pub compare_lists-compare-order-requires : goal.compare_lists-compare-order-requires
compare_lists-compare-order-requires t c =
    let l : c.loop-i.i < length c.args.b.now = omega (arith, c.if-i-b.false) in
    let first = item_is c.args.a.now c.loop-i.i _ c.index-a-i.is c.loop-i-test.true in
    let second = item_is c.args.b.now c.loop-i.i _ c.index-b-i.is l in
    let k = item_depth c.args.arena.now c.args.a.now c.loop-i.i c.index-a-i.result c.loop-i-test.true first in (
      search rules,
      (
        index_of_item c.args.arena.now c.args.a.now c.loop-i.i c.index-a-i.result c.requires.a c.loop-i-test.true first,
        index_of_item c.args.arena.now c.args.b.now c.loop-i.i c.index-b-i.result c.requires.b l second,
      ),
    )

pub compare_lists-returns-then-a-b : goal.compare_lists-returns-then-a-b
compare_lists-returns-then-a-b t c =
    let ended : length c.args.a.now ≤ c.loop-i.i = omega (arith, c.loop-i-test.false) in
    let end = c.loop-i.auto.i-end in
    passed_shorter c.args.arena.now c.args.a.now c.args.b.now c.loop-i.i c.loop-i.invariant ended (omega (arith, c.if-a-b.true, end))
