use Rattle.std.proofs.Common.{◌≡◌, ap, rules, sym, true, ◌∙◌}
use Rattle.std.proofs.lemmas.Bool.Decides.{Decides-eqb}
use Rattle.cg_form.specs.Side.{at_most}
use Rattle.cg_form.proofs.Sides.{side_refl, side_turned}
use Rattle.cg_arena.specs.Arena.{game_of, games_of}
use Rattle.cg_arena.proofs.Comparing.{game_case, games_case, hindered, number_case, numbers_case, ok_same, remembered}
use Rattle.cg_arena.proofs.Depths.{item_depth}
use Rattle.cg_arena.proofs.Slices.{index_of_item, item_is, slice_hit, slice_miss}
use Rattle.cg_arena.proofs.order.+found.Goals as goal

pub at_most-returns-then-eq-clause-order : goal.at_most-returns-then-eq-clause-order
at_most-returns-then-eq-clause-order t c =
    let g = game_of c.args.arena.now c.args.a in
    sym (side_refl c.args.left g) ∙ ap (λ z. at_most c.args.left g (game_of c.args.arena.now z)) ((Decides-eqb c.args.a c.args.b).0 (sym c.eq.ensures ∙ c.if-eq.true))

pub compared-returns-then-not-branch-clause-order : goal.compared-returns-then-not-branch-clause-order
compared-returns-then-not-branch-clause-order t c =
    hindered (game_of c.args.arena.now c.args.a) (game_of c.args.arena.now c.args.b)
    (games_of c.args.arena.now c.in-Options.lefts.now) (games_of c.args.arena.now c.in-Options.field-1.now) c.in_ok-none_as_good-in-Options.field-0
    c.in-Options.ensures.read.2 c.in_ok-none_as_good-in-Options.ensures.order (search (rules, c.if-not-branch.true))

pub compared-returns-in-Number-high-clause-order : goal.compared-returns-in-Number-high-clause-order
compared-returns-in-Number-high-clause-order t c =
    numbers_case (game_of c.args.arena.now c.args.a) (game_of c.args.arena.now c.args.b) c.in-Number.x c.in-Number-high.y c.le.result
    c.in-Number.ensures.read c.in-Number-high.ensures.read c.le.ensures.value

pub compared-returns-in-Options-high-clause-order : goal.compared-returns-in-Options-high-clause-order
compared-returns-in-Options-high-clause-order t c =
    ok_same c.none_as_good.result _ _ c.none_as_good.ensures.order
    (number_case (game_of c.args.arena.now c.args.a) (game_of c.args.arena.now c.args.b) c.in-Number.x
    (games_of c.args.arena.now c.in-Options-high.field-0.now) (games_of c.args.arena.now c.in-Options-high.rights.now)
    c.in-Number.ensures.read c.in-Options-high.ensures.read.2 c.in-Options-high.ensures.canonical)

pub compared-returns-in-Number-high-2-clause-order : goal.compared-returns-in-Number-high-2-clause-order
compared-returns-in-Number-high-2-clause-order t c =
    let yes : c.in_ok-none_as_good-in-Options.field-0 ≡ true = search (rules, c.if-not-branch.false) in
    sym yes ∙ c.in_ok-none_as_good-in-Options.ensures.order
    ∙ game_case (game_of c.args.arena.now c.args.a) (game_of c.args.arena.now c.args.b) c.in-Number-high-2.field-0
    (games_of c.args.arena.now c.in-Options.lefts.now) (games_of c.args.arena.now c.in-Options.field-1.now)
    c.in-Number-high-2.ensures.read c.in-Options.ensures.read.2 c.in-Options.ensures.canonical

pub compared-returns-in-Options-high-2-clause-order : goal.compared-returns-in-Options-high-2-clause-order
compared-returns-in-Options-high-2-clause-order t c =
    let yes : c.in_ok-none_as_good-in-Options.field-0 ≡ true = search (rules, c.if-not-branch.false) in
    ok_same c.none_as_good-in-Options-high-2.result _ _ c.none_as_good-in-Options-high-2.ensures.order
    (games_case (game_of c.args.arena.now c.args.a) (game_of c.args.arena.now c.args.b)
    (games_of c.args.arena.now c.in-Options.lefts.now) (games_of c.args.arena.now c.in-Options.field-1.now)
    (games_of c.args.arena.now c.in-Options-high-2.field-0.now) (games_of c.args.arena.now c.in-Options-high-2.rights.now)
    c.in_ok-none_as_good-in-Options.field-0 c.in-Options.ensures.read.2 c.in-Options-high-2.ensures.read.2
    c.in_ok-none_as_good-in-Options.ensures.order yes)

pub found-returns-in_err-remember-clause-right : goal.found-returns-in_err-remember-clause-right
found-returns-in_err-remember-clause-right t c = λ x k. c.compared-2.ensures.right x (c.in_err-remember.ensures.err x k)

pub found-returns-clause-right : goal.found-returns-clause-right
found-returns-clause-right t c =
    remembered c.args.arena.now c.compared-2.new.answers c.remember.new.self
    (record { low = c.args.a; high = c.args.b; at_most = c.in_ok-answer.answer }) c.compared-2.ensures.right c.in_ok-remember.ensures.ok
    (record { low = c.requires.a; high = c.requires.b; order = c.in_ok-answer.ensures.order })

pub none_as_good-at_most-requires : goal.none_as_good-at_most-requires
none_as_good-at_most-requires t c =
    let k = c.option-item.result in
    let is = item_is c.args.list.now c.loop-option.option-index k c.option-item.is c.loop-option-test.true in
    let index = index_of_item c.args.arena.now c.args.list.now c.loop-option.option-index k c.requires.list c.loop-option-test.true is in
    let smaller = item_depth c.args.arena.now c.args.list.now c.loop-option.option-index k c.loop-option-test.true is in
    search rules

pub none_as_good-returns-then-branch-clause-order : goal.none_as_good-returns-then-branch-clause-order
none_as_good-returns-then-branch-clause-order t c =
    let k = c.option-item.result in
    let is = item_is c.args.list.now c.loop-option.option-index k c.option-item.is c.loop-option-test.true in
    sym (slice_hit c.args.arena.now (at_most c.args.left (game_of c.args.arena.now c.args.x)) c.args.list.now c.loop-option.option-index k
    c.loop-option-test.true is (sym (side_turned c.args.left (game_of c.args.arena.now k) (game_of c.args.arena.now c.args.x))
    ∙ sym c.in_ok-at_most.ensures.order ∙ c.if-branch.true))

pub none_as_good-loop-option-preserved : goal.none_as_good-loop-option-preserved
none_as_good-loop-option-preserved t c =
    let k = c.option-item.result in
    let is = item_is c.args.list.now c.loop-option.option-index k c.option-item.is c.loop-option-test.true in
    record {
      right = c.at_most.ensures.right;
      none = slice_miss c.args.arena.now (at_most c.args.left (game_of c.args.arena.now c.args.x)) c.args.list.now c.loop-option.option-index k
          c.loop-option-test.true is c.loop-option.invariant.none
          (sym (side_turned c.args.left (game_of c.args.arena.now k) (game_of c.args.arena.now c.args.x))
          ∙ sym c.in_ok-at_most.ensures.order ∙ c.if-branch.false);
    }
