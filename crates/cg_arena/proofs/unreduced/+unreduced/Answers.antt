use Rattle.std.proofs.Common.{◌≡◌, false, not, rules, sym, true, ◌∙◌}
use Rattle.std.proofs.lemmas.Option.{MatchOption-at_none, MatchOption-at_some}
use Rattle.cg_form.specs.Side.{at_most}
use Rattle.cg_arena.specs.Arena.{game_of, games_of}
use Rattle.cg_arena.specs.UnreducedGames.{unreduced_game}
use Rattle.cg_arena.proofs.Against.{far_own, hindered, known_more, near_side, some_passes, turned_list, unhindered}
use Rattle.cg_arena.proofs.Depths.{item_depth}
use Rattle.cg_arena.proofs.Slices.{index_of_item, item_among, item_is, slice_miss}
use Rattle.cg_arena.proofs.unreduced.+unreduced.Goals as goal

pub at_most_unreduced-returns-in_err-remember-clause-known : goal.at_most_unreduced-returns-in_err-remember-clause-known
at_most_unreduced-returns-in_err-remember-clause-known t c =
    known_more c.args.arena.now c.args.unreduced.now c.compared_with_unreduced.new.answers c.compared_with_unreduced.new.verdicts c.remember.new.self
    c.args.left
    c.args.index c.in_ok-answer.answer c.compared_with_unreduced.ensures.known c.requires.index c.in_ok-answer.ensures.order c.remember.ensures

pub at_most_unreduced-returns-clause-known : goal.at_most_unreduced-returns-clause-known
at_most_unreduced-returns-clause-known t c =
    known_more c.args.arena.now c.args.unreduced.now c.compared_with_unreduced.new.answers c.compared_with_unreduced.new.verdicts c.remember.new.self
    c.args.left
    c.args.index c.in_ok-answer.answer c.compared_with_unreduced.ensures.known c.requires.index c.in_ok-answer.ensures.order c.remember.ensures

pub compared_with_unreduced-first_at_most-requires : goal.compared_with_unreduced-first_at_most-requires
compared_with_unreduced-first_at_most-requires t c =
    let side = near_side c.args.arena.now (game_of c.args.arena.now c.args.index) c.in-Options.lefts.now c.in-Options.rights.now c.chosen-own.result.now c.args.left
    c.in-Options.ensures.read c.chosen-own.ensures in
    let less = side.depth in
    let there = side.indexes in
    search rules

pub compared_with_unreduced-returns-then-not-branch-clause-order : goal.compared_with_unreduced-returns-then-not-branch-clause-order
compared_with_unreduced-returns-then-not-branch-clause-order t c =
    let no : c.in_ok-none_as_good-in-Options.field-0 ≡ false = search (rules, c.if-not-branch.true) in
    hindered c.args.left (game_of c.args.arena.now c.args.index) (unreduced_game c.args.arena.now c.args.unreduced.now)
    (games_of c.args.arena.now c.own.result.now)
    c.in_ok-none_as_good-in-Options.field-0 (far_own c.args.arena.now c.args.unreduced.now c.args.left c.own.result.now c.own.ensures)
    (c.in_ok-none_as_good-in-Options.ensures.order ∙ turned_list c.args.left _ (games_of c.args.arena.now c.own.result.now)) no

pub compared_with_unreduced-returns-in-None-clause-order : goal.compared_with_unreduced-returns-in-None-clause-order
compared_with_unreduced-returns-in-None-clause-order t c =
    let yes : c.in_ok-none_as_good-in-Options.field-0 ≡ true = search (rules, c.if-not-branch.false) in
    let side = near_side c.args.arena.now (game_of c.args.arena.now c.args.index) c.in-Options.lefts.now c.in-Options.rights.now c.chosen-own.result.now c.args.left
    c.in-Options.ensures.read c.chosen-own.ensures in
    sym (MatchOption-at_none _ _ c.in-None.is c.in_ok-first_at_most-in-Options.ensures.none)
    ∙ unhindered c.args.left (game_of c.args.arena.now c.args.index) (unreduced_game c.args.arena.now c.args.unreduced.now)
    (games_of c.args.arena.now c.own.result.now)
    (games_of c.args.arena.now c.chosen-own.result.now) c.in_ok-none_as_good-in-Options.field-0
    (far_own c.args.arena.now c.args.unreduced.now c.args.left c.own.result.now c.own.ensures) side.same
    (c.in_ok-none_as_good-in-Options.ensures.order ∙ turned_list c.args.left _ (games_of c.args.arena.now c.own.result.now)) yes

pub compared_with_unreduced-returns-in-Some-clause-order : goal.compared_with_unreduced-returns-in-Some-clause-order
compared_with_unreduced-returns-in-Some-clause-order t c =
    let yes : c.in_ok-none_as_good-in-Options.field-0 ≡ true = search (rules, c.if-not-branch.false) in
    let side = near_side c.args.arena.now (game_of c.args.arena.now c.args.index) c.in-Options.lefts.now c.in-Options.rights.now c.chosen-own.result.now c.args.left
    c.in-Options.ensures.read c.chosen-own.ensures in
    let h = MatchOption-at_some _ _ c.in-Some.field-0 c.in-Some.is c.in_ok-first_at_most-in-Options.ensures.some in
    sym (some_passes (λ a. at_most (not c.args.left) a (unreduced_game c.args.arena.now c.args.unreduced.now)) (game_of c.args.arena.now c.in-Some.field-0)
    (games_of c.args.arena.now c.chosen-own.result.now) h.1 h.2)
    ∙ unhindered c.args.left (game_of c.args.arena.now c.args.index) (unreduced_game c.args.arena.now c.args.unreduced.now)
    (games_of c.args.arena.now c.own.result.now)
    (games_of c.args.arena.now c.chosen-own.result.now) c.in_ok-none_as_good-in-Options.field-0
    (far_own c.args.arena.now c.args.unreduced.now c.args.left c.own.result.now c.own.ensures) side.same
    (c.in_ok-none_as_good-in-Options.ensures.order ∙ turned_list c.args.left _ (games_of c.args.arena.now c.own.result.now)) yes

pub first_at_most-at_most_unreduced-requires : goal.first_at_most-at_most_unreduced-requires
first_at_most-at_most_unreduced-requires t c =
    let is = item_is c.args.list.now c.loop-option.option-index _ c.option-item.is c.loop-option-test.true in
    let index = index_of_item c.args.arena.now c.args.list.now c.loop-option.option-index _ c.requires.list c.loop-option-test.true is in
    let smaller = item_depth c.args.arena.now c.args.list.now c.loop-option.option-index _ c.loop-option-test.true is in
    search rules

pub first_at_most-returns-then-branch-clause-some : goal.first_at_most-returns-then-branch-clause-some
first_at_most-returns-then-branch-clause-some t c = (
  index_of_item c.args.arena.now c.args.list.now c.loop-option.option-index _ c.requires.list c.loop-option-test.true (item_is c.args.list.now c.loop-option.option-index _ c.option-item.is c.loop-option-test.true),
  item_among c.args.arena.now c.args.list.now c.loop-option.option-index _ c.loop-option-test.true (item_is c.args.list.now c.loop-option.option-index _ c.option-item.is c.loop-option-test.true),
  sym c.in_ok-at_most_unreduced.ensures.order ∙ c.if-branch.true,
)

pub first_at_most-loop-option-preserved : goal.first_at_most-loop-option-preserved
first_at_most-loop-option-preserved t c = record {
  known = c.at_most_unreduced.ensures.known;
  none = slice_miss c.args.arena.now (λ a. at_most c.args.left a (unreduced_game c.args.arena.now c.args.unreduced.now)) c.args.list.now
      c.loop-option.option-index _
      c.loop-option-test.true (item_is c.args.list.now c.loop-option.option-index _ c.option-item.is c.loop-option-test.true) c.loop-option.invariant.none (sym c.in_ok-at_most_unreduced.ensures.order ∙ c.if-branch.false);
}
