use Rattle.std.proofs.Common.{refl, rules}
use Rattle.std.proofs.lemmas.Option.{MatchOption-at_none, MatchOption-at_some}
use Rattle.cg_arena.specs.Arena.{game_of, games_of}
use Rattle.cg_arena.specs.UnreducedGames.{unreduced_game}
use Rattle.cg_arena.proofs.Against.{near_side}
use Rattle.cg_arena.proofs.Bypassing.{bypassed_more, far_of_same, kept_there, replaced_and_passed, replaced_by_none}
use Rattle.cg_arena.proofs.Bypassing.{replaced_by_one, through_fine, through_less, through_node, through_number}
use Rattle.cg_arena.proofs.Depths.{depth-far, item_depth}
use Rattle.cg_arena.proofs.Results.{always_ok, if_ok}
use Rattle.cg_arena.proofs.Slices.{index_of_item, item_among, item_is}
use Rattle.cg_arena.proofs.bypass.+bypass.Goals as goal

-- ---- one option

pub bypass-bypass_through-requires : goal.bypass-bypass_through-requires
bypass-bypass_through-requires t c =
    let h = MatchOption-at_some _ _ c.in-Some.answer c.in-Some.is c.in_ok-reverser.ensures.some in
    let less = depth-far c.args.left (game_of c.args.arena.now c.args.option) (game_of c.args.arena.now c.in-Some.answer) h.1 in
    let index = h.0 in
    let back = h.2 in
    search rules

pub bypass-returns-in-None-clause-done : goal.bypass-returns-in-None-clause-done
bypass-returns-in-None-clause-done t c =
    let fine = MatchOption-at_none _ _ c.in-None.is c.in_ok-reverser.ensures.none in
    if_ok c.push.result _ _ c.push.ensures.items
    (λ r e. replaced_by_one c.args.arena.now c.args.left c.args.unreduced.now c.args.out.now c.push.new.self c.args.option _ c.requires.out
    c.requires.option e c.push.ensures.passed fine
    (λ m a same. kept_there c.args.left (unreduced_game c.args.arena.now c.args.unreduced.now) _ _ a m same))

pub bypass-returns-in-Some-clause-done : goal.bypass-returns-in-Some-clause-done
bypass-returns-in-Some-clause-done t c =
    let h = MatchOption-at_some _ _ c.in-Some.answer c.in-Some.is c.in_ok-reverser.ensures.some in
    if_ok c.bypass_through.result _ _ c.bypass_through.ensures.done
    (λ r d. record { out = d.out; grown = d.grown; covered = λ a same. d.covered a (far_of_same c.args.left _ _ a same h.1) })

-- ---- through an answer

pub bypass_through-bypass_list-requires : goal.bypass_through-bypass_list-requires
bypass_through-bypass_list-requires t c =
    let gs = c.args.arena.now in
    let answer = game_of gs c.args.answer in
    let side = near_side gs answer c.in-Options.lefts.now c.in-Options.rights.now c.chosen-near.result.now c.args.left c.in-Options.ensures.read c.chosen-near.ensures in
    let less = through_less c.args.left (unreduced_game gs c.args.unreduced.now) answer (games_of gs c.chosen-near.result.now) side.same c.requires.back in
    let smaller = side.depth in
    let there = side.indexes in
    search rules

pub bypass_through-returns-in-Number-clause-done : goal.bypass_through-returns-in-Number-clause-done
bypass_through-returns-in-Number-clause-done t c =
    let gs = c.args.arena.now in
    let unreduced = unreduced_game gs c.args.unreduced.now in
    let fine = through_fine c.args.left unreduced (game_of gs c.args.answer) c.in-Number.field-0 c.in-Number.ensures.read
    c.requires.known.unreduced.no_number c.requires.back in
    if_ok c.push.result _ _ c.push.ensures.items
    (λ r e. replaced_by_one gs c.args.left c.args.unreduced.now c.args.out.now c.push.new.self c.args.answer _ c.requires.out c.requires.answer
    e c.push.ensures.passed fine
    (λ m a k. through_number c.args.left unreduced (game_of gs c.args.answer) c.in-Number.field-0
    (games_of gs c.push.new.self.items.items) c.in-Number.ensures.read c.requires.back m a k))

pub bypass_through-returns-in-Options-clause-done : goal.bypass_through-returns-in-Options-clause-done
bypass_through-returns-in-Options-clause-done t c =
    let gs = c.args.arena.now in
    let answer = game_of gs c.args.answer in
    let side = near_side gs answer c.in-Options.lefts.now c.in-Options.rights.now c.chosen-near.result.now c.args.left c.in-Options.ensures.read c.chosen-near.ensures in
    if_ok c.bypass_list.result _ _ c.bypass_list.ensures.done
    (λ r d. record {
      out = d.out;
      grown = d.grown;
      covered = λ a m. through_node c.args.left (unreduced_game gs c.args.unreduced.now) answer (games_of gs c.chosen-near.result.now)
          (games_of gs c.bypass_list.new.out.items.items) side.same c.requires.back (record { each = d.covered }) a m;
    })

-- ---- once

pub bypass_once-returns-then-has_passed-clause-done : goal.bypass_once-returns-then-has_passed-clause-done
bypass_once-returns-then-has_passed-clause-done t c =
    let there = c.requires.out.passed c.args.option (c.has_passed.ensures c.if-has_passed.true) in
    replaced_by_none c.args.arena.now c.args.left c.args.unreduced.now c.args.out.now (game_of c.args.arena.now c.args.option) c.requires.out there.1

pub bypass_once-returns-clause-done : goal.bypass_once-returns-clause-done
bypass_once-returns-clause-done t c =
    always_ok c.pass.result _
    (replaced_and_passed c.args.arena.now c.args.left c.args.unreduced.now c.args.out.now c.bypass.new.out c.pass.new.self c.args.option
    c.in_ok-bypass.ensures.done c.requires.option c.pass.ensures.items c.pass.ensures.passed)

-- ---- a list

pub bypass_list-bypass_once-requires : goal.bypass_list-bypass_once-requires
bypass_list-bypass_once-requires t c =
    let gs = c.args.arena.now in
    let x = c.option-item.result in
    let is = item_is c.args.list.now c.loop-option.option-index _ c.option-item.is c.loop-option-test.true in
    let index = index_of_item gs c.args.list.now c.loop-option.option-index x c.requires.list c.loop-option-test.true is in
    let smaller = item_depth gs c.args.list.now c.loop-option.option-index x c.loop-option-test.true is in
    let less = c.requires.less.each (game_of gs x) (item_among gs c.args.list.now c.loop-option.option-index x c.loop-option-test.true is) in
    search rules

pub bypass_list-loop-option-preserved : goal.bypass_list-loop-option-preserved
bypass_list-loop-option-preserved t c =
    let gs = c.args.arena.now in
    let x = c.option-item.result in
    let is = item_is c.args.list.now c.loop-option.option-index _ c.option-item.is c.loop-option-test.true in
    record {
      known = c.bypass_once.ensures.known;
      out = c.in_ok-bypass_once.ensures.done.out;
      so_far = bypassed_more gs c.args.left (unreduced_game gs c.args.unreduced.now) c.args.list.now c.args.out.now.items.items
          c.loop-option.out.items.items c.bypass_once.new.out.items.items c.loop-option.option-index x
          c.loop-option.invariant.so_far c.loop-option-test.true is
          c.in_ok-bypass_once.ensures.done.grown
          (c.in_ok-bypass_once.ensures.done.covered (game_of gs x) refl);
    }
