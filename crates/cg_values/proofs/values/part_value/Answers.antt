use Rattle.std.proofs.Common.{refl, ap, ◌∙◌, Err, arith, length}
use Rattle.std.proofs.lemmas.Result.{err_from_is_err_and}
use Rattle.cg_canon.proofs.HandleLists.{pushed_count}
use Rattle.cg_values.proofs.JoinSteps.{joining_begun, joining_made, joining_more, joining_stopped, joining_values, own_gives, own_held, parts_apart}
use Rattle.cg_values.proofs.values.part_value.Goals as goal

pub loop-count-init : goal.loop-count-init
loop-count-init g c = record {
  joining = joining_begun _ _ _ _ _ _ c.in_ok-options.ensures.items
      c.requires.values;
  count = ap length c.in_ok-options.ensures.items;
  room = let e = c.in_ok-options.ensures.capacity in omega arith;
}

pub split_at-requires : goal.split_at-requires
split_at-requires g c =
    let apart = parts_apart _ _ c.lawful.ensures _ c.requires.has _ _ c.requires.counts _ _ c.loop-count-test.true refl
    _ _ _ c.loop-count.invariant.joining in
    apart.fits

pub joined-requires-clause-within : goal.joined-requires-clause-within
joined-requires-clause-within g c =
    let own = own_held _ _ c.lawful.ensures _ c.requires.has _ _ c.requires.counts _ _ c.loop-count-test.true refl
    _ _ _ c.loop-count.invariant.joining _ c.split_at.ensures.front in
    own.within

pub joined-requires-clause-games : goal.joined-requires-clause-games
joined-requires-clause-games g c =
    let own = own_held _ _ c.lawful.ensures _ c.requires.has _ _ c.requires.counts _ _ c.loop-count-test.true refl
    _ _ _ c.loop-count.invariant.joining _ c.split_at.ensures.front in
    own.values.0

pub returns-in_err-option-clause-made : goal.returns-in_err-option-clause-made
returns-in_err-option-clause-made g c =
    let p = err_from_is_err_and c.from_residual-in_err-option.result c.from_residual-in_err-option.ensures.1 in
    joining_stopped _ _ c.lawful.ensures _ c.requires.has _ _ c.requires.counts _ _ c.loop-count-test.true refl
    _ _ _ c.loop-count.invariant.joining _ c.split_at.ensures.front _ _ c.joined.ensures _ _ c.in_err-option.was (p.1 ∙ ap Err p.2)

pub returns-in_err-option-clause-spare : goal.returns-in_err-option-clause-spare
returns-in_err-option-clause-spare g c =
    let own = own_gives _ _ c.lawful.ensures _ c.requires.has _ _ c.requires.counts _ _ c.loop-count-test.true refl
    _ _ _ c.loop-count.invariant.joining _ c.split_at.ensures.front _ _ c.joined.ensures in
    let start = c.requires.spare in
    let before = c.loop-count.invariant.joining.more in
    let after = own.more in
    omega (arith, start, before, after)

pub loop-count-preserved : goal.loop-count-preserved
loop-count-preserved g c =
    record {
      joining = joining_more _ _ c.lawful.ensures _ c.requires.has _ _ c.requires.counts _ _ c.loop-count-test.true refl
          _ _ _ c.loop-count.invariant.joining _ c.split_at.ensures.front _ _ c.joined.ensures c.in_ok-option.option
          c.push_reserved.new.self.items c.split_at.result.1.now c.in_ok-option.was c.push_reserved.ensures.items c.split_at.ensures.back;
      count = pushed_count c.loop-count.options.items c.push_reserved.new.self.items c.in_ok-option.option c.loop-count.count-index
          c.loop-count.invariant.count c.push_reserved.ensures.items;
      room = let e = c.push_reserved.ensures.capacity in let r = c.loop-count.invariant.room in omega arith;
    }

pub board_item-requires-clause-options : goal.board_item-requires-clause-options
board_item-requires-clause-options g c =
    record {
      lefts = c.requires.lefts;
      values = joining_values _ _ c.lawful.ensures _ c.requires.has _ _ c.requires.counts _ _ c.loop-count-test.false
          _ _ c.loop-count.invariant.joining;
    }

pub returns-clause-made : goal.returns-clause-made
returns-clause-made g c =
    joining_made _ _ c.lawful.ensures _ c.requires.has _ _ c.requires.counts _ _ c.loop-count-test.false
    _ _ c.loop-count.invariant.joining _ _ c.board_item.ensures.made
