use Rattle.std.proofs.Common.{rules, refl, inl, ◌<◌, ◌+◌, ◌*◌}
use Rattle.cg_form.specs.Bypass.{kept}
use Rattle.cg_form.specs.Forms.{game_of, games_of}
use Rattle.cg_form.specs.Game.{Among}
use Rattle.cg_form.specs.Side.{at_most, far}
use Rattle.cg_form.specs.Size.{list_size, size}
use Rattle.cg_form.proofs.BypassSteps.{covered_through, far_of, fine_number, fine_irreversible, fine_through, if_ok, taken_all, taken_for, taken_next, taken_none, taken_one}
use Rattle.cg_form.proofs.BypassSteps.{through_canonical, through_less, through_node_covered, through_size}
use Rattle.cg_form.proofs.FormLists.{among_item, size_of_item}
use Rattle.cg_form.proofs.LeSteps.{miss_more}
use Rattle.cg_form.proofs.canon.reversing.+bypass.Goals as goal

pub bypass-bypass_all-requires : goal.bypass-bypass_all-requires
bypass-bypass_all-requires t c =
    let m : Among (game_of c.answer-item.result) (far c.args.left (game_of c.args.option.now)) =
    far_of c.args.left c.args.option.now _ _ c.chosen-far.result.now c.in-Node.is c.chosen-far.ensures (game_of c.answer-item.result)
    (among_item c.as_slice-answer-items.result.now c.chosen-far.result.now c.loop-answer.answer-index c.answer-item.result c.loop-answer-test.true
    c.answer-item.is c.as_slice-answer-items.ensures) in
    let s : 2 * list_size c.chosen.result.now + 1 < 2 * size (game_of c.args.option.now) = through_size c.args.left (game_of c.args.option.now)
    c.answer-item.result _ _ c.chosen.result.now m c.in-Node-answer.is c.chosen.ensures in (
      search rules,
      (
        c.requires.none,
        (
          c.requires.stands,
          (
            through_canonical c.args.left (game_of c.args.option.now) c.answer-item.result _ _ c.chosen.result.now c.requires.canonical m c.in-Node-answer.is
                c.chosen.ensures,
            through_less c.args.left (game_of c.args.whole.now) c.answer-item.result _ _ c.chosen.result.now c.at_most.result c.in-Node-answer.is c.chosen.ensures
                c.at_most.ensures c.if-at_most.true,
          ),
        ),
      ),
    )

pub bypass-returns-in-Num-answer : goal.bypass-returns-in-Num-answer
bypass-returns-in-Num-answer t c =
    let m : Among (game_of c.answer-item.result) (far c.args.left (game_of c.args.option.now)) =
    far_of c.args.left c.args.option.now _ _ c.chosen-far.result.now c.in-Node.is c.chosen-far.ensures (game_of c.answer-item.result)
    (among_item c.as_slice-answer-items.result.now c.chosen-far.result.now c.loop-answer.answer-index c.answer-item.result c.loop-answer-test.true
    c.answer-item.is c.as_slice-answer-items.ensures) in
    if_ok c.with_one-in-Num-answer.result _ _
    (λ r p. taken_one c.args.left (game_of c.args.whole.now) (game_of c.answer-item.result) (game_of c.args.option.now) (games_of c.args.out.items)
    (games_of r.items) c.requires.stands
    (fine_through c.args.left (game_of c.args.whole.now) c.answer-item.result c.in-Num-answer.field-0 c.at_most.result c.in-Num-answer.is c.requires.none
    c.at_most.ensures c.if-at_most.true)
    (covered_through c.args.left (game_of c.args.whole.now) (game_of c.args.option.now) c.answer-item.result c.in-Num-answer.field-0 c.at_most.result
    c.in-Num-answer.is c.at_most.ensures c.if-at_most.true m) p)
    c.with_one-in-Num-answer.ensures

pub bypass-returns-in-Node-answer : goal.bypass-returns-in-Node-answer
bypass-returns-in-Node-answer t c =
    let m : Among (game_of c.answer-item.result) (far c.args.left (game_of c.args.option.now)) =
    far_of c.args.left c.args.option.now _ _ c.chosen-far.result.now c.in-Node.is c.chosen-far.ensures (game_of c.answer-item.result)
    (among_item c.as_slice-answer-items.result.now c.chosen-far.result.now c.loop-answer.answer-index c.answer-item.result c.loop-answer-test.true
    c.answer-item.is c.as_slice-answer-items.ensures) in
    if_ok c.bypass_all.result _ _
    (λ r p. taken_for c.args.left (game_of c.args.whole.now) (game_of c.args.option.now) (games_of c.args.out.items) c.chosen.result.now (games_of r.items) p
    (through_node_covered c.args.left (game_of c.args.whole.now) (game_of c.args.option.now) c.answer-item.result _ _ c.chosen.result.now
    (games_of r.items) c.at_most.result c.in-Node-answer.is c.chosen.ensures c.at_most.ensures c.if-at_most.true m p.covered))
    c.bypass_all.ensures

pub bypass-loop-answer-preserved : goal.bypass-loop-answer-preserved
bypass-loop-answer-preserved t c =
    miss_more (λ b. at_most c.args.left b (game_of c.args.whole.now)) c.as_slice-answer-items.result.now c.loop-answer.answer-index c.answer-item.result
    c.at_most.result
    c.loop-answer-test.true c.answer-item.is c.loop-answer.invariant c.at_most.ensures c.if-at_most.false

pub bypass-returns-in-Num : goal.bypass-returns-in-Num
bypass-returns-in-Num t c = if_ok c.with_one.result _ _
    (λ r p. taken_one c.args.left (game_of c.args.whole.now) (game_of c.args.option.now) (game_of c.args.option.now) (games_of c.args.out.items)
    (games_of r.items) c.requires.stands
    (fine_number c.args.left (game_of c.args.whole.now) c.args.option.now c.in-Num.field-0 c.in-Num.is c.requires.less) (kept (inl refl)) p)
    c.with_one.ensures

pub bypass-returns-after-loop-answer : goal.bypass-returns-after-loop-answer
bypass-returns-after-loop-answer t c = if_ok c.with_one-in-Node.result _ _
    (λ r p. taken_one c.args.left (game_of c.args.whole.now) (game_of c.args.option.now) (game_of c.args.option.now) (games_of c.args.out.items)
    (games_of r.items) c.requires.stands
    (fine_irreversible c.args.left (game_of c.args.whole.now) c.args.option.now _ _ c.chosen-far.result.now c.as_slice-answer-items.result.now
    c.loop-answer.answer-index c.in-Node.is c.chosen-far.ensures c.as_slice-answer-items.ensures c.loop-answer-test.false c.loop-answer.invariant
    c.requires.canonical c.requires.less) (kept (inl refl)) p)
    c.with_one-in-Node.ensures

pub bypass_all-bypass-requires : goal.bypass_all-bypass-requires
bypass_all-bypass-requires t c =
    let m = among_item c.as_slice-option-items.result.now c.args.options.now c.loop-option.option-index c.option-item.result c.loop-option-test.true
    c.option-item.is c.as_slice-option-items.ensures in
    let s = size_of_item c.as_slice-option-items.result.now c.args.options.now c.loop-option.option-index c.option-item.result c.as_slice-option-items.ensures
    c.option-item.is c.loop-option-test.true in (
      search rules,
      (
        c.requires.none,
        (c.loop-option.invariant.stands, (c.requires.canonical.each (game_of c.option-item.result) m, c.requires.less.each (game_of c.option-item.result) m)),
      ),
    )

pub bypass_all-loop-option-init : goal.bypass_all-loop-option-init
bypass_all-loop-option-init t c = taken_none c.args.left (game_of c.args.whole.now) (games_of c.args.out.items) c.requires.stands

pub bypass_all-loop-option-preserved : goal.bypass_all-loop-option-preserved
bypass_all-loop-option-preserved t c = taken_next c.args.left (game_of c.args.whole.now) c.as_slice-option-items.result.now c.loop-option.option-index
    c.option-item.result (games_of c.args.out.items) (games_of c.loop-option.all.items) (games_of c.in_ok-all.all.items)
    c.loop-option-test.true c.option-item.is c.loop-option.invariant c.in_ok-all.ensures

pub bypass_all-returns : goal.bypass_all-returns
bypass_all-returns t c = taken_all c.args.left (game_of c.args.whole.now) c.as_slice-option-items.result.now c.loop-option.option-index
    (games_of c.args.out.items) c.args.options.now (games_of c.loop-option.all.items) c.as_slice-option-items.ensures c.loop-option-test.false
    c.loop-option.invariant
