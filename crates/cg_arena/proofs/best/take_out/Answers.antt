use Rattle.std.proofs.Common.{◌<◌, Bool, ap, get_or, length, not, rules, sym, ◌∙◌}
use Rattle.cg_form.specs.Game.{Game}
use Rattle.cg_form.specs.Side.{at_most}
use Rattle.cg_arena.specs.Arena.{game_of}
use Rattle.cg_arena.proofs.Keeping.{taking_none, taking_out, taking_past}
use Rattle.cg_arena.proofs.Slices.{item_is}
use Rattle.cg_arena.proofs.best.take_out.Goals as goal

pub loop-at-init : goal.loop-at-init
loop-at-init c = record {
  right = c.requires.right;
  taking = taking_none c.args.arena.now _ c.args.items.now.items c.requires.items;
}

pub loop-at-preserved-then-branch : goal.loop-at-preserved-then-branch
loop-at-preserved-then-branch c =
    let gs = c.args.arena.now in
    let items = c.loop-at.items.items in
    let k = c.index-as_slice-at.result in
    let test : Game → Bool = λ z. not (at_most c.args.left z (game_of gs c.args.x)) in
    let less : c.loop-at.at < length items = search (rules, c.len.ensures.value, c.loop-at-test.true) in
    let is = item_is items c.loop-at.at k (c.index-as_slice-at.is ∙ ap (λ z. get_or z c.loop-at.at k) c.as_slice.ensures) less in
    record {
      right = c.at_most.ensures.right;
      taking = taking_out gs test c.args.items.now.items items c.remove.new.self.items c.loop-at.at k c.loop-at.invariant.taking less is
          (ap not (sym c.in_ok-at_most.ensures.order ∙ c.if-branch.true)) c.remove.ensures.items;
    }

pub loop-at-preserved : goal.loop-at-preserved
loop-at-preserved c =
    let gs = c.args.arena.now in
    let items = c.loop-at.items.items in
    let k = c.index-as_slice-at.result in
    let test : Game → Bool = λ z. not (at_most c.args.left z (game_of gs c.args.x)) in
    let less : c.loop-at.at < length items = search (rules, c.len.ensures.value, c.loop-at-test.true) in
    let is = item_is items c.loop-at.at k (c.index-as_slice-at.is ∙ ap (λ z. get_or z c.loop-at.at k) c.as_slice.ensures) less in
    record {
      right = c.at_most.ensures.right;
      taking = taking_past gs test c.args.items.now.items items c.loop-at.at k c.loop-at.invariant.taking less is
          (ap not (sym c.in_ok-at_most.ensures.order ∙ c.if-branch.false));
    }
