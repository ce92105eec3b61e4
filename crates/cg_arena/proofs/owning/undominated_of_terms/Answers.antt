use Rattle.std.proofs.Common.{◌≡◌, ◌++◌, ◌≤◌, List, ℕ, ap, arith, length, subst, sym, [], ◌∷◌, ◌+◌, ◌∙◌}
use Rattle.smallvec.specs.SmallVec.{SmallVec}
use Rattle.std.proofs.lemmas.List.Elements.{All-nil}
use Rattle.cg_form.specs.Order.{no_one}
use Rattle.cg_form.specs.Side.{at_most}
use Rattle.cg_arena.specs.declared.order_memo.OrderMemo.{OrderMemo}
use Rattle.cg_arena.specs.Arena.{AreIndexes, IsIndex, game_of, games_of}
use Rattle.cg_arena.specs.OrderMemos.{AreRight}
use Rattle.cg_arena.proofs.Antichains.{SoFar, so_far_all, so_far_more, so_far_none, so_far_same}
use Rattle.cg_arena.proofs.Slices.{index_of_item, indexes_pushed, item_is}
use Rattle.cg_arena.proofs.owning.undominated_of_terms.Goals as goal
use Rattle.cg_arena.proofs.owning.undominated_of_terms.Goals.{then-branch+in_ok-take_out+in_ok-push_option, else-branch}

pub loop-x-init : goal.loop-x-init
loop-x-init c =
    let gs = c.args.arena.now in
    let P : List ℕ → Type 0 = λ z. AreIndexes gs z in
    let same : c.push_options.new.options.items ≡ c.args.seconds.now =
    c.in_ok-push_options.ensures ∙ ap (λ z. z ++ c.args.seconds.now) c.new-rest.ensures.items in
    record {
      right = c.requires.right;
      rest = subst P (sym same) c.requires.seconds;
      own = subst P (sym c.new-own.ensures.items) (All-nil (IsIndex gs));
      so_far = so_far_none gs c.args.left c.args.firsts.now c.args.seconds.now c.push_options.new.options.items c.new-own.result.items
          c.requires.second_apart same c.new-own.ensures.items;
    }

pub loop-x-preserved : goal.loop-x-preserved
loop-x-preserved c =
    let gs = c.args.arena.now in
    let firsts = c.args.firsts.now in
    let rest = c.loop-x.rest.items in
    let own = c.loop-x.own.items in
    let i = c.loop-x.x-index in
    let p = c.x-item.result in
    let is = item_is firsts i p c.x-item.is c.loop-x-test.true in
    let x = game_of gs p in
    let R : OrderMemo → Type 0 = λ z. AreRight gs z in
    let P : List ℕ → Type 0 = λ z. AreIndexes gs z in
    let order = ap (λ z. no_one (at_most c.args.left x) (games_of gs z)) (sym c.as_slice.ensures) ∙ sym c.in_ok-none_as_good.ensures.order in
    elim c.if-branch.branch [
      | then-branch+in_ok-take_out+in_ok-push_option w ↦
          let less : c.if-branch.rest.items ≡ w.take_out.new.items.items = ap (λ (v : SmallVec _). v.items) w.rest-is in
          let more : c.if-branch.own.items ≡ own ++ p ∷ [] = ap (λ (v : SmallVec _). v.items) w.own-is ∙ w.in_ok-push_option.ensures in
          record {
            right = subst R (sym w.answers-is) w.take_out.ensures.right;
            rest = subst P (sym less) w.in_ok-take_out.ensures.indexes;
            own = indexes_pushed gs own c.if-branch.own.items p c.loop-x.invariant.own
                (index_of_item gs firsts i p c.requires.firsts c.loop-x-test.true is) more;
            so_far = so_far_more gs c.args.left firsts c.args.seconds.now rest own c.if-branch.rest.items c.if-branch.own.items i p
                c.requires.first_apart c.loop-x.invariant.so_far c.loop-x-test.true is (order ∙ w.if-branch.true)
                (ap (games_of gs) less ∙ w.in_ok-take_out.ensures.kept) more;
          }
      | else-branch w ↦
          let S : List ℕ → Type 0 = λ z. SoFar gs c.args.left firsts c.args.seconds.now z c.if-branch.own.items (i + 1) in
          let T : List ℕ → Type 0 = λ z. SoFar gs c.args.left firsts c.args.seconds.now rest z (i + 1) in
          let less : c.if-branch.rest.items ≡ rest = ap (λ (v : SmallVec _). v.items) w.rest-is in
          let more : c.if-branch.own.items ≡ own = ap (λ (v : SmallVec _). v.items) w.own-is in
          record {
            right = subst R (sym w.answers-is) c.none_as_good.ensures.right;
            rest = subst P (sym less) c.loop-x.invariant.rest;
            own = subst P (sym more) c.loop-x.invariant.own;
            so_far = subst S (sym less) (subst T (sym more) (so_far_same gs c.args.left firsts c.args.seconds.now rest own i p
                c.loop-x.invariant.so_far c.loop-x-test.true is (order ∙ w.if-branch.false)));
          }
    ]

pub returns-clause-undominated : goal.returns-clause-undominated
returns-clause-undominated c =
    let most : length c.args.firsts.now ≤ c.loop-x.x-index = omega (arith, c.loop-x-test.false) in
    so_far_all c.args.arena.now c.args.left c.args.firsts.now c.args.seconds.now c.loop-x.rest.items c.loop-x.own.items _ c.loop-x.x-index
    c.loop-x.invariant.so_far most (c.in_ok-push_options-2.ensures ∙ ap (λ z. c.loop-x.rest.items ++ z) c.as_slice-2.ensures)
