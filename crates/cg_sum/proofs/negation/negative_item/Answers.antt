-- A number's negative, or that of a game from those of its options.
use Rattle.std.proofs.Common.{arith, refl, ap, sym, ◌∙◌, length}
use Rattle.cg_canon.specs.Works.{work_state}
use Rattle.cg_form.specs.Sum.{negative}
use Rattle.cg_nodes.specs.Can.{can}
use Rattle.cg_sum.specs.Progress.{indexes}
use Rattle.cg_sum.proofs.ItemSteps.{given_form}
use Rattle.cg_sum.proofs.Options.{negated_form, negated_left, negated_left_apart, negated_right, negated_right_apart}
use Rattle.cg_sum.proofs.Sums.{can-negative_number}
use Rattle.cg_canon.proofs.WalkPositions.{at, node_of_place, number_at_index}
use Rattle.cg_sum.proofs.negation.negative_item.Goals as goal

pub number_at-x-requires-clause-game : goal.number_at-x-requires-clause-game
number_at-x-requires-clause-game g c = (at _ _ _ c.requires.1.1.1.0 _ _ c.requires.1.1.1.1.0 c.index.ensures).within

pub number_at-x-requires-clause-number : goal.number_at-x-requires-clause-number
number_at-x-requires-clause-number g c = number_at_index _ _ _ c.requires.1.1.1.0 _ _ c.requires.1.1.1.1.0 c.index.ensures c.if-f.true

pub returns-then-f : goal.returns-then-f
returns-then-f g c =
    let W = work_state g.S.CellStore.state in
    given_form (W c.args.work.now) (W c.make_number.new.self) _ _ _ (omega arith) _ _ 0 0 _
    (sym (ap (λ z. can (negative z)) (sym (at _ _ _ c.requires.1.1.1.0 _ _ c.requires.1.1.1.1.0 c.index.ensures).is ∙ c.number_at-x.ensures)
    ∙ can-negative_number _ _ c.negate.ensures)) (c.make_number.ensures _ refl)

pub make_of_terms-requires : goal.make_of_terms-requires
make_of_terms-requires g c =
    let l = c.as_slice.ensures ∙ c.in_ok-left.ensures ∙ ap (λ z. indexes c.args.table.now 1 0 z) c.rights-own.ensures in
    let r = c.as_slice-2.ensures ∙ c.in_ok-right.ensures ∙ ap (λ z. indexes c.args.table.now 1 0 z) c.lefts-others.ensures in
    record {
      extra = omega arith;
      lefts = negated_left _ _ _ c.requires.1.1.1.0 _ c.requires.1.1.1.1.0 _ c.requires.1.1.1.1.1 _ c.index.ensures _ _ l r;
      rights = negated_right _ _ _ c.requires.1.1.1.0 _ c.requires.1.1.1.1.0 _ c.requires.1.1.1.1.1 _ c.index.ensures _ _ l r;
      lefts_apart = negated_left_apart _ _ _ c.requires.1.1.1.0 _ c.requires.1.1.1.1.0 _ c.requires.1.1.1.1.1 _ c.index.ensures _ _ l r _
          (ap length c.rights-own.ensures);
      rights_apart = negated_right_apart _ _ _ c.requires.1.1.1.0 _ c.requires.1.1.1.1.0 _ c.requires.1.1.1.1.1 _ c.index.ensures _ _ l r _
          (ap length c.lefts-others.ensures);
    }

pub returns : goal.returns
returns g c =
    let W = work_state g.S.CellStore.state in
    let l = c.as_slice.ensures ∙ c.in_ok-left.ensures ∙ ap (λ z. indexes c.args.table.now 1 0 z) c.rights-own.ensures in
    let r = c.as_slice-2.ensures ∙ c.in_ok-right.ensures ∙ ap (λ z. indexes c.args.table.now 1 0 z) c.lefts-others.ensures in
    given_form (W c.args.work.now) (W c.make_of_terms.new.self) _ _ _ (omega arith) _ _ 0 0 _
    (negated_form _ _ _ c.requires.1.1.1.0 _ c.requires.1.1.1.1.0 _ c.requires.1.1.1.1.1 _ c.index.ensures _ _ l r
    (node_of_place _ _ _ c.requires.1.1.1.0 _ _ c.requires.1.1.1.1.0 c.index.ensures c.if-f.false)) c.make_of_terms.ensures
