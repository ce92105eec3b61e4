use Rattle.cg_form.proofs.Numbers.{le-numbers, numbers-le}
use Rattle.cg_form.proofs.Order.{le-fold, le-unfold}
use Rattle.cg_form.proofs.Preorder.{not_le-left, not_le-right}
use Rattle.cg_form.proofs.Removed.{left_swapped, right_swapped}
use Rattle.cg_form.proofs.laws.order.Goals as goal

pub returns-clause-textbook : goal.returns-clause-textbook
returns-clause-textbook c = λ g h. (
  λ p. let f = le-unfold g h p in (f.on_left, f.on_right),
  λ q. le-fold g h (record { on_left = q.0; on_right = q.1 }),
)

pub returns-clause-left_option : goal.returns-clause-left_option
returns-clause-left_option c = not_le-left

pub returns-clause-right_option : goal.returns-clause-right_option
returns-clause-right_option c = not_le-right

pub returns-clause-numbers : goal.returns-clause-numbers
returns-clause-numbers c = λ x y. (le-numbers x y, numbers-le x y)

pub returns-clause-equal_left : goal.returns-clause-equal_left
returns-clause-equal_left c = left_swapped

pub returns-clause-equal_right : goal.returns-clause-equal_right
returns-clause-equal_right c = right_swapped
