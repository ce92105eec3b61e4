use Rattle.std.proofs.Common.{sym, ◌∙◌}
use Rattle.cg_dyadic.specs.Number.{number_le}
use Rattle.cg_dyadic.proofs.Truth.{differ, true_not}
use Rattle.cg_names.specs.Named.{zero_number}
use Rattle.cg_names.proofs.Ends.{switch-found, switch-none}
use Rattle.cg_names.proofs.look_pairs.named_switch.Goals as goal
use Rattle.cg_names.proofs.look_pairs.named_switch.Goals.{else-is_positive-via-then-is_positive+else-is_same, else-is_positive-via-else-is_positive}

pub returns-then-is_same-clause-named_form : goal.returns-then-is_same-clause-named_form
returns-then-is_same-clause-named_form c i =
    switch-found c.args.x c.args.y (sym c.is_positive.ensures ∙ c.if-is_positive.true)
    (c.is_same.ensures.same c.if-is_same.true ∙ c.opposite.ensures)

pub returns-else-is_positive-clause-named_form : goal.returns-else-is_positive-clause-named_form
returns-else-is_positive-clause-named_form c i = switch-none c.args.x c.args.y i (λ p e. elim c.else-is_positive.branch [
  | else-is_positive-via-then-is_positive+else-is_same w ↦
      w.is_same.ensures.other w.if-is_same.false (e ∙ sym w.opposite.ensures)
  | else-is_positive-via-else-is_positive w ↦ differ c.is_positive.result
      (c.is_positive.ensures ∙ true_not (number_le c.args.x zero_number) p) w.if-is_positive.false
])
