use Rattle.std.proofs.Common.{refl, sym, ◌∙◌}
use Rattle.cg_cert.proofs.Choosing.{searched_all, searched_found, searched_more, searched_none}
use Rattle.cg_cert.proofs.choice.first_choice.Goals as goal

pub loop-option-init : goal.loop-option-init
loop-option-init g c =
    (refl, rw c.as_slice-rest.ensures.value (searched_none _ _ _ _ c.in_ok-all.ensures.0 c.in_ok-all.ensures.1))

pub no_better-requires-clause-a : goal.no_better-requires-clause-a
no_better-requires-clause-a g c = rw c.loop-option.invariant.0 c.requires.other

pub no_better-requires-clause-b : goal.no_better-requires-clause-b
no_better-requires-clause-b g c =
    rw c.loop-option.invariant.0 ((rw c.in-Some.ensures.cases.0 at c.loop-option.invariant.1.are).0)

pub loop-option-preserved : goal.loop-option-preserved
loop-option-preserved g c = (
  c.no_better.ensures.same ∙ c.loop-option.invariant.0,
  searched_more _ _ _ _ c.in-Some.others.now c.in-Some.option.now _ _
      (rw c.in-Some.ensures.cases.0 at c.loop-option.invariant.1)
      (sym (rw c.loop-option.invariant.0 at c.in_ok-no_better.ensures.order) ∙ c.if-branch.false),
)

pub returns-then-branch-clause-choice : goal.returns-then-branch-clause-choice
returns-then-branch-clause-choice g c =
    searched_found _ _ _ _ c.in-Some.others.now c.in-Some.option.now _ _
    (rw c.in-Some.ensures.cases.0 at c.loop-option.invariant.1)
    (sym (rw c.loop-option.invariant.0 at c.in_ok-no_better.ensures.order) ∙ c.if-branch.true)

pub returns-clause-choice : goal.returns-clause-choice
returns-clause-choice g c = searched_all _ _ _ _ _ _ _ c.loop-option.invariant.1 c.in_default.ensures.cases
