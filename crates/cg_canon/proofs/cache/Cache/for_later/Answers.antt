use Rattle.cg_canon.specs.Cache.{knowing}
use Rattle.cg_canon.proofs.InternerSteps.{holds_answers}
use Rattle.cg_canon.proofs.cache.Cache.for_later.Goals as goal

pub returns : goal.returns
returns c known h = record {
  interner = holds_answers (knowing known) c.args.self.memo.interner c.make_ready.new.self h.interner (λ x k. h.interner.right x (c.make_ready.ensures x k));
  sums = h.sums;
  forms = h.forms;
}
