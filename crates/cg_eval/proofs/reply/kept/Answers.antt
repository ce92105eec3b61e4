use Rattle.cg_eval.proofs.reply.kept.Goals as goal

pub returns-then-is_large : goal.returns-then-is_large
returns-then-is_large c known h = c.new.ensures.holds known
