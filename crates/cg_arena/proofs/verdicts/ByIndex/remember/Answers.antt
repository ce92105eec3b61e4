use Rattle.std.proofs.Common.{refl}
use Rattle.cg_arena.proofs.Noting.{answer_more}
use Rattle.cg_arena.proofs.verdicts.ByIndex.remember.Goals as goal

pub returns-in_ok-push : goal.returns-in_ok-push
returns-in_ok-push c =
    answer_more c.args.self.now (record { few = c.push.new.self; more = c.args.self.now.more }) c.args.a c.args.answer
    c.in_ok-push.ensures.ok refl
