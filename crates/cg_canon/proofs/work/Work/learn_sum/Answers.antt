use Rattle.cg_arena.specs.Arena.{game_of}
use Rattle.cg_canon.proofs.Recognizing.{at_equal, at_turned, third_equal}
use Rattle.cg_canon.proofs.work.Work.learn_sum.Goals as goal

pub learn-requires-clause-equal : goal.learn-requires-clause-equal
learn-requires-clause-equal g c =
    third_equal c.args.self.now.arena c.args.a c.args.b c.args.sum c.in-Some-Some.first.now c.in-Some-Some.second.now c.in-Some.both
    c.in-Some-Some.ensures c.in-Some-Some.ensures' c.in-Some.ensures c.requires.sum

pub learn_other-requires-clause-sum : goal.learn_other-requires-clause-sum
learn_other-requires-clause-sum g c =
    let A = c.args.self.now.arena in at_turned A c.args.sum (game_of A c.args.a) (game_of A c.args.b) c.requires.sum

pub learn_other-requires-in-None-Some-clause-sum : goal.learn_other-requires-in-None-Some-clause-sum
learn_other-requires-in-None-Some-clause-sum g c =
    let A = c.args.self.now.arena in at_equal A c.args.sum (game_of A c.args.a) (game_of A c.args.b) c.requires.sum
