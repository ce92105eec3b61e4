use Rattle.cg_canon.proofs.Recognizing.{other_equal}
use Rattle.cg_canon.proofs.work.Work.learn_other.Goals as goal

pub learn-requires-clause-equal : goal.learn-requires-clause-equal
learn-requires-clause-equal g c =
    other_equal c.args.self.now.arena c.args.a c.args.b c.args.sum c.in-Some-less.own c.args.one c.in-Some.both.now c.requires.b
    c.in-Some.ensures c.in-Some-less.ensures c.requires.sum
