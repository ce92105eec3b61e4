use Rattle.std.proofs.lemmas.Option.{IfSome_then}
use Rattle.cg_canon.proofs.Recognizing.{sum_at}
use Rattle.cg_canon.proofs.work.Work.sum_by_parts.Goals as goal

pub returns : goal.returns
returns g c =
    IfSome_then c.game_with.result c.game_with.ensures (λ i k. sum_at c.args.self.now.arena c.args.a c.args.b i c.in_ok-first.first.now
    c.in_ok-second.second.now c.in_ok-both.both c.in_ok-first.ensures c.in_ok-second.ensures c.in_ok-both.ensures k)
