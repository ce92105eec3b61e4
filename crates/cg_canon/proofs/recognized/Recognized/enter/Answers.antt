use Rattle.std.proofs.Common.{refl}
use Rattle.cg_canon.proofs.Recognizing.{recognized_marked}
use Rattle.cg_canon.proofs.recognized.Recognized.enter.Goals as goal

pub returns-in-Some : goal.returns-in-Some
returns-in-Some c gs k r =
    let t = c.args.self.now in
    c.keep.ensures gs (rw c.in-Some.is at k) (recognized_marked gs t (record t { marks = c.push-marked.new.self }) refl refl r)

pub returns-in_default : goal.returns-in_default
returns-in_default c gs k r =
    let t = c.args.self.now in
    recognized_marked gs t (record t { marks = c.push-marked.new.self }) refl refl r
