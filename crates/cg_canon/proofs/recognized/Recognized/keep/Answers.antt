use Rattle.std.proofs.Common.{is_ok}
use Rattle.cg_canon.specs.Recognized.{known_at}
use Rattle.cg_canon.proofs.Recognizing.{pushed, recognized_kept, recognized_nimbers}
use Rattle.cg_canon.proofs.recognized.Recognized.keep.Goals as goal

pub returns-then-is_err : goal.returns-then-is_err
returns-then-is_err c gs k r =
    let t = c.args.self.now in
    recognized_kept gs t (record t { games = c.push.new.self }) c.args.game c.args.parts k
    (pushed (is_ok c.push.result) c.push.new.self.items t.games.items (known_at c.args.game c.args.parts) c.push.ensures.items)
    (recognized_nimbers gs t r) r

pub returns : goal.returns
returns c gs k r =
    let t = c.args.self.now in
    recognized_kept gs t (record { games = c.push.new.self; marks = _; by_parts = c.add.new.self; nimbers = c.keep_nimber.new.nimbers }) c.args.game
    c.args.parts k
    (pushed (is_ok c.push.result) c.push.new.self.items t.games.items (known_at c.args.game c.args.parts) c.push.ensures.items)
    (c.keep_nimber.ensures gs k (recognized_nimbers gs t r)) r
