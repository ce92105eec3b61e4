use Rattle.std.proofs.Common.{get_or, map}
use Rattle.cg_shared.specs.Passes.{pass_state}
use Rattle.cg_syntax.specs.SessionViews.{line_of}
use Rattle.cg_session.proofs.Knowing.{value_at, good_line, cache_on, cache_under}
use Rattle.cg_session.proofs.job.LineJobCachingJobGameFactsCgBoards.work.Goals as goal

pub answer_line-requires-clause-cache : goal.answer_line-requires-clause-cache
answer_line-requires-clause-cache c = cache_on (pass_state c.args.desk.now) c.args.cache.now c.requires.cache

pub returns-clause-good : goal.returns-clause-good
returns-clause-good c =
    let lines = c.args.self.now.lines.now in
    good_line (pass_state c.answer_line.new.store) c.args.self.now.share c.args.self.now.positions
    (line_of (get_or lines c.args.index c.index-self-index.result)) c.answer_line.result c.answer_line.ensures.reply c.answer_line.ensures.handle
    (map line_of lines) c.args.index (value_at line_of lines c.args.index c.index-self-index.result c.requires.index)

pub returns-clause-cache : goal.returns-clause-cache
returns-clause-cache c =
    cache_under (pass_state c.answer_line.new.store) c.answer_line.new.cache c.answer_line.result c.answer_line.ensures.cache
