use Rattle.std.proofs.Common.{rules, inl}
use Rattle.cg_thread_rows.proofs.Handles.{whole_games}
use Rattle.cg_thread_rows.proofs.sessions.kept_of.Goals as goal

pub returns-clause-games : goal.returns-clause-games
returns-clause-games g c =
    whole_games (λ k. k.answers.items) (λ k. k.cells) (λ k. k.pass) _ _ c.run-status.new.kept
    (c.run-status.ensures.kept (inl (search (rules, c.if-ne.ensures))))
