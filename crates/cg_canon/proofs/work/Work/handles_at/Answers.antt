use Rattle.cg_nodes.proofs.Later.{stand_later}
use Rattle.cg_arena.specs.Arena.{games_of}
use Rattle.cg_canon.specs.Works.{work_state}
use Rattle.cg_canon.proofs.work.Work.handles_at.Goals as goal

pub returns : goal.returns
returns g c =
    let W = g.S.CellStore.state in
    let w = c.args.self.now in
    let hs = c.put_handles.new.handles.items in
    stand_later (W w.store.now) (work_state W w) (λ i x e. e) hs (games_of w.arena c.args.games.now)
    (rw (← c.self.view_is) c.in_ok-put_handles.ensures.handles)
