use Rattle.std.proofs.Common.{refl}
use Rattle.cg_moves.proofs.PlayLemmas.{one_start, reach-kept_all}
use Rattle.cg_moves.proofs.Carried.{reach-along}
use Rattle.cg_moves.proofs.reaching.open.Goals as goal

pub open_all-requires : goal.open_all-requires
open_all-requires g c κs within = (
  within,
  (
    refl,
    record {
      lawful = c.lawful.ensures;
      may = tt;
      starts = one_start (g.R.Rules.game c.args.rules.now) c.lawful.ensures
          c.args.start.now c.in_ok-starts.starts.items c.requires c.in_ok-starts.ensures;
      uncut = λ q m. refl;
    },
  ),
)

pub returns : goal.returns
returns g c =
    let reach = reach-along c.open_all.result c.args.limit _ _ _ _ (reach-kept_all (g.R.Rules.game c.args.rules.now)
    c.lawful.ensures c.args.start.now c.in_ok-starts.starts.items c.in_ok-starts.ensures)
    c.in_ok-starts.ensures c.open_all.ensures.boards c.open_all.ensures.starts c.open_all.ensures.within
    c.open_all.ensures.refused in
    record {
      boards = reach.boards;
      next = c.open_all.ensures.next;
      starts = reach.starts;
      within = reach.within;
      refused = reach.refused;
    }
