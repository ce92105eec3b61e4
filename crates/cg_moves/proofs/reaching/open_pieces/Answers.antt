use Rattle.std.proofs.Common.{refl}
use Rattle.cg_moves.proofs.PlayLemmas.{piece_reach-all, piece_starts}
use Rattle.cg_moves.proofs.Carried.{reach-along}
use Rattle.cg_moves.proofs.Members.{carry}
use Rattle.cg_moves.proofs.reaching.open_pieces.Goals as goal

pub open_all-requires : goal.open_all-requires
open_all-requires g c κs within =
    let r = g.R.Rules.game c.args.rules.now in
    let lawful = c.lawful.ensures in (
      within,
      (
        refl,
        record {
          lawful = lawful;
          may = c.requires.cuts;
          starts = rw c.in_ok-starts.ensures (piece_starts r lawful (lawful.cut c.requires.cuts).each
              c.args.start.now c.requires.has);
          uncut = λ q m. (lawful.cut c.requires.cuts).each.uncut c.args.start.now q c.requires.has (carry q _ _ c.in_ok-starts.ensures m);
        },
      ),
    )

pub returns : goal.returns
returns g c =
    let lawful = c.lawful.ensures in
    let reach = reach-along c.open_all.result c.args.limit _ _ _ _ (piece_reach-all (g.R.Rules.game c.args.rules.now) lawful
    (lawful.cut c.requires.cuts).each c.args.start.now c.in_ok-starts.starts.items c.requires.has c.in_ok-starts.ensures)
    c.in_ok-starts.ensures c.open_all.ensures.boards c.open_all.ensures.starts c.open_all.ensures.within
    c.open_all.ensures.refused in
    record {
      boards = reach.boards;
      next = c.open_all.ensures.next;
      starts = reach.starts;
      within = reach.within;
      refused = reach.refused;
    }
