use Rattle.cg_arena.specs.Arena.{games_of}
use Rattle.cg_arena.proofs.LeaderSteps.{nothing_case, number_case}
use Rattle.cg_arena.proofs.canonicalizing.canonicalize.Goals as goal

pub summary_between-summary-requires-clause-no_number : goal.summary_between-summary-requires-clause-no_number
summary_between-summary-requires-clause-no_number c =
    nothing_case (games_of c.args.arena.now c.args.lefts.now) (games_of c.args.arena.now c.args.rights.now) c.cut_of-low.result c.cut_of-high.result
    c.cut_of-low.ensures c.cut_of-high.ensures c.in-Nothing.ensures

pub form_of-requires-clause-no_number : goal.form_of-requires-clause-no_number
form_of-requires-clause-no_number c =
    nothing_case (games_of c.args.arena.now c.args.lefts.now) (games_of c.args.arena.now c.args.rights.now) c.cut_of-low.result c.cut_of-high.result
    c.cut_of-low.ensures c.cut_of-high.ensures c.in-Nothing.ensures

pub form_of-requires-clause-cuts : goal.form_of-requires-clause-cuts
form_of-requires-clause-cuts c = c.summary_between-summary.ensures.cuts

pub returns-in-Number-clause-canonicalized : goal.returns-in-Number-clause-canonicalized
returns-in-Number-clause-canonicalized c =
    number_case (games_of c.args.arena.now c.args.lefts.now) (games_of c.args.arena.now c.args.rights.now) c.cut_of-low.result c.cut_of-high.result
    c.in-Number.x c.cut_of-low.ensures c.cut_of-high.ensures c.in-Number.ensures.0

pub returns-in-Outside-clause-canonicalized : goal.returns-in-Outside-clause-canonicalized
returns-in-Outside-clause-canonicalized c form f =
    let o = c.in-Outside.ensures in
    record {
      x = o.0;
      is = number_case (games_of c.args.arena.now c.args.lefts.now) (games_of c.args.arena.now c.args.rights.now) c.cut_of-low.result c.cut_of-high.result
          o.0 c.cut_of-low.ensures c.cut_of-high.ensures o.2 form f;
      outside = o.3;
    }
