use Rattle.std.proofs.Common.{Option, subst}
use Rattle.std.specs.Prelude.{IsSome}
use Rattle.cg_dyadic.specs.declared.cut.Cut.{Cut}
use Rattle.cg_arena.specs.Arena.{games_of}
use Rattle.cg_arena.proofs.Profiling.{cuts_between, two_cuts}
use Rattle.cg_arena.proofs.summarizing.summary_between.Goals as goal

abbrev IsSomeCut : Option Cut → Type 0
IsSomeCut z = IsSome z

pub summary_with-requires-clause-low : goal.summary_with-requires-clause-low
summary_with-requires-clause-low c =
    (cuts_between (games_of c.args.arena.now c.args.lefts.now) (games_of c.args.arena.now c.args.rights.now) c.args.low.now c.args.high.now
    c.in-Some.lower c.in-Some-high.upper c.turned-above.result c.turned-below.result c.in-Some.is c.in-Some-high.is
    c.turned-above.ensures c.turned-below.ensures c.requires.no_number c.requires.low c.requires.high).0

pub summary_with-requires-clause-high : goal.summary_with-requires-clause-high
summary_with-requires-clause-high c =
    (cuts_between (games_of c.args.arena.now c.args.lefts.now) (games_of c.args.arena.now c.args.rights.now) c.args.low.now c.args.high.now
    c.in-Some.lower c.in-Some-high.upper c.turned-above.result c.turned-below.result c.in-Some.is c.in-Some-high.is
    c.turned-above.ensures c.turned-below.ensures c.requires.no_number c.requires.low c.requires.high).1

pub unreachable-requires : goal.unreachable-requires
unreachable-requires c =
    let some = subst IsSomeCut c.in_default.is (two_cuts (games_of c.args.arena.now c.args.lefts.now) (games_of c.args.arena.now c.args.rights.now)
    c.args.low.now c.args.high.now c.requires.no_number c.requires.low c.requires.high).low in cc

pub unreachable-requires-in_default-high : goal.unreachable-requires-in_default-high
unreachable-requires-in_default-high c =
    let some = subst IsSomeCut c.in_default-high.is (two_cuts (games_of c.args.arena.now c.args.lefts.now) (games_of c.args.arena.now c.args.rights.now)
    c.args.low.now c.args.high.now c.requires.no_number c.requires.low c.requires.high).high in cc
