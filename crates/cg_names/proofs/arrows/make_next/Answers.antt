use Rattle.std.proofs.Common.{sym, ◌∙◌, suc}
use Rattle.cg_canon.specs.Works.{work_state}
use Rattle.cg_names.proofs.UpForms.{ups-canonical}
use Rattle.cg_names.proofs.UpSteps.{one_made, two_made}
use Rattle.cg_names.proofs.arrows.make_next.Goals as goal

pub make-requires-clause-canonical : goal.make-requires-clause-canonical
make-requires-clause-canonical g c =
    rw (two_made (work_state g.S.CellStore.state c.args.work.now) c.args.down c.args.starred c.args.level c.args.zero c.args.last c.requires.zero
    c.requires.last (sym c.has_two.ensures ∙ c.if-has_two.true))
    (ups-canonical c.args.down c.args.starred (suc c.args.level))

pub make-requires-else-has_two-clause-canonical : goal.make-requires-else-has_two-clause-canonical
make-requires-else-has_two-clause-canonical g c =
    rw (one_made (work_state g.S.CellStore.state c.args.work.now) c.args.down c.args.starred c.args.level c.args.zero c.args.last c.requires.zero
    c.requires.last (sym c.has_two.ensures ∙ c.if-has_two.false))
    (ups-canonical c.args.down c.args.starred (suc c.args.level))

pub returns-then-has_two : goal.returns-then-has_two
returns-then-has_two g c =
    c.make.ensures _ (two_made (work_state g.S.CellStore.state c.args.work.now) c.args.down c.args.starred c.args.level
    c.args.zero c.args.last c.requires.zero c.requires.last (sym c.has_two.ensures ∙ c.if-has_two.true))

pub returns-else-has_two : goal.returns-else-has_two
returns-else-has_two g c =
    c.make-else-has_two.ensures _ (one_made (work_state g.S.CellStore.state c.args.work.now) c.args.down c.args.starred
    c.args.level c.args.zero c.args.last c.requires.zero c.requires.last (sym c.has_two.ensures ∙ c.if-has_two.false))
