use Rattle.cg_names.proofs.Stars.{number_alone, number_behind}
use Rattle.cg_names.proofs.look_star.one_star.Goals as goal

pub returns-then-place-eq0 : goal.returns-then-place-eq0
returns-then-place-eq0 c gs l = number_alone c.args.x gs c.args.place l c.if-place-eq0.true

pub returns-else-place-eq0 : goal.returns-else-place-eq0
returns-else-place-eq0 c gs l = number_behind c.args.x gs c.args.place l c.if-place-eq0.false
