use Rattle.std.proofs.Common.{refl}
use Rattle.cg_names.proofs.Looks.{level_told, no_arrows_told, star_count}
use Rattle.cg_names.proofs.look_arrows.level_at.Goals as goal

pub returns-then-count-eq1-clause-arrows : goal.returns-then-count-eq1-clause-arrows
returns-then-count-eq1-clause-arrows c down g i e = level_told down g _ i e c.args.x c.args.count refl c.if-count-eq1.true

pub returns-else-count-eq1-clause-arrows : goal.returns-else-count-eq1-clause-arrows
returns-else-count-eq1-clause-arrows c down g i e =
    no_arrows_told down g _ i e (λ x f. c.if-count-eq1.false (star_count _ x _ 1 f)) (λ starred x n f. cc)
