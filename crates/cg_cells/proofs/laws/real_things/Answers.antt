use Rattle.cg_cells.specs.Meaning.{level}
use Rattle.cg_cells.proofs.Levels.{stands_spells}
use Rattle.cg_cells.proofs.Finite.{finite}
use Rattle.cg_cells.proofs.laws.real_things.Goals as goal

pub returns : goal.returns
returns g c = λ o t real e.
    let r = real t e in
    let s = stands_spells g.F.Facts.meaning g.met.F.Facts.lawful r.0 r.1 t r.2 in
    let f = finite g.F.Facts.meaning g.met.F.Facts.lawful (r.0 r.1) (level g.F.Facts.meaning r.0 s.0) t s.1 in
    (r.0 r.1, f.known, f.spells)
