use Rattle.std.proofs.Common.{◌∙◌, sym}
use Rattle.std.proofs.lemmas.Option.{none-some}
use Rattle.cg_cells.proofs.Layouts.{parts_read, parts_word}
use Rattle.cg_cells.proofs.Notes.{some_is}
use Rattle.cg_cells.proofs.key.Key.parts.Goals as goal

pub unreachable-requires : goal.unreachable-requires
unreachable-requires c =
    let s = some_is _ c.requires in
    none-some s.0 (sym (parts_read _ _ _ _ c.self.view_is c.requires c.candidate.ensures c.in_default.is) ∙ s.1)

pub returns-clause-parts : goal.returns-clause-parts
returns-clause-parts c = parts_read _ _ _ _ c.self.view_is c.requires c.candidate.ensures c.in-Some.is

pub returns-clause-fit : goal.returns-clause-fit
returns-clause-fit c =
    let p = parts_word _ _ (parts_read _ _ _ _ c.self.view_is c.requires c.candidate.ensures c.in-Some.is) in
    (p.fields, p.types, p.word)
