use Rattle.std.proofs.Common.{◌<◌, length, ap, ◌∙◌, subst, rules}
use Rattle.std.specs.FinMap as map
use Rattle.cg_cells.specs.Parts.{names_of}
use Rattle.cg_cells.specs.Meaning.{Has}
use Rattle.cg_cells.specs.Words.{things_of}
use Rattle.cg_cells.proofs.Plains.{look_spells, look_named}
use Rattle.cg_cells.proofs.Calls.{seen, in_keys, key_read, key_there}
use Rattle.cg_cells.proofs.plain.PlainStoreCellStore.look.Goals as goal

pub index-requires : goal.index-requires
index-requires g c =
    let below : c.number-at.result < length c.self.inside.keys.items = in_keys g.F.Facts.meaning g.met.F.Facts.lawful _ _ c.self.view_is c.self.invariant.store c.args.id c.number-at.result c.number-at.ensures.value c.requires in
    search rules

pub unreachable-requires : goal.unreachable-requires
unreachable-requires g c =
    let none = c.from_word.ensures.none.0 c.in_default.is in
    key_there g.F.Facts.meaning g.met.F.Facts.lawful _ _ c.self.view_is c.self.invariant.store c.args.id c.number-at.result c.number-at.ensures.value c.requires _ c.index.ensures none

pub returns-clause-key : goal.returns-clause-key
returns-clause-key g c = c.in-Some.ensures.some ∙ key_read g.F.Facts.meaning g.met.F.Facts.lawful _ _ c.self.view_is c.self.invariant.store c.args.id c.number-at.result c.number-at.ensures.value c.requires _ c.index.ensures

pub returns-clause-spells : goal.returns-clause-spells
returns-clause-spells g c =
    let key = c.in-Some.ensures.some ∙ key_read g.F.Facts.meaning g.met.F.Facts.lawful _ _ c.self.view_is c.self.invariant.store c.args.id c.number-at.result c.number-at.ensures.value c.requires _ c.index.ensures in
    ap (λ k. g.F.Facts.meaning.spells k (map.get (things_of g.F.Facts.meaning c.args.self.now.keys))) key
    ∙ look_spells g.F.Facts.meaning g.met.F.Facts.lawful c.args.self.now (seen g.F.Facts.meaning g.met.F.Facts.lawful _ _ c.self.view_is c.self.invariant.store) c.args.id c.requires

pub returns-clause-named : goal.returns-clause-named
returns-clause-named g c = λ i h.
    let key = c.in-Some.ensures.some ∙ key_read g.F.Facts.meaning g.met.F.Facts.lawful _ _ c.self.view_is c.self.invariant.store c.args.id c.number-at.result c.number-at.ensures.value c.requires _ c.index.ensures in
    look_named g.F.Facts.meaning g.met.F.Facts.lawful c.args.self.now (seen g.F.Facts.meaning g.met.F.Facts.lawful _ _ c.self.view_is c.self.invariant.store) c.args.id c.requires i (subst (λ k. Has (names_of k) i) key h)
