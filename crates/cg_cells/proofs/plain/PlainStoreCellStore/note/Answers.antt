use Rattle.std.proofs.Common.{◌<◌, length, rules}
use Rattle.cg_cells.proofs.Calls.{in_values, noted_store, noted_there, noted_spends}
use Rattle.cg_cells.proofs.plain.PlainStoreCellStore.note.Goals as goal

pub index_mut-requires : goal.index_mut-requires
index_mut-requires g c =
    let below : c.number-at.result < length c.self.inside.values.items = in_values g.F.Facts.meaning g.met.F.Facts.lawful _ _ c.self.view_is c.self.invariant.store c.args.id c.number-at.result c.number-at.ensures.value c.requires.id in
    search rules

pub invariant_of-self : goal.invariant_of-self
invariant_of-self g c = record { store = noted_store g.F.Facts.meaning g.met.F.Facts.lawful _ _ c.self.view_is c.self.invariant.store c.args.id c.number-at.result c.number-at.ensures.value c.requires.id c.args.value c.number.result c.number.ensures.value c.requires.value c.requires.due; same_length = c.self.invariant.same_length; indexed = c.self.invariant.indexed; full = c.self.invariant.full }

pub returns-clause-noted : goal.returns-clause-noted
returns-clause-noted g c = noted_there g.F.Facts.meaning g.met.F.Facts.lawful _ _ c.self.view_is c.self.invariant.store c.args.id c.number-at.result c.number-at.ensures.value c.requires.id c.args.value c.number.result c.number.ensures.value c.requires.value c.requires.due

pub returns-clause-spends : goal.returns-clause-spends
returns-clause-spends g c = noted_spends g.F.Facts.meaning g.met.F.Facts.lawful _ _ c.self.view_is c.self.invariant.store c.args.id c.number-at.result c.number-at.ensures.value c.requires.id c.args.value c.number.result c.number.ensures.value c.requires.value c.requires.due
