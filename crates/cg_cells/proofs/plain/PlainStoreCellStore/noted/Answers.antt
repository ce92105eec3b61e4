use Rattle.std.proofs.Common.{◌<◌, length, rules, refl}
use Rattle.cg_cells.proofs.Calls.{in_values, none_read, some_read, value_small, value_known}
use Rattle.cg_cells.proofs.plain.PlainStoreCellStore.noted.Goals as goal

pub index-word-requires : goal.index-word-requires
index-word-requires g c =
    let below : c.number-at.result < length c.self.inside.values.items = in_values g.F.Facts.meaning g.met.F.Facts.lawful _ _ c.self.view_is c.self.invariant.store c.args.id c.number-at.result c.number-at.ensures.value c.requires in
    search rules

pub new-requires : goal.new-requires
new-requires g c = value_small g.F.Facts.meaning g.met.F.Facts.lawful _ _ c.self.view_is c.self.invariant.store c.args.id c.number-at.result c.number-at.ensures.value c.requires _ c.index-word.ensures c.if-word-eq0.false

pub returns-then-word-eq0-clause-exact : goal.returns-then-word-eq0-clause-exact
returns-then-word-eq0-clause-exact g c = (λ h. absurd (search (rules, h)), λ h. absurd (none_read g.F.Facts.meaning g.met.F.Facts.lawful _ _ c.self.view_is c.self.invariant.store c.args.id c.number-at.result c.number-at.ensures.value c.requires _ c.index-word.ensures c.if-word-eq0.true h))

pub returns-then-word-eq0-clause-none : goal.returns-then-word-eq0-clause-none
returns-then-word-eq0-clause-none g c = none_read g.F.Facts.meaning g.met.F.Facts.lawful _ _ c.self.view_is c.self.invariant.store c.args.id c.number-at.result c.number-at.ensures.value c.requires _ c.index-word.ensures c.if-word-eq0.true

pub returns-clause-exact : goal.returns-clause-exact
returns-clause-exact g c = (λ h. (some_read g.F.Facts.meaning g.met.F.Facts.lawful _ _ c.self.view_is c.self.invariant.store c.args.id c.number-at.result c.number-at.ensures.value c.requires _ c.index-word.ensures c.if-word-eq0.false).noted, λ h. refl)

pub returns-clause-value : goal.returns-clause-value
returns-clause-value g c = value_known g.F.Facts.meaning g.met.F.Facts.lawful _ _ c.self.view_is c.self.invariant.store c.args.id c.number-at.result c.number-at.ensures.value c.requires _ c.new.result c.index-word.ensures c.if-word-eq0.false c.new.ensures

pub returns-clause-some : goal.returns-clause-some
returns-clause-some g c = (some_read g.F.Facts.meaning g.met.F.Facts.lawful _ _ c.self.view_is c.self.invariant.store c.args.id c.number-at.result c.number-at.ensures.value c.requires _ c.index-word.ensures c.if-word-eq0.false).noted
