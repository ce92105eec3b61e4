use Rattle.std.proofs.Common.{ap, sym, ◌∙◌}
use Rattle.cg_canon.specs.declared.rest.WorkRest.{WorkRest}
use Rattle.cg_names.proofs.Returned.{spends_over}
use Rattle.cg_names.proofs.naming.name.Goals as goal

-- the work borrows the store to the end, so what the store is then is what the work had
pub returns-clause-spends : goal.returns-clause-spends
returns-clause-spends g c =
    let spends = c.named-text.ensures.spends in
    let n = sym c.new-work.ensures.same_reference
    ∙ (sym (ap (λ (r : WorkRest _). r.name) spends.rest) ∙ sym c.into_store-store.ensures.same_reference) in
    spends_over g.S.CellStore.state c.new-work.result c.named-text.new.work c.args.store.now c.store-1.given.0
    c.new-work.ensures.store (c.store-1.given.1 n ∙ c.into_store-store.ensures.value) c.new-work.ensures.spent
    c.new-work.ensures.start c.into_store-store.ensures.enough spends
