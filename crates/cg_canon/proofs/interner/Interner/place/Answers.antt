use Rattle.std.proofs.Common.{◌∙◌, arith, rules}
use Rattle.cg_canon.proofs.InternerHandles.{by_id_are, place_found, place_none}
use Rattle.cg_canon.proofs.interner.Interner.place.Goals as goal

pub returns-then-self-clause-found : goal.returns-then-self-clause-found
returns-then-self-clause-found c =
    let b = c.args.self.now in
    place_found b.handles.items b.by_id c.args.handle c.number-number.result
    (by_id_are b.handles.items b.by_id b.is_complete c.requires c.if-self.true) (c.number-number.ensures.value ∙ c.id.ensures) c.find.result
    c.find.ensures.inside c.find.ensures.numbered

pub returns-then-self-clause-none : goal.returns-then-self-clause-none
returns-then-self-clause-none c =
    let b = c.args.self.now in
    place_none b.handles.items b.by_id c.args.handle c.number-number.result
    (by_id_are b.handles.items b.by_id b.is_complete c.requires c.if-self.true) (c.number-number.ensures.value ∙ c.id.ensures) _ c.find.result
    c.find.ensures.none (λ n f. search rules) (omega (arith, c.number-number.ensures.small, c.number-number.ensures.value, c.id.ensures))
