use Rattle.std.proofs.Common.{refl}
use Rattle.cg_nodes.proofs.Later.{are_games_later}
use Rattle.cg_canon.specs.Works.{work_state}
use Rattle.cg_canon.proofs.Paying.{paid_holds, paid_item}
use Rattle.cg_canon.proofs.work.Work.make_value.Goals as goal

pub make_canonical-requires-clause-lefts : goal.make_canonical-requires-clause-lefts
make_canonical-requires-clause-lefts g c =
    let W = work_state g.S.CellStore.state c.args.self.now in
    rw (← c.self.view_is) at (are_games_later W (g.S.CellStore.state c.args.self.now.store.now) (λ i x e. e) c.args.lefts.now c.requires.lefts)

pub make_canonical-requires-clause-rights : goal.make_canonical-requires-clause-rights
make_canonical-requires-clause-rights g c =
    let W = work_state g.S.CellStore.state c.args.self.now in
    rw (← c.self.view_is) at (are_games_later W (g.S.CellStore.state c.args.self.now.store.now) (λ i x e. e) c.args.rights.now c.requires.rights)

pub invariant_of-self : goal.invariant_of-self
invariant_of-self g c =
    paid_holds (g.S.CellStore.state c.self.inside.store.now) (g.S.CellStore.state c.make_canonical.new.store) c.self.inside.meter c.make_canonical.new.meter
    c.self.inside.start
    c.self.inside.cache (record { interner = c.make_canonical.new.interner; sums = c.self.inside.cache.memo.sums; places = c.self.inside.cache.memo.places }) _
    c.args.extra _ c.self.invariant
    c.make_canonical.ensures.paid c.make_canonical.ensures.holds refl

pub returns : goal.returns
returns g c =
    let W = g.S.CellStore.state in
    let store = record c.self.inside.store { now = c.make_canonical.new.store } in
    let meter = c.make_canonical.new.meter in
    let t = work_state W (record {
      store = store;
      spent = meter.spent;
      share = meter.share;
      start = c.self.inside.start;
      limit = c.self.inside.limit;
      arena = c.make_canonical.new.interner.arena;
    }) in
    rw (← c.self.view_is) (paid_item W c.self.inside.store store c.self.inside.meter meter c.self.inside.start c.self.inside.limit
    c.self.inside.cache.memo.interner.arena c.make_canonical.new.interner.arena _ c.args.extra _
    c.make_canonical.ensures.paid.given refl c.self.invariant.0.enough)
