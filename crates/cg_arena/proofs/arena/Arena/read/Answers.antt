use Rattle.std.proofs.Common.{ap, arith, length, ◌∙◌}
use Rattle.std.specs.List.{slice_range}
use Rattle.cg_arena.proofs.Interning.{both_say, counted, entry_says, found_at, says_game, says_number}
use Rattle.cg_arena.proofs.arena.Arena.read.Goals as goal

pub index-found-requires : goal.index-found-requires
index-found-requires c =
    let n = counted c.self.inside c.args.self.now c.self.invariant c.self.view_is in
    let r = c.requires in
    omega arith

pub index-requires : goal.index-requires
index-requires c =
    let n = counted c.self.inside c.args.self.now c.self.invariant c.self.view_is in
    let o = c.self.invariant.one_each in
    let r = c.requires in
    omega arith

pub returns-then-found-clause-read : goal.returns-then-found-clause-read
returns-then-found-clause-read c =
    says_number c.self.inside.options.items c.args.self.now c.index-found.result.now c.index.result.now _
    (both_say c.self.inside c.args.self.now c.self.invariant c.self.view_is
    c.args.game c.index-found.result.now c.index.result.now c.requires
    (found_at c.self.inside.entries.items _ c.args.game _ c.index-found.ensures c.place-at.ensures.place)
    (found_at c.self.inside.summaries.items _ c.args.game _ c.index.ensures c.place-at.ensures.place)) c.if-found.true

pub returns-then-found-clause-canonical : goal.returns-then-found-clause-canonical
returns-then-found-clause-canonical c =
    (both_say c.self.inside c.args.self.now c.self.invariant c.self.view_is
    c.args.game c.index-found.result.now c.index.result.now c.requires
    (found_at c.self.inside.entries.items _ c.args.game _ c.index-found.ensures c.place-at.ensures.place)
    (found_at c.self.inside.summaries.items _ c.args.game _ c.index.ensures c.place-at.ensures.place)).canonical

pub part-lefts-requires : goal.part-lefts-requires
part-lefts-requires c =
    let f = entry_says c.self.inside c.args.self.now c.self.invariant c.self.view_is
    c.args.game c.index-found.result.now c.requires
    (found_at c.self.inside.entries.items _ c.args.game _ c.index-found.ensures c.place-at.ensures.place) in
    let a = f.1.second in
    let b = f.1.end in
    let n = ap length c.deref.ensures.value in
    record { from = f.1.first; to = omega arith }

pub part-rights-requires : goal.part-rights-requires
part-rights-requires c =
    let f = entry_says c.self.inside c.args.self.now c.self.invariant c.self.view_is
    c.args.game c.index-found.result.now c.requires
    (found_at c.self.inside.entries.items _ c.args.game _ c.index-found.ensures c.place-at.ensures.place) in
    let b = f.1.end in
    let n = ap length c.deref-2.ensures.value in
    record { from = f.1.second; to = omega arith }

pub returns-clause-read : goal.returns-clause-read
returns-clause-read c =
    let f = entry_says c.self.inside c.args.self.now c.self.invariant c.self.view_is
    c.args.game c.index-found.result.now c.requires
    (found_at c.self.inside.entries.items _ c.args.game _ c.index-found.ensures c.place-at.ensures.place) in
    says_game c.self.inside.options.items c.args.self.now c.index-found.result.now f.0 _ c.part-lefts.result.now c.part-rights.result.now f.1 c.if-found.false
    (c.part-lefts.ensures ∙ ap (λ z. slice_range z c.index-found.result.now.lefts c.index-found.result.now.rights) c.deref.ensures.value)
    (c.part-rights.ensures ∙ ap (λ z. slice_range z c.index-found.result.now.rights c.index-found.result.now.end) c.deref-2.ensures.value)

pub returns-clause-canonical : goal.returns-clause-canonical
returns-clause-canonical c =
    let f = entry_says c.self.inside c.args.self.now c.self.invariant c.self.view_is
    c.args.game c.index-found.result.now c.requires
    (found_at c.self.inside.entries.items _ c.args.game _ c.index-found.ensures c.place-at.ensures.place) in
    f.1.canonical
