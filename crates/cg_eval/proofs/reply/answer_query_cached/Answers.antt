use Rattle.std.proofs.Common.{◌≡◌, arith, ap, sym, ◌∙◌, subst}
use Rattle.cg_canon.specs.Cache.{CacheHolds, knowing}
use Rattle.cg_canon.specs.Works.{WorkOf, work_state}
use Rattle.cg_canon.proofs.Holding.{cache_later}
use Rattle.cg_query.specs.Trees.{question_of}
use Rattle.cg_eval.specs.declared.answered.Answered.{Answered}
use Rattle.cg_eval.specs.Shown.{IsAnswered}
use Rattle.cg_eval.proofs.Replies.{answered-store, if_ok_map, keeps-store}
use Rattle.cg_eval.proofs.reply.answer_query_cached.Goals as goal

-- the work borrows the store to the end, so what the store is then is what the work had
pub returns-clause-reply : goal.returns-clause-reply
returns-clause-reply g c =
    let taken = c.take_cache.ensures.same in
    let n = sym c.resume-work.ensures.same_reference ∙ (sym c.reply_on-replied.ensures.keeps.name
    ∙ (sym (ap (λ (w : WorkOf _). w.store.ghost_name) taken) ∙ sym c.into_store-store.ensures.same_reference)) in
    let e = c.store-1.given.1 n ∙ c.into_store-store.ensures.value ∙ ap (λ (w : WorkOf _). w.store.now) taken in
    let state = g.S.CellStore.state in
    let w = c.reply_on-replied.new.work in
    if_ok_map (λ (a : Answered). IsAnswered c.resume-work.result.share c.resume-work.result.limit (work_state state w)
    (question_of c.args.query.now) a)
    (λ (a : Answered). IsAnswered c.args.share c.args.positions (state c.store-1.given.0)
    (question_of c.args.query.now) a) c.reply_on-replied.result
    (λ a h. answered-store state w c.store-1.given.0
    (question_of c.args.query.now) a c.args.share c.args.positions c.resume-work.result.share c.resume-work.result.limit
    e c.resume-work.ensures.share c.resume-work.ensures.limit h) c.reply_on-replied.ensures.reply

pub returns-clause-keeps : goal.returns-clause-keeps
returns-clause-keeps g c =
    let taken = c.take_cache.ensures.same in
    let n = sym c.resume-work.ensures.same_reference ∙ (sym c.reply_on-replied.ensures.keeps.name
    ∙ (sym (ap (λ (w : WorkOf _). w.store.ghost_name) taken) ∙ sym c.into_store-store.ensures.same_reference)) in
    let e = c.store-1.given.1 n ∙ c.into_store-store.ensures.value ∙ ap (λ (w : WorkOf _). w.store.now) taken in
    keeps-store g.S.CellStore.state c.resume-work.result c.reply_on-replied.new.work c.args.store.now c.store-1.given.0
    c.resume-work.ensures.store e
    c.reply_on-replied.ensures.keeps

pub returns-clause-spare : goal.returns-clause-spare
returns-clause-spare g c =
    let taken = c.take_cache.ensures.same in
    let n = sym c.resume-work.ensures.same_reference ∙ (sym c.reply_on-replied.ensures.keeps.name
    ∙ (sym (ap (λ (w : WorkOf _). w.store.ghost_name) taken) ∙ sym c.into_store-store.ensures.same_reference)) in
    let s = ap (λ x. (g.S.CellStore.state x).spare) (c.store-1.given.1 n ∙ c.into_store-store.ensures.value) in
    let share = ap (λ (w : WorkOf _). w.share) taken ∙ c.reply_on-replied.ensures.keeps.share ∙ c.resume-work.ensures.share in
    let start = ap (λ (w : WorkOf _). w.start) taken ∙ c.reply_on-replied.ensures.keeps.start ∙ c.resume-work.ensures.start in
    omega (arith, s, share, start, c.into_store-store.ensures.within, c.into_store-store.ensures.enough)

pub returns-clause-cache : goal.returns-clause-cache
returns-clause-cache g c =
    let taken = c.take_cache.ensures.same in
    let n = sym c.resume-work.ensures.same_reference ∙ (sym c.reply_on-replied.ensures.keeps.name
    ∙ (sym (ap (λ (w : WorkOf _). w.store.ghost_name) taken) ∙ sym c.into_store-store.ensures.same_reference)) in
    let e = c.store-1.given.1 n ∙ c.into_store-store.ensures.value ∙ ap (λ (w : WorkOf _). w.store.now) taken in
    let state = g.S.CellStore.state in
    let s = state c.reply_on-replied.new.work.store.now in
    let found = cache_later s (knowing s.known) c.take_cache.result (λ i x h. h) c.take_cache.ensures.cache in
    let kept = cache_later (knowing s.known) s c.kept.result (λ i x h. h) (c.kept.ensures s.known found) in
    subst (λ z. CacheHolds (state z) c.kept.result) (sym e) kept
