use Rattle.std.proofs.Common.{◌≡◌, refl, ◌∙◌, arith, ◌<◌, ◌-◌, ◌∷◌, [], ◌++◌}
use Rattle.std.proofs.lemmas.Int.{to_z-of_z}
use Rattle.cg_walls.specs.declared.TheConstants.{END}
use Rattle.cg_walls.proofs.Merging.{bool_other, bool_same, event-after, merged-along, max_is, merged-none, merged-same, merged-turned, upper-wall}
use Rattle.cg_walls.proofs.Walking.{at-within}
use Rattle.cg_walls.proofs.Words.{start_word}
use mir.Syntax.{w128}
use Rattle.cg_walls.proofs.upper.higher.Goals as goal
use Rattle.cg_walls.proofs.upper.higher.Goals.{then-lead-up+in_ok-push, else-lead-up}

pub event-to-requires-clause-p : goal.event-to-requires-clause-p
event-to-requires-clause-p c = at-within c.args.a.now 0 c.start-p.result c.requires.a c.start-p.ensures

pub event-to-requires-clause-q : goal.event-to-requires-clause-q
event-to-requires-clause-q c = at-within c.args.b.now 0 c.start-q.result c.requires.b c.start-q.ensures

pub moved-p-requires-clause-later : goal.moved-p-requires-clause-later
moved-p-requires-clause-later c =
    let e = event-after c.args.a.now c.args.b.now c.leads-first.result c.loop-to.up c.loop-to.turns.items c.loop-to.now c.loop-to.p c.loop-to.q
    c.loop-to.invariant.merged in
    let n = c.loop-to.invariant.next in omega arith

pub moved-q-requires-clause-later : goal.moved-q-requires-clause-later
moved-q-requires-clause-later c =
    let e = event-after c.args.a.now c.args.b.now c.leads-first.result c.loop-to.up c.loop-to.turns.items c.loop-to.now c.loop-to.p c.loop-to.q
    c.loop-to.invariant.merged in
    let n = c.loop-to.invariant.next in omega arith

pub event-to-requires-in-loop-to-clause-p : goal.event-to-requires-in-loop-to-clause-p
event-to-requires-in-loop-to-clause-p c = at-within c.args.a.now c.loop-to.to c.moved-p.result c.requires.a c.moved-p.ensures

pub event-to-requires-in-loop-to-clause-q : goal.event-to-requires-in-loop-to-clause-q
event-to-requires-in-loop-to-clause-q c = at-within c.args.b.now c.loop-to.to c.moved-q.result c.requires.b c.moved-q.ensures

pub loop-to-smaller : goal.loop-to-smaller
loop-to-smaller c =
    let e = event-after c.args.a.now c.args.b.now c.leads-first.result c.loop-to.up c.loop-to.turns.items c.loop-to.now c.loop-to.p c.loop-to.q
    c.loop-to.invariant.merged in
    let n = c.loop-to.invariant.next in
    let t = c.loop-to-test.true in
    let s : END - c.loop-to.to < END - c.loop-to.now = omega arith in s

pub loop-to-init : goal.loop-to-init
loop-to-init c =
    record {
      merged = rw c.new-turns.ensures.items (merged-none c.args.a.now c.args.b.now c.start-p.result c.start-q.result c.leads-first.result c.start-p.ensures
          c.start-q.ensures c.leads-first.ensures);
      next = c.event-to.ensures;
    }

pub loop-to-preserved : goal.loop-to-preserved
loop-to-preserved c =
    let a = c.args.a.now in let b = c.args.b.now in
    let m = c.loop-to.invariant.merged in
    let n = c.loop-to.invariant.next in
    let e = event-after a b c.leads-first.result c.loop-to.up c.loop-to.turns.items c.loop-to.now c.loop-to.p c.loop-to.q m in
    let lt : c.loop-to.now < c.loop-to.to = omega arith in
    record {
      merged = elim c.if-lead-up.branch [
        | then-lead-up+in_ok-push w ↦
            (let k = merged-turned a b c.leads-first.result c.loop-to.up c.leads-lead.result c.loop-to.turns.items c.loop-to.now c.loop-to.to c.loop-to.p
            c.loop-to.q
            c.moved-p.result c.moved-q.result m n lt c.loop-to-test.true c.moved-p.ensures c.moved-q.ensures c.leads-lead.ensures
            (bool_other c.leads-lead.result c.loop-to.up w.if-lead-up.true) in
            let e : c.if-lead-up.turns.items ≡ c.loop-to.turns.items ++ c.loop-to.to ∷ [] = rw w.turns-is w.in_ok-push.ensures.items in
            merged-along a b c.leads-first.result c.leads-lead.result c.if-lead-up.up (c.loop-to.turns.items ++ c.loop-to.to ∷ []) c.if-lead-up.turns.items
            c.loop-to.to
            c.moved-p.result c.moved-q.result e w.up-is k)
        | else-lead-up w ↦
            (let k = merged-same a b c.leads-first.result c.loop-to.up c.leads-lead.result c.loop-to.turns.items c.loop-to.now c.loop-to.to c.loop-to.p
            c.loop-to.q
            c.moved-p.result c.moved-q.result m n lt c.loop-to-test.true c.moved-p.ensures c.moved-q.ensures c.leads-lead.ensures (bool_same c.leads-lead.result
            c.loop-to.up w.if-lead-up.false) in
            let e : c.if-lead-up.turns.items ≡ c.loop-to.turns.items = rw w.turns-is refl in
            merged-along a b c.leads-first.result c.loop-to.up c.if-lead-up.up c.loop-to.turns.items c.if-lead-up.turns.items c.loop-to.to
            c.moved-p.result c.moved-q.result e w.up-is k)
      ];
      next = c.event-to-in-loop-to.ensures;
    }

pub returns-clause-wall : goal.returns-clause-wall
returns-clause-wall c = (upper-wall c.args.a.now c.args.b.now c.of.result c.leads-first.result c.loop-to.up c.loop-to.turns.items c.loop-to.now c.loop-to.p
    c.loop-to.q
    c.requires.a c.requires.b c.loop-to.invariant.merged (let n = c.loop-to.invariant.next in let t = c.loop-to-test.false in omega arith)
    (c.of.ensures.start ∙ to_z-of_z w128 c.max.result (record { sfits = c.max.type_inv }) ∙ c.max.ensures.value ∙ max_is _ _ _ _ (start_word c.args.a.now
    c.requires.a) (start_word c.args.b.now c.requires.b))
    c.of.ensures.first c.of.ensures.turns).0

pub returns-clause-value : goal.returns-clause-value
returns-clause-value c = (upper-wall c.args.a.now c.args.b.now c.of.result c.leads-first.result c.loop-to.up c.loop-to.turns.items c.loop-to.now c.loop-to.p
    c.loop-to.q
    c.requires.a c.requires.b c.loop-to.invariant.merged (let n = c.loop-to.invariant.next in let t = c.loop-to-test.false in omega arith)
    (c.of.ensures.start ∙ to_z-of_z w128 c.max.result (record { sfits = c.max.type_inv }) ∙ c.max.ensures.value ∙ max_is _ _ _ _ (start_word c.args.a.now
    c.requires.a) (start_word c.args.b.now c.requires.b))
    c.of.ensures.first c.of.ensures.turns).1
