use Rattle.std.proofs.Common.{◌≡◌, refl, ap, sym, ◌∙◌, arith, ◌++◌, ◌∷◌, [], ◌-◌}
use Rattle.cg_walls.specs.Corners.{corners, point}
use Rattle.cg_walls.specs.Rises.{value_at}
use Rattle.cg_walls.proofs.Bending.{corners-end, corners-fit, corners-none, corners-turn, corners_after, first_point, next_point, no_point, point-is}
use Rattle.cg_walls.proofs.Rising.{value-zero}
use Rattle.cg_walls.proofs.Through.{corners-rise}
use Rattle.cg_walls.proofs.Walking.{at-within, next-after}
use Rattle.cg_walls.proofs.Words.{start_word, value_word}
use Rattle.cg_walls.proofs.bends.points.Goals as goal
use Rattle.cg_walls.proofs.bends.points.Goals.{then-now-end+in_ok-push-3, else-now-end}

pub loop-p-init : goal.loop-p-init
loop-p-init c =
    let r = c.args.rise.now in
    record {
      place = c.start-p.ensures;
      inside = omega arith;
      all = first_point (value_at r) c.args.end c.of.result c.push.new.self.items
          (c.in_ok-push.ensures.items ∙ ap (λ z. z ++ c.of.result ∷ []) c.new-points.ensures.items)
          (point-is (value_at r) 0 c.of.result (c.of.ensures.value ∙ start_word r c.requires.wall ∙ sym (value-zero r)) c.of.ensures.at);
    }

pub loop-p-smaller : goal.loop-p-smaller
loop-p-smaller c =
    let r = c.args.rise.now in
    let i = c.loop-p.invariant in
    let j = i.inside in
    let e = c.requires.end in
    let n = next-after r c.loop-p.now c.loop-p.p (omega arith) i.place in
    let t = c.loop-p-test.true in let m = c.next.ensures in let k = c.next-to.ensures in
    omega arith

pub loop-p-preserved : goal.loop-p-preserved
loop-p-preserved c =
    let r = c.args.rise.now in
    let i = c.loop-p.invariant in
    let j = i.inside in
    let e = c.requires.end in
    let t = c.loop-p-test.true in let m = c.next.ensures in let k = c.next-to.ensures in
    record {
      place = c.moved-p.ensures;
      inside = omega arith;
      all = next_point c.loop-p.points.items c.push-in-loop-p.new.self.items (corners_after (value_at r) c.loop-p.now (c.args.end - c.loop-p.now))
          (corners_after (value_at r) c.next-to.result (c.args.end - c.next-to.result)) (corners (value_at r) c.args.end) c.of-in-loop-p.result
          (point (value_at r) c.next-to.result) c.in_ok-push-2.ensures.items
          (point-is (value_at r) c.next-to.result c.of-in-loop-p.result
          (c.of-in-loop-p.ensures.value ∙ value_word c.moved-p.result (at-within r c.next-to.result c.moved-p.result c.requires.wall c.moved-p.ensures)
          ∙ c.moved-p.ensures.value)
          c.of-in-loop-p.ensures.at)
          (corners-turn r c.loop-p.now c.next-to.result c.args.end c.loop-p.p i.place (omega arith) k (omega arith) e) i.all;
    }

pub returns : goal.returns
returns c =
    let r = c.args.rise.now in
    let i = c.loop-p.invariant in
    let t = c.loop-p-test.false in let m = c.next.ensures in
    let all : c.if-now-end.points.items ≡ corners (value_at c.args.rise.now) c.args.end = elim c.if-now-end.branch [
      | then-now-end+in_ok-push-3 w ↦
          (let e : c.if-now-end.points.items ≡ c.loop-p.points.items ++ w.of-then-now-end.result ∷ [] = rw w.points-is w.in_ok-push-3.ensures.items in
          let lt = w.if-now-end.true in
          no_point c.if-now-end.points.items [] (corners (value_at r) c.args.end) refl
          (next_point c.loop-p.points.items c.if-now-end.points.items (corners_after (value_at r) c.loop-p.now (c.args.end - c.loop-p.now)) []
          (corners (value_at r) c.args.end) w.of-then-now-end.result (point (value_at r) c.args.end) e
          (point-is (value_at r) c.args.end w.of-then-now-end.result
          (w.of-then-now-end.ensures.value ∙ value_word w.moved-last.result (at-within r c.args.end w.moved-last.result c.requires.wall w.moved-last.ensures)
          ∙ w.moved-last.ensures.value)
          w.of-then-now-end.ensures.at)
          (corners-end r c.loop-p.now c.args.end c.loop-p.p i.place lt (omega arith)) i.all))
      | else-now-end w ↦
          (let e : c.if-now-end.points.items ≡ c.loop-p.points.items = rw w.points-is refl in
          let ge = w.if-now-end.false in
          e ∙ no_point c.loop-p.points.items (corners_after (value_at r) c.loop-p.now (c.args.end - c.loop-p.now)) (corners (value_at r) c.args.end)
          (corners-none (value_at r) c.loop-p.now c.args.end (omega arith)) i.all)
    ] in
    record {
      corners = all;
      rise = rw all (corners-rise (value_at c.args.rise.now) c.args.end);
      fit = rw all (corners-fit c.args.rise.now c.args.end c.requires.wall c.requires.end);
    }
