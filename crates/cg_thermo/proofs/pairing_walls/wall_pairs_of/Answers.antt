-- One pair of walls more.
use Rattle.std.proofs.Common.{◌+◌, arith, ap, sym, ◌∙◌, subst, ℕ, length}
use Rattle.std.proofs.lemmas.List.{length-append}
use Rattle.std.proofs.lemmas.Result.{err_from_is_err_and}
use Rattle.cg_arena.specs.Arena.{game_of}
use Rattle.cg_thermo.specs.Progress.{HasWallPair, walked}
use Rattle.cg_canon.proofs.WalkPositions.{count}
use Rattle.cg_thermo.proofs.WallPairSteps.{wall_pairs_more, wall_pairs_none, err_range, rough_at}
use Rattle.cg_thermo.proofs.pairing_walls.wall_pairs_of.Goals as goal

pub loop-place-init : goal.loop-place-init
loop-place-init g c = (ap length c.in_ok-wall_pairs.ensures.items, wall_pairs_none _ _ c.in_ok-wall_pairs.ensures.items)

pub wall_pair_at-requires-clause-place : goal.wall_pair_at-requires-clause-place
wall_pair_at-requires-clause-place g c =
    let n = count _ _ _ c.requires in
    let k = c.args.walk.now.positions.ok.0 in
    let e = c.len-place-end.ensures in
    let t = c.loop-place-test.true in
    omega (arith, n, k, e, t)

pub returns-in_err-wall_pair-clause-range : goal.returns-in_err-wall_pair-clause-range
returns-in_err-wall_pair-clause-range g c = λ e.
    let p = err_from_is_err_and c.from_residual-in_err-wall_pair.result c.from_residual-in_err-wall_pair.ensures.1 in
    let n = count _ _ _ c.requires in
    let k = c.args.walk.now.positions.ok.0 in
    let l = c.len-place-end.ensures in
    let t = c.loop-place-test.true in
    rough_at _ c.loop-place.place (omega (arith, n, k, l, t))
    (c.wall_pair_at.ensures.range (err_range c.from_residual-in_err-wall_pair.result c.wall_pair_at.result p.0 c.in_err-wall_pair.field-0.0 p.1 p.2
    c.in_err-wall_pair.was e))

pub loop-place-preserved : goal.loop-place-preserved
loop-place-preserved g c =
    let fs = walked c.args.work.now.arena c.args.walk.now in
    let P : ℕ → Type 0 = λ z. HasWallPair (game_of fs z) c.in_ok-wall_pair.wall_pair in (
      ap length c.in_ok-push.ensures.items ∙ length-append _ _ ∙ ap (λ z. z + 1) c.loop-place.invariant.0,
      wall_pairs_more fs _ _ c.in_ok-wall_pair.wall_pair c.loop-place.invariant.1 (subst P (sym c.loop-place.invariant.0) c.in_ok-wall_pair.ensures.wall_pair)
          c.in_ok-push.ensures.items,
    )

pub returns-clause-count : goal.returns-clause-count
returns-clause-count g c =
    let n = count _ _ _ c.requires in
    let k = c.args.walk.now.positions.ok.0 in
    let l = c.len-place-end.ensures in
    let t = c.loop-place-test.false in
    let u = c.loop-place.auto.place-end in
    let i = c.loop-place.invariant.0 in
    omega (arith, n, k, l, t, u, i)
