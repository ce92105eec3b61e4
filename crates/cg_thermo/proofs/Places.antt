-- How many binary places means and temperatures need.
use Rattle.std.proofs.Common.{◌≡◌, ◌+◌, ◌<◌, ◌≤◌, arith, ap, inl, inr, [], ◌∷◌, ◌++◌}
use Rattle.cg_dyadic.specs.Wide.{places}
use Rattle.cg_dyadic.proofs.Integers.{le_or_gt}
use Rattle.cg_form.specs.Depth.{deepest_of, depth_of}
use Rattle.cg_form.specs.Game.{Among, Game, Games, more, none, number, options}
use Rattle.cg_form.specs.Heights.{height, highest}
use Rattle.cg_form.proofs.Among.{among-append}
use Rattle.cg_form.proofs.Thermal.{thermal-low}
use Rattle.cg_form.specs.Positions.{all_positions, positions_in}
use Rattle.cg_form.proofs.AllPositions.{positions_of-among}
use Rattle.cg_nodes.specs.Ranges.{AllInRange, AreInRange}
use Rattle.cg_thermo.specs.Thermal.{NeedsMore}

mutual
  pub height-depth : (g : Game) → AllInRange g → height g ≤ 40 + depth_of g
  height-depth (number x) r = let h = r.short in omega arith
  height-depth (options ls rs) (a, b) = let l = highest-deepest ls a in let k = highest-deepest rs b in omega arith

  highest-deepest : (gs : Games) → AreInRange gs → highest gs ≤ 40 + deepest_of gs
  highest-deepest none r = omega arith
  highest-deepest (more g gs) (a, b) = let h = height-depth g a in let k = highest-deepest gs b in omega arith

-- no position is higher than the game
mutual
  position-height : (g x : Game) → Among x (all_positions g) → height x ≤ height g
  position-height (number y) x (inl e) = let s : height x ≡ height (number y) = ap height e in omega arith
  position-height (number y) x (inr m) = absurd m
  position-height (options ls rs) x m = elim (among-append x (positions_in ls ++ positions_in rs) (options ls rs ∷ []) m) [
    | inl n ↦ elim (among-append x (positions_in ls) (positions_in rs) n) [
      | inl k ↦ let s = positions-height ls x k in omega arith
      | inr k ↦ let s = positions-height rs x k in omega arith
    ]
    | inr (inl e) ↦ let s : height x ≡ height (options ls rs) = ap height e in omega arith
    | inr (inr k) ↦ absurd k
  ]

  positions-height : (gs : Games) (x : Game) → Among x (positions_in gs) → height x ≤ highest gs
  positions-height none x m = absurd m
  positions-height (more g gs) x m = elim (among-append x (all_positions g) (positions_in gs) m) [
    | inl n ↦ let s = position-height g x n in omega arith
    | inr n ↦ let s = positions-height gs x n in omega arith
  ]

pub shallow-enough : (g : Game) → AllInRange g → depth_of g ≤ 20 → ¬ NeedsMore places g
unfolding places
shallow-enough g r d n =
    let low = thermal-low n.position n.mean n.temp n.thermal in
    let a = low.0 in let b = low.1 in
    let h = position-height g n.position (positions_of-among g n.position n.among) in
    let k = height-depth g r in
    elim n.more [ inl i ↦ omega (arith, i, a, h, k, d) | inr i ↦ omega (arith, i, b, h, k, d) ]

pub needs-deep : (g : Game) → AllInRange g → NeedsMore places g → 20 < depth_of g
needs-deep g r n = elim (le_or_gt (depth_of g) 20) [ inl d ↦ absurd (shallow-enough g r d n) | inr d ↦ d ]
