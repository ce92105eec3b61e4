-- Scaffolds that pass each other between two whole units meet at a whole unit of the next finer scale.
use Rattle.std.proofs.Common.{◌≡◌, refl, ℕ, ◌+◌, ◌-◌, ◌<◌, arith, suc, ap, sym, ◌∙◌, Bool, true}
use Rattle.std.proofs.Common.{false, Result, Ok, Err, ℤ, pos, neg_ℤ, ◌-ℤ◌, ◌≤ℤ◌, unsigned_abs}
use Rattle.std.proofs.lemmas.Int.{ints}
use Rattle.std.specs.Prelude.{IfOk, if◌then◌else◌}
use Rattle.cg_dyadic.specs.Number.{InRange, Number, between, exp_of, half, is_even, ratio}
use Rattle.cg_dyadic.specs.Units.{units}
use Rattle.cg_dyadic.specs.Wide.{places}
use Rattle.cg_dyadic.proofs.Integers.{abs_tells, even_half}
use Rattle.cg_dyadic.proofs.Wides.{places-enough, units-in_range}
use Rattle.cg_form.specs.Game.{Game, number}
use Rattle.cg_form.specs.Walls.{TemperatureIs, Walls, scaffold_of, walls}
use Rattle.cg_form.proofs.Decide.{number-decide}
use Rattle.cg_form.proofs.Finer.{Finer, twice, twice_pos}
use Rattle.cg_form.proofs.Preorder.{equal_refl}
use Rattle.cg_form.proofs.Temperature.{later}
use Rattle.cg_form.proofs.Walls.{walls-number, walls-unique}
use Rattle.cg_thermo.proofs.Deciders.{cool-unique, mast-unique}
use mir.Syntax.{w128}
use mir.Val.{to_z, of_z}
use Rattle.cg_walls.proofs.Words.{word}
use Rattle.cg_walls.specs.declared.TheConstants.{BOUND, END}
use Rattle.cg_walls.specs.declared.rise.Rise.{Rise}
use Rattle.cg_walls.specs.Rises.{IsWall, gap, value_at}
use Rattle.cg_thermo.specs.declared.wall_pair.WallPair.{WallPair}
use Rattle.cg_thermo.specs.declared.fault.ThermoFault.{ThermoFault}
use Rattle.cg_thermo.specs.Joins.{Joins, Jumps}
use Rattle.cg_thermo.specs.Progress.{HasWallPair, Rough}
use Rattle.cg_thermo.specs.Smooths.{Smooth, smooth_number, smooth_other}
use Rattle.cg_thermo.proofs.Drawing.{HighestWalls, gap-scaffold, meets-left, meets-mast, meets-right, meets-smooth}
use Rattle.cg_thermo.proofs.Smooth.{cool-next, scaffolds_finer, smooth-finer, smooth-start, smooth-up}
use Rattle.cg_thermo.proofs.Upward.{thermal-none}

-- an odd number over 2 ^ (k + 1) is in lowest terms
exp-odd : (n : ℕ) (k : ℕ) → exp_of (ratio (pos (suc (twice n))) (suc k)) ≡ k + 1
exp-odd n k = by (is_even (pos (suc (twice n)))) refl
  where
    by : (b : Bool) → is_even (pos (suc (twice n))) ≡ b → exp_of (if b then ratio (half (pos (suc (twice n)))) k else between (half (pos (suc (twice n)))) k)
        ≡ k + 1
    by true e = absurd (let h = even_half (pos (suc (twice n))) e in let t = twice_pos n in omega (arith, ints))
    by false e = refl

module _ (s : ℕ) (g : Game) (p q : Rise) (k : HighestWalls s g p q) (j : Jumps p q) where
  finer : Finer (scaffold_of number-decide s g) (scaffold_of number-decide (suc s) g)
  finer = scaffolds_finer s g (λ a m. smooth-finer s a (k.lefts_smooth a m)) (λ b m. smooth-finer s b (k.rights_smooth b m))

  start : (scaffold_of number-decide s g 0).right ≤ℤ (scaffold_of number-decide s g 0).left
  start = smooth-start s g k.never k.lefts_smooth k.rights_smooth

  pub jump-smooth : Smooth (suc s) g
  jump-smooth = smooth_other g k.never (λ d. cool-unique number-decide d (suc s) g (cool-next s g k.lefts_smooth k.rights_smooth start))
      (λ a m. smooth-up s a (k.lefts_smooth a m)) (λ b m. smooth-up s b (k.rights_smooth b m))

  -- at the finer scale they agree halfway between
  pub jump-temperature : TemperatureIs number-decide (suc s) g (suc (twice j.at))
  jump-temperature =
      let f : ℕ → Walls = scaffold_of number-decide s g in
      let h : ℕ → Walls = scaffold_of number-decide (suc s) g in
      let one : j.at + 1 ≡ suc j.at = omega arith in
      let a = gap-scaffold s g p q k j.at in let b = gap-scaffold s g p q k (suc j.at) in
      let x = j.before in let y = j.after in let z = ap (gap p q) one in
      record {
        agree = (let l = finer.odd_left j.at in let r = finer.odd_right j.at in omega (arith, ints));
        before = λ u lt e. (
            let l = finer.even_left j.at in let r = finer.even_right j.at in
            let c = cool-next s g k.lefts_smooth k.rights_smooth start in
            let w : u + (twice j.at - u) ≡ twice j.at = omega arith in
            let m = rw w at (later h c (twice j.at - u) u) in
            let ml = m.left in let mr = m.right in
            absurd (omega (arith, ints)));
      }

pub jump-rough : (g : Game) (p q : Rise) → HighestWalls places g p q → Jumps p q → Rough g
unfolding places
jump-rough g p q k j =
    let t : ℕ = suc (twice j.at) in record {
      mean = ratio (scaffold_of number-decide (suc places) g t).left (suc places);
      temp = ratio (pos t) (suc places);
      thermal = thermal-none (suc places) g t k.never (jump-smooth places g p q k j) (jump-temperature places g p q k j);
      more = (let x = exp-odd j.at places in omega arith);
    }

pub joins-walls_paired : (g : Game) (p q : Rise) (c : WallPair) → HighestWalls places g p q → Joins p q c → HasWallPair g c
joins-walls_paired g p q c k j = record {
  smooth = meets-smooth places g p q c.end k j.meets;
  draws = record {
    left_wall = j.left_wall;
    right_wall = j.right_wall;
    left = λ d t. meets-left places g p q c.left c.end k j.meets j.left t ∙ ap (λ (w : Walls). neg_ℤ w.left) (walls-unique number-decide d places t g);
    right = λ d t. meets-right places g p q c.right c.end k j.meets j.right t ∙ ap (λ (w : Walls). w.right) (walls-unique number-decide d places t g);
    mast = λ d. mast-unique number-decide d places g c.end (meets-mast places g p q c.end k j.meets);
    soon = j.soon;
  };
}

pub joined-walls_paired : (g : Game) (p q : Rise) (r : Result WallPair ThermoFault) → HighestWalls places g p q → IfOk r (Joins p q) → IfOk r (HasWallPair g)
joined-walls_paired g p q (Ok c) k j = joins-walls_paired g p q c k j
joined-walls_paired g p q (Err e) k j = tt

-- ---- numbers

pub abs_bounds : (n : ℤ) → unsigned_abs n < 21267647932558653966460912964485513216 → (neg_ℤ BOUND ≤ℤ n) × (n ≤ℤ BOUND)
abs_bounds n h = let a = abs_tells n in (omega (arith, ints), omega (arith, ints))

pub bounds_of : (x : Number) (u : ℤ) → u ≡ units places x → InRange x → (neg_ℤ BOUND ≤ℤ u) × (u ≤ℤ BOUND) × (neg_ℤ BOUND ≤ℤ (pos 0 -ℤ u))
    × ((pos 0 -ℤ u) ≤ℤ BOUND)
bounds_of x u e r =
    let a = abs_bounds u (let i = units-in_range x r in let f = ap unsigned_abs e in omega arith) in
    let b = a.0 in let c = a.1 in
    (b, c, omega (arith, ints), omega (arith, ints))

pub number-walls_paired : (x : Number) (u : ℤ) (c : WallPair) → InRange x → u ≡ units places x → c.end ≡ 0 → IsWall c.left → IsWall c.right
    → ((t : ℕ) → value_at c.left t ≡ pos 0 -ℤ u) → ((t : ℕ) → value_at c.right t ≡ u) → HasWallPair (number x) c
number-walls_paired x u c r e z wl wr l v = record {
  smooth = smooth_number (number x) x (equal_refl (number x)) (places-enough x r);
  draws = record {
    left_wall = wl;
    right_wall = wr;
    left = λ d t. (let w = ap (λ (y : Walls). y.left) (walls-number d places t (number x) x (equal_refl (number x))) in
        let k = l t in minus (value_at c.left t) u (walls d places t (number x)).left k (w ∙ sym e));
    right = λ d t. v t ∙ e ∙ sym (ap (λ (y : Walls). y.right) (walls-number d places t (number x) x (equal_refl (number x))));
    mast = λ _. record { number = λ y f. z; other = λ never. absurd (never x (equal_refl (number x))) };
    soon = (let b : 0 < END = omega arith in omega arith);
  };
}
  where
    minus : (v u w : ℤ) → v ≡ pos 0 -ℤ u → w ≡ u → v ≡ neg_ℤ w
    minus v u w e f = omega (arith, ints)

pub word_plain : (x : Number) (u : ℤ) → u ≡ units places x → InRange x → to_z w128 (of_z w128 u) ≡ u
word_plain x u e r = let b = bounds_of x u e r in word u b.0 b.1

pub word_turned : (x : Number) (u : ℤ) → u ≡ units places x → InRange x → to_z w128 (of_z w128 (pos 0 -ℤ to_z w128 (of_z w128 u))) ≡ pos 0 -ℤ u
word_turned x u e r = let b = bounds_of x u e r in
    ap (λ n. to_z w128 (of_z w128 (pos 0 -ℤ n))) (word_plain x u e r) ∙ word (pos 0 -ℤ u) b.2 b.3
