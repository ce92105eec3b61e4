use Rattle.std.proofs.Common.{◌≡◌, ℕ, ◌+◌, ◌*◌, ◌≤◌, suc, arith, ℤ, pos, ◌+ℤ◌, ◌-ℤ◌, ◌≤ℤ◌}
use Rattle.std.proofs.lemmas.Int.{ints}
use Rattle.cg_form.specs.Cooling.{Steps}
use Rattle.cg_form.specs.Game.{Game}
use Rattle.cg_form.specs.Heights.{height}
use Rattle.cg_form.specs.Simple.{Decides}
use Rattle.cg_form.specs.Walls.{AtNext, walls}
use Rattle.cg_form.proofs.Decide.{number-decide}
use Rattle.cg_form.proofs.Finer.{cool, next_scale, walls-ordered}
use Rattle.cg_form.proofs.Heights.{number-low, stops-low}
use Rattle.cg_form.proofs.Temperature.{scaffolds_agree, temperature-equal, temperature-there, walls-below, walls-mast}
use Rattle.cg_form.proofs.Thermal.{equal-thermal, one-thermal, thermal, thermal-low}
use Rattle.cg_form.proofs.WallOrder.{walls-above, walls-equal}
use Rattle.cg_form.proofs.WallStart.{walls-start}
use Rattle.cg_form.proofs.Walls.{walls-options, walls-steps, walls-unique}
use Rattle.cg_form.proofs.laws.l7.Goals as goal

one_more : (t : ℕ) → suc t ≡ t + 1
one_more t = omega arith

steps : (d : Decides) (s t : ℕ) (g : Game) → Steps (walls d s t g) (walls d s (t + 1) g)
steps d s t g = rw (one_more t) at (walls-steps d s t g)

moved : (a b t : ℤ) → a ≤ℤ (b +ℤ t) → (a -ℤ t) ≤ℤ b
moved a b t h = omega (arith, ints)

next : (d : Decides) (s : ℕ) (g : Game) → height g ≤ s → (t : ℕ)
    → AtNext (walls d (s + 1) (2 * t) g) (walls d (s + 1) (2 * t + 1) g) (walls d s t g) (walls d s (t + 1) g)
next d s g h t = rw (one_more t) at (rw (one_more s) at (next_scale d s g h t))

pub returns : goal.returns
returns c = record {
  options = walls-options;
  unique = walls-unique;
  left_falls = λ d s t g. let k = steps d s t g in (k.left_falls, k.left_by_one);
  right_rises = λ d s t g. let k = steps d s t g in (k.right_rises, k.right_by_one);
  start = λ d s g h n. (cool d s g n h).start;
  number_places = number-low number-decide;
  stop_places = stops-low;
  at_zero = walls-start;
  ordered = λ d s t g h. walls-ordered d s t g h;
  temperature = λ d s g h n. temperature-there d s g (scaffolds_agree d s g n h);
  below = walls-below;
  mast = walls-mast;
  finer = next;
  greater_left = λ d s g h p q. (walls-above d s g h p q).left;
  greater_right = λ d s g h p q. (walls-above d s g h p q).right;
  not_less = λ d s g h p q n t.
      moved (walls d s t h).right (walls d s t g).left (pos t) ((walls-above d s g h p q).apart n t);
  equal = walls-equal;
  equal_temperature = temperature-equal;
  thermal = λ g. let k = thermal g in (k.mean, k.temp, k.is);
  one_thermal = λ g m t n u a b. let k = one-thermal g m t n u a b in (k.means, k.temps);
  equal_thermal = equal-thermal;
  thermal_places = thermal-low;
}
