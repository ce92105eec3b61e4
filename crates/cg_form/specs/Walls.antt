-- Thermographs: the walls of a game at a temperature t, and its temperature and mean. Values and temperatures are whole
-- numbers of units of 1 / 2 ^ s, for a scale s of at least the height of the game.
-- Siegel, Combinatorial Game Theory (2013), II.5: scaffolds, walls, temperature and mean. The law function `l7` states
-- the rule of the walls as it stands here, and that they are the scaffolds up to the temperature and the mast above it;
-- the bound below only makes the recursion end.
use Rattle.std.specs.Prelude.{ℕ, zero, suc, ◌≡◌, ◌<◌, ◌≤◌, List, map, if◌then◌else◌, ℤ, pos, negsuc, ◌+ℤ◌, ◌-ℤ◌}
use lib.Signed.{le_z}
use mathlib.Core.Logic.{inl, inr}
use Rattle.cg_dyadic.specs.Number.{Number, exp_of, ratio}
use Rattle.cg_dyadic.specs.Units.{units}
use Rattle.cg_form.specs.Game.{Game, lefts, number, rights}
use Rattle.cg_form.specs.Greatest.{greatest_by}
use Rattle.cg_form.specs.Heights.{height}
use Rattle.cg_form.specs.Order.{Equal}
use Rattle.cg_form.specs.Simple.{Decided, Decides, NoNumber}
use Rattle.cg_form.specs.Size.{size}

-- ---- walls

pub record Walls : Type 0 where
  pub left : ℤ
  pub right : ℤ

abbrev pub greatest : List ℤ → ℤ
greatest xs = greatest_by le_z (pos 0) xs

abbrev pub least : List ℤ → ℤ
least xs = greatest_by (λ x y. le_z y x) (pos 0) xs

-- the scaffolds at t, where w has the walls of the options: the greatest right wall of a Left option minus t, and the
-- least left wall of a Right option plus t
abbrev pub scaffold : (ℕ → Game → Walls) → Game → ℕ → Walls
scaffold w g t = record {
  left = greatest (map (λ a. (w t a).right) (lefts g)) -ℤ pos t;
  right = least (map (λ b. (w t b).left) (rights g)) +ℤ pos t;
}

-- At t: the scaffolds f, as long as the left one is at least the right one; after that, what they were at the last such time.
abbrev pub cooled : (ℕ → Walls) → ℕ → Walls
cooled f zero = f zero
cooled f (suc t) = if le_z (f (suc t)).right (f (suc t)).left then f (suc t) else cooled f t

-- both walls are the number that the game equals, or else the cooled scaffolds
abbrev pub walls_by : (g : Game) → Decided g → ℕ → (ℕ → Walls) → ℕ → Walls
walls_by g (inl w) s f t = record { left = units s w.0; right = units s w.0 }
walls_by g (inr n) s f t = cooled f t

unfoldable pub walls_within : Decides → ℕ → ℕ → ℕ → Game → Walls
walls_within d zero s t g = record { left = pos 0; right = pos 0 }
walls_within d (suc n) s t g = walls_by g (d g) s (scaffold (walls_within d n s) g) t

-- the walls of g at t, at the scale s
unfoldable pub walls : Decides → ℕ → ℕ → Game → Walls
walls d s t g = walls_within d (suc (size g)) s t g

-- the scaffolds of g at t, at the scale s
abbrev pub scaffold_of : Decides → ℕ → Game → ℕ → Walls
scaffold_of d s g t = scaffold (walls d s) g t

-- ---- temperature and mean

-- the two of f first agree at t
pub record MeetAt (f : ℕ → Walls) (t : ℕ) : Type 0 where
  pub agree : (f t).left ≡ (f t).right
  pub before : (u : ℕ) → u < t → ¬ ((f u).left ≡ (f u).right)

-- the temperature of a game that equals no number is t, the least at which its scaffolds agree
abbrev pub TemperatureIs : Decides → ℕ → Game → ℕ → Type 0
TemperatureIs d s g t = MeetAt (scaffold_of d s g) t

-- the mean and the temperature of g as numbers. The mean of a number is the number, and its temperature is -1 / 2 ^ k,
-- where its denominator is 2 ^ k; the mean of another game is the value of the scaffolds at its temperature.
pub record IsThermal (g : Game) (mean temp : Number) : Type 0 where
  pub number : (x : Number) → Equal (number x) g → (mean ≡ x) × (temp ≡ ratio (negsuc 0) (exp_of x))
  pub other : NoNumber g → (d : Decides) (s t : ℕ) → height g ≤ s → TemperatureIs d s g t
      → (mean ≡ ratio (scaffold_of d s g t).left s) × (temp ≡ ratio (pos t) s)

-- ---- a finer scale

-- at the next finer scale the walls at 2 t are v and those at 2 t + 1 are w, where at t they are x and at t + 1 y: in
-- units of half the size v is twice x, and w is the sum of x and y
pub record AtNext (v w x y : Walls) : Type 0 where
  pub even_left : v.left ≡ x.left +ℤ x.left
  pub even_right : v.right ≡ x.right +ℤ x.right
  pub odd_left : w.left ≡ x.left +ℤ y.left
  pub odd_right : w.right ≡ x.right +ℤ y.right
