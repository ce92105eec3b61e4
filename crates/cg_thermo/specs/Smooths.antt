-- Scales at which the scaffolds of a game and of its positions meet at whole units.
use Rattle.std.specs.Prelude.{ℕ, ◌≤◌}
use Rattle.cg_dyadic.specs.Number.{Number, exp_of}
use Rattle.cg_form.specs.Cooling.{Cool}
use Rattle.cg_form.specs.Game.{Among, Game, lefts, number, rights}
use Rattle.cg_form.specs.Order.{Equal}
use Rattle.cg_form.specs.Simple.{Decides, NoNumber}
use Rattle.cg_form.specs.Walls.{scaffold_of}

pub data Smooth (s : ℕ) : Game → Type 0 where
  smooth_number : (g : Game) (x : Number) → Equal (number x) g → exp_of x ≤ s → Smooth s g
  smooth_other : (g : Game) → NoNumber g → ((d : Decides) → Cool (scaffold_of d s g))
      → ((a : Game) → Among a (lefts g) → Smooth s a) → ((b : Game) → Among b (rights g) → Smooth s b) → Smooth s g
