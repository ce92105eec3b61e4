-- Multiples: 0.G is 0, and n.G is (n - 1).G + G.
-- Siegel, Combinatorial Game Theory (2013), I.1: sums of copies of a game.
use Rattle.std.specs.Prelude.{ℕ, zero, suc, pos}
use Rattle.cg_dyadic.specs.Number.{whole}
use Rattle.cg_form.specs.Game.{Game, number}
use Rattle.cg_form.specs.Sum.{sum}

unfoldable pub multiple : ℕ → Game → Game
multiple zero g = number (whole (pos zero))
multiple (suc n) g = sum (multiple n g) g
