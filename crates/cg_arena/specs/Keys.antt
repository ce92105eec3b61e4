-- Where the cuts of a game lie, as whole numbers.
use Rattle.std.specs.Prelude.{◌≡◌, Bool, not, cond, ℤ, pos, ◌+ℤ◌}
use Rattle.cg_dyadic.specs.Number.{InRange, Number}
use Rattle.cg_dyadic.specs.Units.{units}
use Rattle.cg_dyadic.specs.Wide.{places}
use Rattle.cg_form.specs.Game.{Game}
use Rattle.cg_arena.specs.declared.keys.Keys.{Keys}
use Rattle.cg_arena.specs.declared.summary.Summary.{Summary}
use Rattle.cg_arena.specs.Summaries.{HasCuts}

-- the number in units of 1 / 2 ^ 61, and one more where what is cut off begins just behind it
abbrev pub key_of : Number → Bool → ℤ
key_of x behind = units places x +ℤ units places x +ℤ cond behind (pos 1) (pos 0)

-- where the numbers that are at most the game end, and where those that are at least the game begin
pub record AreKeys (p : Summary) (k : Keys) : Type 0 where
  pub low : k.low ≡ key_of p.low.at p.low.closed
  pub high : k.high ≡ key_of p.high.at (not p.high.closed)
  pub low_in_range : InRange p.low.at
  pub high_in_range : InRange p.high.at

-- they are those of cuts that the game makes
pub record HasKeys (g : Game) (k : Keys) : Type 0 where
  pub summary : Summary
  pub cuts : HasCuts g summary
  pub keys : AreKeys summary k
