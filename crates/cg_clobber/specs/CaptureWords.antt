-- The stones of both players in words, and the captures of a player, by the first of the two cells that
-- a move changes.
use Rattle.std.specs.Prelude.{◌≡◌, ◌+◌, ◌%◌, ◌^◌, ◌<◌, ◌==◌, ◌&&◌, nat_lt, length, ◌≤◌}
use Rattle.cg_moves.specs.declared.player.Player.{Player}
use Rattle.cg_moves.specs.Grid.{Grid}
use Rattle.cg_moves.specs.Words.{Marks}
use Rattle.cg_clobber.specs.declared.capturing.Stones.{Stones}
use Rattle.cg_clobber.specs.declared.putting.CaptureWords.{CaptureWords}
use Rattle.cg_clobber.specs.declared.way.Way.TheVariants.{Up, Down, Back, Forth}
use Rattle.cg_clobber.specs.Moves.{captures_that_way, has_stone, other, own}

pub record AreCaptureWords (player : Player) (p : Grid) (words : CaptureWords) : Type 0 where
  pub down : Marks words.down (captures_that_way player p Down)
  pub forth : Marks words.forth (captures_that_way player p Forth)
  pub from_below : Marks words.from_below (λ c. captures_that_way player p Up (c + p.columns))
  pub from_next : Marks words.from_next (λ c. captures_that_way player p Back (c + 1))
  -- the board has a bit for each cell
  pub few : length p.cells ≤ 64

-- the player's stones and those of the other player, and the cells of the first column
pub record AreStones (player : Player) (p : Grid) (s : Stones) : Type 0 where
  pub wide : 0 < p.columns
  pub columns : s.columns ≡ p.columns
  pub own : Marks s.own (λ i. has_stone p.cells i (own player))
  pub others : Marks s.others (λ i. has_stone p.cells i (other player))
  pub first : Marks s.first_column (λ i. nat_lt i (length p.cells) && (i % p.columns == 0))
  -- they are words of 64 bits
  pub own_fits : s.own < 2 ^ 64
  pub others_fit : s.others < 2 ^ 64
  pub first_fits : s.first_column < 2 ^ 64
