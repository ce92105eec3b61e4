-- the textbook, which is to be believed: games, their order, sums and play
pub mod Firsts
pub mod Game
pub mod Order
pub mod Sum
pub mod Multiple
pub mod Play
pub mod Outcome
-- numbers among games, canonical forms and positions
pub mod Simple
pub mod Structure
pub mod Canonical
pub mod Positions
pub mod Depth
pub mod Translate
pub mod Shifted
-- stops and walls
pub mod Greatest
pub mod Stops
pub mod Heights
pub mod Walls
-- trees in code, and trees that no number in range writes
pub mod Forms
pub mod Range
-- what `impl Model` needs
pub mod Size
pub mod GameCode
pub mod FallsLaw
-- what private contracts cite, and those of `cuts`
pub mod Side
pub mod Cut
pub mod Best
pub mod Bypass
pub mod Known
pub mod Extended
pub mod Cooling
