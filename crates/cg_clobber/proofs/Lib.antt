pub mod Capture
pub mod Cuts
pub mod ClobberLaw
pub mod Placing
pub mod CaptureMarks
pub mod PairMoves
pub mod PairOrder
pub mod PairRise
pub mod CaptureBoards
pub mod StoneWords
pub mod Moving
mod Going
