-- what public contracts cite
pub mod Moves
pub mod Worked
-- what private contracts cite
pub mod CaptureWords
pub mod Pairs
