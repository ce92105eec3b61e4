-- what public contracts cite
pub mod Cells
pub mod Boxes
pub mod Neighbours
pub mod Moving
-- what private contracts cite, and what proofs need here
pub mod Frames
pub mod Words
