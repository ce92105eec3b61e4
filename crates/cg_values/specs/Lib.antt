-- what public contracts cite
pub mod Items
pub mod Notes
-- what private contracts cite, and what proofs need here
pub mod Parts
pub mod Options
pub mod Chunks
pub mod Contents
