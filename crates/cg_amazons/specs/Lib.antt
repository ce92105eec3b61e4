-- what public contracts cite
pub mod Amazons
pub mod Boards
pub mod Rays
-- what private contracts cite
pub mod Taking
pub mod MoveParts
