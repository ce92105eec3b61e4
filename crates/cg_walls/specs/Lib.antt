-- the textbook, to be believed: walls, their corners, and the line through points
pub mod Rises
pub mod Corners
pub mod Lines
-- which walls and points are held in words
pub mod Fits
-- what private contracts cite
pub mod Places
