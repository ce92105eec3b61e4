-- the textbook, to be believed
pub mod Thermal
pub mod Pictures
pub mod Thermographs
pub mod WallLine
pub mod StopsOf
pub mod Winners
-- what private contracts cite
pub mod Signed
pub mod Draws
pub mod HighestWalls
pub mod Joins
pub mod Smooths
pub mod Progress
