-- what public contracts cite
pub mod Paths
pub mod Hackenbush
pub mod Colouring
pub mod Grammar
pub mod Reading
pub mod Drawings
pub mod ColouredGraphs
pub mod Worked
-- what private contracts cite
pub mod Labels
pub mod Items
