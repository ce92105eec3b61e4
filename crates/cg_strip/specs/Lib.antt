-- what public contracts cite
pub mod Grammar
pub mod Reading
pub mod Views
pub mod Rulebook
pub mod RuleFaults
pub mod Faults
pub mod Placing
pub mod Weighing
pub mod StripGame
pub mod Toads
pub mod Laws
pub mod Boards
pub mod ToadsBoards
-- what private contracts cite
pub mod Hops
