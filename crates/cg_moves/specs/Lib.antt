-- what public contracts cite
pub mod Grid
pub mod Words
pub mod PlaneBits
pub mod Reordered
pub mod Rules
pub mod Total
pub mod Raw
pub mod Lawful
pub mod CutByMoves
pub mod Reach
pub mod Keys
pub mod Rising
pub mod Texts
pub mod PieceReach
pub mod Plays
pub mod Connected
pub mod Graph
pub mod Cutting
-- what private contracts cite, and what proofs need here
pub mod GridCode
pub mod Kept
pub mod Walks
pub mod Found
pub mod Walking
pub mod Linked
pub mod Visiting
pub mod Rises
