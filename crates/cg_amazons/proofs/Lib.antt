pub mod RayLaws
pub mod AmazonsLaw
pub mod CellBits
pub mod RayLines
pub mod Taken
pub mod QueenMoves
pub mod ReadLemmas
pub mod Shooting
