-- what public contracts cite
pub mod Moves
pub mod Worked
