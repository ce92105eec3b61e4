-- what public contracts cite
pub mod Shove
