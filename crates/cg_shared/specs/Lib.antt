pub mod Passes
pub mod Searches
pub mod Plays
