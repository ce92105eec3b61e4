pub mod Named
pub mod Copies
