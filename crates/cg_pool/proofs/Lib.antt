pub mod Orders
pub mod Sorting
pub mod Bringing
