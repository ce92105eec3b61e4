pub mod Views
pub mod Statements
pub mod Cuts
pub mod Answered
pub mod Named
