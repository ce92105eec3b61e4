pub mod Options
pub mod OptionReads
pub mod NumberReads
pub mod TakesWords
pub mod Decided
