pub mod Nimbers
pub mod HeapRule
pub mod OptionLists
pub mod Adding
pub mod HeapValues
pub mod Searching
pub mod Marks
pub mod Places
