-- what a reader has to believe
pub mod IllFormed
pub mod Zero
pub mod Forms
pub mod Boards
pub mod Octals
pub mod Meaning
pub mod Faults
pub mod Items
pub mod Pictures
pub mod Reply
pub mod Shown
-- what calls leave as it is, and what private contracts say
pub mod Stores
pub mod Progress
pub mod Refused
pub mod Parts
