-- what public contracts cite
pub mod Items
pub mod Memos
pub mod Added
pub mod MadeForms
pub mod NumberUpStars
pub mod Recognized
pub mod Cache
pub mod Works
pub mod Arena
pub mod Made
pub mod NumberItems
pub mod SumItems
pub mod Written
pub mod Walk
pub mod ItemsAt
pub mod Notes
-- what private contracts cite, and what proofs need here
pub mod Distinct
pub mod Interners
pub mod Paid
pub mod Ways
pub mod Walking
pub mod KeptSums
