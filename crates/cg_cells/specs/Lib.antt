-- what public contracts cite
pub mod Layout
pub mod Parts
pub mod Meaning
pub mod Store
pub mod Words
pub mod Index
pub mod Views
pub mod Table
pub mod Steps
pub mod Sure
-- what private contracts cite
pub mod Codes
