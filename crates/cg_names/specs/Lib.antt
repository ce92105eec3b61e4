-- what public contracts cite
pub mod Named
pub mod NamedForms
pub mod Name
pub mod Lists
pub mod Meaning
pub mod Reading
-- what private contracts cite
pub mod Shapes
pub mod Spelled
pub mod Memos
pub mod Readings
