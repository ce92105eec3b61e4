-- what public contracts cite
pub mod Naming
pub mod SessionLines
pub mod Session
pub mod SessionViews
pub mod Levels
-- what private contracts cite
pub mod Bound
pub mod Puts
