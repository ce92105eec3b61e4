-- the textbook, which is to be believed
pub mod Number
pub mod Exact
pub mod Units
pub mod Simplest
pub mod Cut
pub mod Wide
-- what `impl Model` needs
pub mod Held
-- what private contracts cite
pub mod Search
