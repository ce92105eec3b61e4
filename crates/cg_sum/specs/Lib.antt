-- what public contracts cite
pub mod Lists
-- what private contracts cite
pub mod Progress
pub mod Firsts
pub mod Written
