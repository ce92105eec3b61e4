pub mod Allowed
pub mod Starting
pub mod Telling
pub mod Turning
pub mod Ending
