pub mod ShoveLaw
pub mod Shoving
