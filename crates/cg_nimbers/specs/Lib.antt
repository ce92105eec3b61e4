-- the textbook, which is to be believed
pub mod Nimbers
pub mod Ups
pub mod NumberUpStar
