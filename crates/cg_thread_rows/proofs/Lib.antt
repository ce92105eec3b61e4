pub mod FourWords
pub mod Handles
pub mod Knowing
pub mod Singles
pub mod Sums
