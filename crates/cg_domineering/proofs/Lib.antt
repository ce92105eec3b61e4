pub mod Cuts
pub mod DomineeringLaw
pub mod Placing
pub mod Filling
pub mod Moving
