pub mod TreeOf
pub mod Walk
pub mod Heights
