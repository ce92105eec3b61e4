-- what public contracts cite
pub mod Certificate
pub mod Pairs
pub mod Proves
pub mod First
pub mod Answer
-- what private contracts cite
pub mod Positions
pub mod Written
pub mod Texts
pub mod Reads
