pub mod Faults
pub mod Counts
pub mod Memory
pub mod Supply
pub mod Adapter
