-- the textbook, which is to be believed
pub mod Codes
pub mod Mex
pub mod Heaps
-- what `impl Model` needs
pub mod HeapCode
-- what private contracts cite
pub mod Fitting
pub mod Found
