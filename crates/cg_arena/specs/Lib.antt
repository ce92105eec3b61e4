-- what contracts cite
pub mod Costs
pub mod Summaries
pub mod Arena
pub mod OrderMemos
pub mod Decided
pub mod Keys
pub mod Terms
pub mod Undominated
pub mod Canonicalized
pub mod Verdict
pub mod UnreducedGames
pub mod Passed
pub mod Reach
