-- what public contracts cite
pub mod Meant
pub mod MeantCode
pub mod Boards
pub mod Longs
pub mod Can
pub mod Spelled
pub mod Games
pub mod Ranges
-- what private contracts cite, and what proofs need here
pub mod Inverse
pub mod Partings
pub mod Walks
-- what the implementation of `Facts` needs, by lemmas: that its laws hold
pub mod LongKeysLaw
pub mod CanLaw
pub mod KeysLaw
