-- which words are accepted, and what they give
pub mod Accepted
pub mod Literal
-- what private contracts cite
pub mod Options
