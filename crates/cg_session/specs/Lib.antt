-- the limits of a session, the replies to its lines, and what it writes
pub mod Settings
pub mod Replies
pub mod Output
-- what the words mean, and how a session ends
pub mod Words
pub mod Input
pub mod Written
pub mod Ends
pub mod StatusCode
-- which answers are good, and what is kept of a session
pub mod Good
pub mod Kept
-- what private contracts cite
pub mod Outputs
