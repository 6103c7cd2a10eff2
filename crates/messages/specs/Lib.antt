pub mod Ballots
pub mod Message
pub mod Errors
pub mod Limits
pub mod Refusals
pub mod Answers
pub mod Fit
