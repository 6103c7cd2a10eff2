pub mod Messages
pub mod Change
pub mod Proposer
pub mod Exported
