pub mod AcceptorRows
pub mod ProposerRows
pub mod Starred
