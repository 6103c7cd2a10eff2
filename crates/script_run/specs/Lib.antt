pub mod Run
pub mod State
pub mod Obeyed
pub mod Laws
pub mod Moved
