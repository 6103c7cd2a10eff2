pub mod Block
pub mod Stores
pub mod Read
pub mod Written
pub mod Change
