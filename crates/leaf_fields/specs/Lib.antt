pub mod Fields
pub mod Laws
pub mod Rows
pub mod Stores
