pub mod Table
pub mod Blocks
pub mod Laws
pub mod Keys
