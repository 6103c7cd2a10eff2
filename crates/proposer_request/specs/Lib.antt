pub mod Order
pub mod RequestLaws
