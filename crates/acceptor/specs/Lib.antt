pub mod Contract
pub mod Laws
pub mod Outcomes
pub mod Stores
pub mod Dependence
pub mod Images
