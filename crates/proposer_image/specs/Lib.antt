pub mod Good
pub mod Each
pub mod Lists
pub mod Taken
pub mod GoodLaws
pub mod Again
