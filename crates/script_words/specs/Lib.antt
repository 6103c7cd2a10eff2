pub mod Letters
pub mod Limits
pub mod Split
pub mod Tests
pub mod Text
pub mod Written
pub mod WrittenLaws
pub mod LentLaws
