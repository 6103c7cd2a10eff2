pub mod GrantLaws
pub mod PromiseLaws
