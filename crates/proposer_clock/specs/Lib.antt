pub mod Late
pub mod LateLaws
pub mod Lesser
pub mod LateSearch
pub mod TickLaws
