pub mod AreaStart
pub mod Contract
pub mod Refused
pub mod ReceiveLaws
pub mod PlacesFit
pub mod Stays
pub mod Said
pub mod SaidBack
