pub mod Mode
pub mod GuestWalk
pub mod GuestAccess
pub mod Laws
