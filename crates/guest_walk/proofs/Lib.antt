pub mod GuestSteps
pub mod Usual
