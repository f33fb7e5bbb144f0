pub mod State
pub mod Sound
pub mod Claim
pub mod Setup
pub mod Step
pub mod Begin
pub mod Call
pub mod Shown
