pub mod Powers
pub mod BelowLaws
pub mod Loops
