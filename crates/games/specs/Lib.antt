pub mod Play
pub mod Table
pub mod Sizes
pub mod Race
