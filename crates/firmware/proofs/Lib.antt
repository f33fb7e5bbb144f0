pub mod Counts
pub mod Rows
pub mod Played
pub mod Calls
