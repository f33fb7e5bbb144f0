pub mod Pinned
pub mod Calls
