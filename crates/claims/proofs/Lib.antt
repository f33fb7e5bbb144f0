pub mod Sessions
pub mod Calls
pub mod Machines
pub mod Games
