pub mod OneCall
pub mod Runs
pub mod Refused
pub mod Theorem
pub mod Wrong
pub mod Named
pub mod GaveUp
pub mod Played
