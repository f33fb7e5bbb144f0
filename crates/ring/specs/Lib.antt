pub mod Capacity
pub mod Number
