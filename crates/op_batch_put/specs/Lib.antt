pub mod Swap
pub mod Put
