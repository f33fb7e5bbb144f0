pub mod Shrink
