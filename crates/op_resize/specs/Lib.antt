pub mod Resize
