pub mod Pop
