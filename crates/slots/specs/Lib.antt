pub mod Slots
pub mod Queue
pub mod Answer
