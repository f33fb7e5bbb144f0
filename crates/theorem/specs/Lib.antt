pub mod History
pub mod GaveUp
