pub mod Answers
pub mod Queues
pub mod Out
pub mod Stages
