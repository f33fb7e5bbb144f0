pub mod Tests
pub mod Below
