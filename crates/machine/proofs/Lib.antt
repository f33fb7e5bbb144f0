pub mod StateLaws
pub mod KeptLaws
pub mod SetupLaws
pub mod ShownLaws
