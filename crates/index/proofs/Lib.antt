pub mod Signs
pub mod Cells
pub mod Laws
