pub mod LifoPop
