pub mod FifoPop
