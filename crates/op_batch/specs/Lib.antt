pub mod Haul
