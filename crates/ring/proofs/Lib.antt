pub mod CapacityLaws
