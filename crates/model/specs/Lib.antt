-- In reading order: counts; stages; the tables; the machine; the logical queue; the invariant; how far indices go; rings and cells; what 8 and 9 leave.
pub mod Count
pub mod Stage
pub mod Tables
pub mod Machine
pub mod Logical
pub mod Invariant
pub mod Bound
pub mod Memory
pub mod Early
