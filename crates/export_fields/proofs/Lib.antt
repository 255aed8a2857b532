pub mod Depths
pub mod FirstFaults
pub mod Nested
pub mod Only
