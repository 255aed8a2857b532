pub mod Depth
pub mod Pass
