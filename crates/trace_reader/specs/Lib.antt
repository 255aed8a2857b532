pub mod Progress
pub mod Standing
pub mod Trace
