pub mod Complete
pub mod OneScript
pub mod Params
pub mod Probes
pub mod Skips
