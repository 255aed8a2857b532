pub mod Failures
pub mod Models
pub mod Opening
pub mod Replays
pub mod Report
pub mod Run
pub mod Running
pub mod Words
