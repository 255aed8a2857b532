pub mod Addresses
pub mod EngineState
pub mod Jobs
pub mod Messages
pub mod Run
pub mod RunFault
pub mod Views
