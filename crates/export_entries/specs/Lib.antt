pub mod Conditions
pub mod Entries
pub mod Formats
pub mod Tags
pub mod Templates
pub mod Triggers
pub mod Turns
pub mod Variables
