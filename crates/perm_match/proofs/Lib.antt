pub mod Ends
pub mod Grants
pub mod Joins
pub mod RunLaws
pub mod Steps
