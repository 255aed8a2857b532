pub mod Items
pub mod Parts
pub mod Patterns
pub mod Policies
pub mod Readings
pub mod Rows
pub mod Values
