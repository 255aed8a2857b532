pub mod Fired
pub mod Marks
