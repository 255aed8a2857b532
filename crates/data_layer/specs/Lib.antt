pub mod After
pub mod Change
pub mod Command
pub mod Layer
pub mod Merge
pub mod Rows
pub mod Shown
pub mod Target
