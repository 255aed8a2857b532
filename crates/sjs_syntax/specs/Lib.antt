pub mod Entries
pub mod Formed
pub mod Tree
pub mod View
pub mod Words
