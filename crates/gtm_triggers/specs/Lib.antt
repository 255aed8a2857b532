pub mod Asking
pub mod Comparing
pub mod Holding
pub mod Indexed
pub mod Merged
pub mod Texts
