pub mod Conditions
pub mod Filtered
pub mod Groups
pub mod Kept
pub mod Merges
pub mod Places
pub mod Within
