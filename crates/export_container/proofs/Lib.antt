pub mod EntriesInRange
pub mod Firsts
pub mod Groups
pub mod Ranges
pub mod Told
