pub mod Closures
pub mod Leading
pub mod Levelling
pub mod Marking
pub mod Searching
pub mod ShortChains
