pub mod FirstPlaces
pub mod FirstRepeats
pub mod Indexing
pub mod ListPlaces
pub mod Orders
pub mod Repeating
