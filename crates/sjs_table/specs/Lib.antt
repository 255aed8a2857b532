pub mod Acts
pub mod Built
pub mod Notes
pub mod Runs
pub mod Symbols
pub mod Table
