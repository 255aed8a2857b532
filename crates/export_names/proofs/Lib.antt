mod Rows
pub mod Cuts
pub mod FirstUse
pub mod Lacks
pub mod Literals
pub mod LookUps
pub mod Numbered
pub mod Splits
pub mod Twice
pub mod Unique
pub mod Wholes
