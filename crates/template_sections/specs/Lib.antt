pub mod Cut
pub mod Found
pub mod Headings
pub mod Lines
pub mod Parts
pub mod Scan
