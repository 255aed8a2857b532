pub mod Asked
pub mod Calls
pub mod Ends
pub mod Kept
pub mod Meaning
pub mod Snapshot
pub mod Variables
