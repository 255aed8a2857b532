pub mod JobTurns
pub mod LogLines
pub mod Openings
pub mod Refusals
pub mod Runs
