pub mod Graphs
pub mod Keys
pub mod Names
pub mod Params
pub mod Small
pub mod Sound
