pub mod Counts
pub mod FirstKeys
pub mod Joined
pub mod NamedRest
pub mod ValueTrees
