pub mod Chains
pub mod Founds
pub mod KeptValues
pub mod Pushing
pub mod SoundVariables
pub mod Turns
pub mod Unfolding
