pub mod LongestSign
