pub mod Agreement
pub mod AskedTexts
pub mod Found
pub mod Trees
