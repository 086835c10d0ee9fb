pub mod Splines
pub mod Edits
pub mod Theorems
