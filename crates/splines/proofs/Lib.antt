pub mod Fields
pub mod Transfer
pub mod Spans
pub mod Insertion
pub mod Splitting
pub mod Raising
pub mod Grid
