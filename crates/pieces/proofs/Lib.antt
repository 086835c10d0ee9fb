pub mod Rows
pub mod Sweeps
pub mod Triangles
pub mod Shifts
pub mod Windows
pub mod AsSplines
pub mod Rounding
