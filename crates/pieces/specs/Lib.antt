pub mod Sections
pub mod Triangle
pub mod Reading
pub mod Around
pub mod Curves
pub mod Examples
