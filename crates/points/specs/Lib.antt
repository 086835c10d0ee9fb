pub mod Lists
pub mod Stored
pub mod Rows
pub mod Boxes
