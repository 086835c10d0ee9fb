pub mod Nearest
pub mod Blends
pub mod Searches
pub mod Orders
