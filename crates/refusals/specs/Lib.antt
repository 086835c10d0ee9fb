pub mod Layers
pub mod Causes
pub mod Order
