pub mod Blend
pub mod Search
