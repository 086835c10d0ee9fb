pub mod Fractions
pub mod Laws
