pub mod Rings
pub mod Solver
pub mod Integers
pub mod OrderedFields
pub mod Quotient
pub mod Bridge
pub mod Wholes
mod Laws
