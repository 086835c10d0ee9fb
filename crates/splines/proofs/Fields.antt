-- The theory over any ordered field, with knots and control points as streams.
pub mod Streams
pub mod Basis
pub mod DeBoor
pub mod Insertion
pub mod Convexity
pub mod Indices
pub mod Raising
pub mod Halves
