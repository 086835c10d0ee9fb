pub mod Clamping
pub mod Shapes
pub mod Rowing
pub mod Boxing
pub mod Coordinates
pub mod Turns
