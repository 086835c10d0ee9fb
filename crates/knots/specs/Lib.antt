pub mod Lawful
pub mod Spans
