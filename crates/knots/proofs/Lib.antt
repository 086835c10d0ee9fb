pub mod Lawfuls
mod Judging
mod Spans
