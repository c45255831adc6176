pub mod Joins
pub mod Cutting
pub mod Writing
pub mod Bools
pub mod Heads
pub mod Outcomes
