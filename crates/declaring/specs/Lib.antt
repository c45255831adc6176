pub mod Writing
pub mod Written
pub mod Length
pub mod Named
pub mod Lengths
