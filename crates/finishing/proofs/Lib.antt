pub mod Orders
pub mod Moves
pub mod Checks
pub mod Copies
pub mod Equal
