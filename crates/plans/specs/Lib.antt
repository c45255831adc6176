pub mod Moves
pub mod Plans
pub mod Returned
pub mod Cuts
pub mod Statements
