pub mod Productions
pub mod Coded
pub mod Code
pub mod Statements
