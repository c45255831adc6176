pub mod Words
pub mod Moves
pub mod Inside
pub mod Gathers
