pub mod Rows
pub mod Count
pub mod Image
pub mod Bounded
pub mod Near
pub mod Arrays
pub mod Statements
