pub mod Layout
pub mod Asks
