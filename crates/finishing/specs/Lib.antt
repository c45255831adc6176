pub mod Rest
pub mod Asks
pub mod Steps
