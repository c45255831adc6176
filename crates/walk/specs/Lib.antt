pub mod Offsets
pub mod Orders
pub mod Steps
pub mod Asks
pub mod Show
