pub mod Planning
pub mod Joining
pub mod Asks
