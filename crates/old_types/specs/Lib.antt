pub mod Basic
pub mod Size
pub mod Conditions
pub mod Asks
pub mod Table
pub mod Questions
pub mod Cases
pub mod Statements
