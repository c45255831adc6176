pub mod Arguments
pub mod Verdict
pub mod Paper
pub mod Images
pub mod Extending
pub mod Statements
pub mod Cases
